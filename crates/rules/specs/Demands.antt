-- What is demanded of the rules: the letter's three demands, and paper 01's own, each a type that is proved under the same name in snake case
-- (`OneText` by `one_text`) in proofs/Demands.antt. They are stated over a profile's table and hold of `castilian`. Start here. Assumes nothing.
use Rattle.std.specs.Prelude.{false, List, [], ◌∷◌, ◌++◌, reverse, ◌↔◌, ◌⊎◌, ◌≡◌, ℕ, ◌*◌, ◌≤◌, ◌<◌, length}
use Rattle.rules.specs.Cells.{Text, Row}
use Rattle.rules.specs.Sorts.{Table}
use Rattle.rules.specs.Signs.{Sign, print_of, cells_of}
use Rattle.rules.specs.Pairs.{open_after}
use Rattle.rules.specs.Normal.{normal_of}
use Rattle.rules.specs.Places.{Cause, breaks_pair}
use Rattle.rules.specs.Rows.{items_in, Reads, Accepted, Fault, FirstFault, Faultless, LeftOpen, Verdict, good, bad, verdict_of, signs_of}
use Rattle.rules.specs.Refusals.{Refusal, no_text, longest_text}
use Rattle.rules.specs.Answers.{Answer, gives, refuses, PrintAnswer, ProperRow, ReadsAs, RowAnswer}
use Rattle.rules.specs.Screen.{StepAnswer, shows, Stepped}
use Rattle.rules.specs.Worked.{lines, AllHold}

-- DEMAND 1. "Every sequence of numbers offered as print and every sequence of bytes offered as cells gets an answer, with no condition on the
-- caller."
abbrev pub EveryPrintAnswered : Table → Type 0
EveryPrintAnswered tb = (p : Text) (room : ℕ) → (a : Answer) × PrintAnswer tb p room a

abbrev pub EveryRowAnswered : Table → Type 0
EveryRowAnswered tb = (r : Row) (room : ℕ) → (a : Answer) × RowAnswer tb r room a

abbrev pub EveryStepAnswered : Table → Type 0
EveryStepAnswered tb = (r : Row) (n : ℕ) → (a : StepAnswer) × Stepped tb r n a

-- "any two results allowed by one statement are proved equal"
abbrev pub OnePrintAnswer : Table → Type 0
OnePrintAnswer tb = (p : Text) (room : ℕ) (a b : Answer) → PrintAnswer tb p room a → PrintAnswer tb p room b → a ≡ b

abbrev pub OneRowAnswer : Table → Type 0
OneRowAnswer tb = (r : Row) (room : ℕ) (a b : Answer) → RowAnswer tb r room a → RowAnswer tb r room b → a ≡ b

abbrev pub OneStepAnswer : Table → Type 0
OneStepAnswer tb = (r : Row) (n : ℕ) (a b : StepAnswer) → Stepped tb r n a → Stepped tb r n b → a ≡ b

-- DEMAND 2. "A text is refused exactly when the rules give it no row, when it exceeds a length, or when the row does not fit the room lent."
abbrev pub RefusedExactly : Table → Type 0
RefusedExactly tb =
    (p : Text) (room : ℕ) → ((x : Refusal) × PrintAnswer tb p room (refuses x))
    ↔ ((longest_text < length (normal_of p))
    ⊎ ((Accepted tb (normal_of p) → ⊥) ⊎ ((r : Row) × Reads tb r (normal_of p) × (room < length r))))

-- "The cells are those of the sign rules, and reading them, with room enough, gives back the normalised print."
abbrev pub ReadsBack : Table → Type 0
ReadsBack tb =
    (p : Text) (room : ℕ) (r : Row) → PrintAnswer tb p room (gives r) → (enough : ℕ) → length (normal_of p) ≤ enough
    → RowAnswer tb r enough (gives (normal_of p))

-- DEMAND 3. "at most one normalised text that the rules accept has that row"
abbrev pub OneText : Table → Type 0
OneText tb = (r : Row) (t u : Text) → Reads tb r t → Reads tb r u → t ≡ u

-- "The reader returns that text if it exists and fits"
abbrev pub GivesTheText : Table → Type 0
GivesTheText tb = (r : Row) (t : Text) (room : ℕ) → ReadsAs tb r t → length t ≤ room → RowAnswer tb r room (gives t)

-- "it says "no text" exactly when none of any length has the row"
abbrev pub NoTextExactly : Table → Type 0
NoTextExactly tb = (r : Row) (room : ℕ) → RowAnswer tb r room (refuses no_text) ↔ (ProperRow r × ((t : Text) → Reads tb r t → ⊥))

-- "The sixteen lines above are proved of the sign rules as a table under a single statement"
abbrev pub Worked : Type 0
Worked = AllHold lines

-- "Normalising is done first": doing it twice is doing it once; what is accepted is normal; no code point becomes more than three.
abbrev pub NormalTwice : Type 0
NormalTwice = (p : Text) → normal_of (normal_of p) ≡ normal_of p

abbrev pub AcceptedIsNormal : Table → Type 0
AcceptedIsNormal tb = (t : Text) → Accepted tb t → normal_of t ≡ t

abbrev pub NormalLength : Type 0
NormalLength = (p : Text) → length (normal_of p) ≤ 3 * length p

-- "No place has two faults."
abbrev pub OneFaultEach : Table → Type 0
OneFaultEach tb = (t : Text) (n : ℕ) (c d : Cause) → Fault tb t n c → Fault tb t n d → c ≡ d

-- "the least place among 2 to 5"; "text length if something is open at the end"
abbrev pub VerdictMeans : Table → Text → Verdict → Type 0
VerdictMeans tb t good = Accepted tb t
VerdictMeans tb t (bad c n) = FirstFault tb t n c ⊎ ((c ≡ breaks_pair) × (n ≡ length t) × Faultless tb t × LeftOpen tb t)

abbrev pub VerdictIsLeast : Table → Type 0
VerdictIsLeast tb = (t : Text) → VerdictMeans tb t (verdict_of tb t)

-- a text has a row exactly when no place has a fault and nothing is open at the end
abbrev pub RowExactly : Table → Type 0
RowExactly tb = (t : Text) → Accepted tb t ↔ (Faultless tb t × (LeftOpen tb t → ⊥))

-- "and all are closed at the end": if nothing is left open, no kind at all is, whatever its number
abbrev pub ClosedMeansAll : Table → Type 0
ClosedMeansAll tb = (t : Text) → (LeftOpen tb t → ⊥) → (k : ℕ) → open_after (reverse (items_in tb t)) k ≡ false

-- "The row of an accepted text never has more than three cells for each normalised code point."
abbrev pub ThreeCellsEach : Table → Type 0
ThreeCellsEach tb = (t : Text) (r : Row) → Reads tb r t → length r ≤ 3 * length t

-- never fewer cells than signs
abbrev pub CellForEachSign : Table → Type 0
CellForEachSign tb = (t : Text) (r : Row) → Reads tb r t → length (signs_of tb t) ≤ length r

-- the signs' print is the text, their cells are its row; "so a step gives one or two code points"
abbrev pub OneOrTwoPoints : List Sign → Type 0
OneOrTwoPoints [] = Unit {0}
OneOrTwoPoints (s ∷ ss) = ((length s.shown ≡ 1) ⊎ (length s.shown ≡ 2)) × OneOrTwoPoints ss

abbrev pub SignsJoin : Table → Type 0
SignsJoin tb =
    (t : Text) (r : Row) → Reads tb r t → (print_of (signs_of tb t) ≡ t) × (cells_of (signs_of tb t) ≡ r) × OneOrTwoPoints (signs_of tb t)

-- Steps from place n to the row's end, each from where the one before it ended: the code points that they show, joined.
abbrev pub Walks : Table → Row → ℕ → List Text → Type 0
Walks tb r n [] = n ≡ length r
Walks tb r n (points ∷ rest) =
    (m : ℕ) × Stepped tb r n (shows (record { points = points; next = m })) × (n < m) × Walks tb r m rest

abbrev pub joined : List Text → Text
joined [] = []
joined (points ∷ rest) = points ++ joined rest

-- "The proofing screen steps sign by sign": the steps of an accepted row from 0 on show its text
abbrev pub StepsShowText : Table → Type 0
StepsShowText tb = (r : Row) (t : Text) → ReadsAs tb r t → (steps : List Text) × Walks tb r 0 steps × (joined steps ≡ t)
