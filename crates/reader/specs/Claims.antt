-- What follows from the promise of `read`, as types; each is proved of any table that is sane, and of the Castilian one, under the same name in snake case in
-- proofs/Claims.antt. `Read tb r lent a new` is the promise: row r, a lent text that held `lent`, answer a, and then `new`. Assumes nothing.
use Rattle.std.specs.Prelude.{List, ◌↔◌, ◌≡◌, ℕ, Ok, Err, ◌+◌, ◌≤◌, ◌<◌, length, take, get_or}
use Rattle.std.proofs.Math.Option.{some}
use Rattle.rules.specs.Cells.{Text, Row}
use Rattle.rules.specs.Sorts.{Table}
use Rattle.rules.specs.Rows.{Reads}
use Rattle.rules.specs.Refusals.{Refusal}
use Rattle.rules.specs.Answers.{ProperRow, ReadsAs}
use Rattle.reader.specs.declared.Refusal.TheVariants.{NoText, NeedsRoom}
use Rattle.reader.specs.Promise.{Answer, refusal_of, Read}
use Rattle.reader.specs.Passes.{FirstHigh}

-- "any two results allowed by one statement are proved equal"
abbrev pub OneOutcome : Table → Type 0
OneOutcome tb =
    (r : Row) (lent : List ℕ) (a b : Answer) (new old : List ℕ) → Read tb r lent a new → Read tb r lent b old → (a ≡ b) × (new ≡ old)

-- "On success the answer is the count written": the count is the length of the text that has the row, and the lent text begins with it
abbrev pub CountIsLength : Table → Type 0
CountIsLength tb =
    (r : Row) (lent : List ℕ) (n : ℕ) (new : List ℕ) → Read tb r lent (Ok n) new
    → (t : Text) × ReadsAs tb r t × (n ≡ length t) × (take n new ≡ t)

-- "all elements after the count are as they were", and there are as many
abbrev pub RestAsItWas : Table → Type 0
RestAsItWas tb =
    (r : Row) (lent : List ℕ) (n : ℕ) (new : List ℕ) → Read tb r lent (Ok n) new
    → (length new ≡ length lent) × ((k : ℕ) → get_or new (n + k) 0 ≡ get_or lent (n + k) 0)

-- "A refusal writes nothing."
abbrev pub Refuses : Answer → Type 0
Refuses a = (x : Refusal) × (refusal_of a ≡ some x)

abbrev pub RefusalWritesNothing : Table → Type 0
RefusalWritesNothing tb = (r : Row) (lent : List ℕ) (a : Answer) (new : List ℕ) → Read tb r lent a new → Refuses a → new ≡ lent

-- Demand 3: "The reader returns that text if it exists and fits"
abbrev pub ReturnsTheText : Table → Type 0
ReturnsTheText tb =
    (r : Row) (lent : List ℕ) (a : Answer) (new : List ℕ) → Read tb r lent a new → (t : Text) → ReadsAs tb r t → length t ≤ length lent
    → (a ≡ Ok (length t)) × (take (length t) new ≡ t)

-- Demand 3: "it says "no text" exactly when none of any length has the row"
abbrev pub NoTextExactly : Table → Type 0
NoTextExactly tb =
    (r : Row) (lent : List ℕ) (a : Answer) (new : List ℕ) → Read tb r lent a new
    → (a ≡ Err NoText) ↔ (ProperRow r × ((t : Text) → Reads tb r t → ⊥))

-- "with room enough": what is needed is more than was lent, and never more than one element for each cell of the row. (Of the Castilian table only: it hangs on the signs.)
abbrev pub RowIsRoom : Table → Type 0
RowIsRoom tb = (r : Row) (lent : List ℕ) (n : ℕ) (new : List ℕ) → Read tb r lent (Err (NeedsRoom n)) new → (length lent < n) × (n ≤ length r)

-- of `first_high`, whatever the table: any two places that it may give are equal
abbrev pub OneFirstHigh : Type 0
OneFirstHigh = (r : Row) (m n : ℕ) → FirstHigh r m → FirstHigh r n → m ≡ n
