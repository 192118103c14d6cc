-- What is proved of what `steps` prints, as types; each is proved under the same name in snake case in proofs/Claims.antt. In order: every line has a printed line, and
-- one; the printed signs join to the text that reading gives; how much room a printed line asks, and what follows where it is lent; worked lines. Not here: that `steps_line`
-- prints it, which is the function's own promise (`Steps`). Assumes nothing.
use Rattle.std.specs.Prelude.{List, [], ◌∷◌, ◌++◌, ◌≡◌, ℕ, Ok, ◌+◌, ◌*◌, ◌≤◌, length, take}
use Rattle.rows.specs.Laid.{laid}
use Rattle.rules.specs.Cells.{Text, print}
use Rattle.rules.specs.Castilian.{castilian}
use Rattle.rules.specs.Signs.{Sign}
use Rattle.rules.specs.Rows.{signs_of}
use Rattle.rules.specs.Answers.{ReadsAs}
use Rattle.reader.specs.Promise.{Answer, Read}
use Rattle.printing.specs.Printed.{bytes_of_text}
use Rattle.replies.specs.Replies.{line_end}
use Rattle.patterns.specs.Patterns.{row_of}
use Rattle.sign_lines.specs.Signs.{sign_lines}
use Rattle.proofing.specs.Steps.{StepsPrints, StepsLine}

-- every line has a printed line
abbrev pub EveryLineStepped : Type 0
EveryLineStepped = (line : List ℕ) → (p : List ℕ) × StepsPrints line p

-- "any two results allowed by one statement are proved equal"
abbrev pub OneSteppedLine : Type 0
OneSteppedLine = (line p q : List ℕ) → StepsPrints line p → StepsPrints line q → p ≡ q

-- the PRINT parts of some signs, joined
abbrev pub print_parts : List Sign → List ℕ
print_parts [] = []
print_parts (s ∷ ss) = bytes_of_text s.shown ++ print_parts ss

-- Joined, the PRINT parts of a line's signs are its text in UTF-8; and that text is what reading the row gives, with room enough.
abbrev pub StepsJoinToText : Type 0
StepsJoinToText =
    (line : List ℕ) (t : Text) → ReadsAs castilian (row_of line) t
    → (print_parts (signs_of castilian t) ≡ bytes_of_text t)
    × ((lent : List ℕ) (a : Answer) (new : List ℕ) → Read castilian (row_of line) lent a new → length t ≤ length lent
    → (a ≡ Ok (length t)) × (take (length t) new ≡ t))

-- three bytes, and at most 26 for each of the 4,096 code points that a text may have
abbrev pub room_for_steps : ℕ
room_for_steps = 106499

-- The room that a printed line asks: at most 30 bytes for each cell and 45 more; and never more than that.
abbrev pub RoomEnough : Type 0
RoomEnough = (line p : List ℕ) → StepsPrints line p → (length p ≤ 45 + 30 * length (row_of line)) × (length p ≤ room_for_steps)

-- With so much room lent, what stands before the place that is answered is the whole printed line,
abbrev pub WholeLinePrinted : Type 0
WholeLinePrinted =
    (line points row out : List ℕ) (r : ℕ) (points' row' out' : List ℕ) → StepsLine line points row out r points' row' out' → room_for_steps ≤ length out
    → (p : List ℕ) → StepsPrints line p → (take r out' ≡ p) × (out' ≡ laid p out)

-- and any two results are equal: the answer and all that was lent
abbrev pub OneOutcome : Type 0
OneOutcome =
    (line points row out : List ℕ) (r s : ℕ) (points' row' out' points'' row'' out'' : List ℕ)
    → StepsLine line points row out r points' row' out' → StepsLine line points row out s points'' row'' out''
    → (r ≡ s) × (points' ≡ points'') × (row' ≡ row'') × (out' ≡ out'')

-- WORKED LINES: the separating 5 goes with the letter behind it; the full stop of an ordinal goes with its mark; "An empty row prints `ok`."
abbrev pub WorkedSteps : Type 0
WorkedSteps =
    (print "ok" ++ sign_lines 0 (signs_of castilian (print "8b")) ++ line_end ∷ [] ≡ print "ok 0:8 2:b" ++ line_end ∷ [])
    × (print "ok" ++ sign_lines 0 (signs_of castilian (print "1.º A")) ++ line_end ∷ [] ≡ print "ok 0:1 2:." ++ 0xc2 ∷ 0xba ∷ print " 3:  4:A" ++ line_end ∷ [])
    × (print "ok" ++ sign_lines 0 (signs_of castilian (print "")) ++ line_end ∷ [] ≡ print "ok" ++ line_end ∷ [])
