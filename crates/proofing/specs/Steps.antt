-- What `steps` prints for a line: "`ok` and for each sign a blank and PLACE:PRINT, by the public step alone; or `no N M` as reading refuses, without 6. An empty row prints `ok`."
-- (paper 01: "The proofing screen steps sign by sign .."). In order: what is printed; the promise. Not here: the signs of a text, printed (crate `sign_lines`), the row that a
-- line shows (crate `patterns`). Assumes nothing.
use Rattle.std.specs.Prelude.{List, [], ◌∷◌, ◌++◌, ◌≡◌, ℕ}
use Rattle.rows.specs.Laid.{laid}
use Rattle.rules.specs.Cells.{Text, print}
use Rattle.rules.specs.Castilian.{castilian}
use Rattle.rules.specs.Rows.{signs_of}
use Rattle.rules.specs.Refusals.{Refusal}
use Rattle.rules.specs.Answers.{RowRefused, ReadsAs}
use Rattle.utf8.specs.Decoding.{decoded}
use Rattle.printing.specs.Printed.{Prints}
use Rattle.replies.specs.Replies.{line_end, no_line}
use Rattle.patterns.specs.Patterns.{row_of}
use Rattle.sign_lines.specs.Signs.{sign_lines}

pub data StepsPrints (line : List ℕ) : List ℕ → Type 0 where
  prints_signs : (t : Text) → ReadsAs castilian (row_of line) t → StepsPrints line (print "ok" ++ sign_lines 0 (signs_of castilian t) ++ line_end ∷ [])
  prints_refusal : (x : Refusal) → RowRefused castilian (row_of line) x → StepsPrints line (no_line x)

-- THE PROMISE
pub record StepsLine (line points row out : List ℕ) (r : ℕ) (points' row' out' : List ℕ) : Type 0 where
  pub decoding : points' ≡ laid (decoded line) points
  pub cells : row' ≡ laid (row_of line) row
  pub printed : List ℕ
  pub right : StepsPrints line printed
  pub prints : Prints out 0 printed r out'
