-- What the functions inside promise one another: the print of a step, from its numbers; the signs of an accepted row, printed. `put_signs` has the last for its
-- promise. Assumes nothing.
use Rattle.std.specs.Prelude.{cond, List, [], ◌∷◌, ℕ, ltb}
use Rattle.rules.specs.Cells.{Text, Row}
use Rattle.rules.specs.Castilian.{castilian}
use Rattle.rules.specs.Rows.{signs_of}
use Rattle.rules.specs.Answers.{ReadsAs}
use Rattle.desk.specs.declared.Sign as desk
use Rattle.printing.specs.Printed.{Prints}
use Rattle.sign_lines.specs.Signs.{sign_lines}

-- "so a step gives one or two code points": which they are
abbrev pub shown_text : desk.Sign → Text
shown_text s = cond (ltb s.second 2) (s.first ∷ []) (s.first ∷ s.then ∷ [])

-- the row is accepted
abbrev pub Accepted : Row → Type 0
Accepted r = (t : Text) × ReadsAs castilian r t

-- all signs of an accepted row are printed from a place of what was lent on
pub record SignsPrinted (row lent : List ℕ) (at r : ℕ) (new : List ℕ) : Type 0 where
  pub text : Text
  pub reads : ReadsAs castilian row text
  pub prints : Prints lent at (sign_lines 0 (signs_of castilian text)) r new
