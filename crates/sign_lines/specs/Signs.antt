-- The signs of a text, printed: "for each sign a blank and PLACE:PRINT" (the line program `steps`). In order: a sign; the signs of a text. Not here: what else `steps` prints (crate `proofing`). Assumes
-- nothing.
use Rattle.std.specs.Prelude.{List, [], ◌∷◌, ◌++◌, ℕ, ◌+◌, length}
use Rattle.rules.specs.Cells.{Text}
use Rattle.rules.specs.Signs.{Sign}
use Rattle.printing.specs.Printed.{decimal_of, bytes_of_text}
use Rattle.replies.specs.Replies.{blank}

abbrev pub colon : ℕ
colon = 58

-- "a blank and PLACE:PRINT"
abbrev pub sign_line : ℕ → Text → List ℕ
sign_line place t = blank ∷ decimal_of place ++ colon ∷ bytes_of_text t

-- the signs of a text, each at the place where its cells start
abbrev pub sign_lines : ℕ → List Sign → List ℕ
sign_lines place [] = []
sign_lines place (s ∷ ss) = sign_line place s.shown ++ sign_lines (place + length s.taken) ss
