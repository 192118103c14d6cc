-- The code point at the front of some bytes (paper 01, "The line program"). In order: the well-formed sequence there; the code point. Assumes nothing.
use Rattle.std.specs.Prelude.{cond, List, [], ◌∷◌, ℕ, eqb, length, take}
use Rattle.encoding.specs.Encoding.{replacement}
use Rattle.sequences.specs.Forms.{Form, forms, begin, point_of}

-- how many bytes the well-formed sequence has with which some bytes begin; 0 if they begin with none
abbrev pub length_in : List Form → List ℕ → ℕ
length_in [] bs = 0
length_in (f ∷ fs) bs = cond (begin f bs) (length f) (length_in fs bs)

abbrev pub length_at : List ℕ → ℕ
length_at bs = length_in forms bs

-- "A byte outside any well-formed sequence counts as one U+FFFD."
abbrev pub point_by : ℕ → List ℕ → ℕ
point_by n bs = cond (eqb n 0) replacement (point_of (take n bs))

abbrev pub point_at : List ℕ → ℕ
point_at bs = point_by (length_at bs) bs
