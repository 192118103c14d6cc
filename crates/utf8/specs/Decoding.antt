-- The code points of any bytes (paper 01, "The line program"), and the promise. Not here: the code point at the front of some bytes (crate `sequences`). Assumes nothing.
use Rattle.std.specs.Prelude.{List, [], ◌∷◌, ◌≡◌, ℕ, zero, suc, ◌-◌, length, take}
use Rattle.rows.specs.Laid.{laid}
use Rattle.sequences.specs.Points.{length_at, point_at}

-- all code points of some bytes, behind k bytes that still belong to a sequence
abbrev pub decoded_from : ℕ → List ℕ → List ℕ
decoded_from k [] = []
decoded_from (suc k) (b ∷ bs) = decoded_from k bs
decoded_from zero (b ∷ bs) = point_at (b ∷ bs) ∷ decoded_from (length_at (b ∷ bs) - 1) bs

abbrev pub decoded : List ℕ → List ℕ
decoded bs = decoded_from 0 bs

-- WHAT DECODING PROMISES: how many code points the bytes have, and that the lent text begins with them, or with as many as it has room for; behind them it is as
-- it was
pub record Decoded (bytes lent : List ℕ) (r : ℕ) (new : List ℕ) : Type 0 where
  pub count : r ≡ length (decoded bytes)
  pub text : new ≡ laid (take (length lent) (decoded bytes)) lent
