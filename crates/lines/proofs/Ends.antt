-- One byte: it is a line end or it is not, and what each definition by bytes makes of either. Assumes nothing.
use mathlib.Core.Bool.{Bool, true, false}
use mathlib.Core.List.{List, [], ◌∷◌, ◌++◌}
use mathlib.Core.Logic.{◌⊎◌, inl, inr}
use mathlib.Core.Path.{◌≡◌, refl}
use Prim.Native.Nat.{ℕ, suc}
use native.Mathlib.Omega.{arith}
use lib.Dec.{eqb}
use borrow.Author.Tests.{eqb-true, eqb-false, eq-eqb, ne_eqb}
use Rattle.lines.specs.Lines.{line_end, lines_from}
use Rattle.lines.specs.Held.{part_of, ends_in, passed}
use Rattle.lines.specs.Chunks.{add_line, cut_all}

pub end_or_not : (b : ℕ) → (b ≡ line_end) ⊎ (b ≡ line_end → ⊥)
end_or_not b = go (eqb b line_end) refl
  where
    go : (t : Bool) → eqb b line_end ≡ t → (b ≡ line_end) ⊎ (b ≡ line_end → ⊥)
    go true e = inl (eqb-true b line_end e)
    go false e = inr (eqb-false b line_end e)

-- a line end, with bytes behind it
module _ (b : ℕ) (bs : List ℕ) (e : b ≡ line_end) where
  pub lines_end : (s : List ℕ) → lines_from s (b ∷ bs) ≡ s ∷ lines_from [] bs
  lines_end s = rw (eq-eqb b line_end e)

  pub cut_end : (s : List ℕ) → cut_all s (b ∷ bs) ≡ add_line s (cut_all [] bs)
  cut_end s = rw (eq-eqb b line_end e)

  pub part_end : part_of (b ∷ bs) ≡ []
  part_end = rw (eq-eqb b line_end e)

  pub ends_end : ends_in (b ∷ bs) ≡ true
  ends_end = rw (eq-eqb b line_end e)

  pub passed_end : passed (b ∷ bs) ≡ 1
  passed_end = rw (eq-eqb b line_end e)

-- another byte
module _ (b : ℕ) (bs : List ℕ) (n : b ≡ line_end → ⊥) where
  pub lines_on : (s : List ℕ) → lines_from s (b ∷ bs) ≡ lines_from (s ++ b ∷ []) bs
  lines_on s = rw (ne_eqb b line_end n)

  pub cut_on : (s : List ℕ) → cut_all s (b ∷ bs) ≡ cut_all (s ++ b ∷ []) bs
  cut_on s = rw (ne_eqb b line_end n)

  pub part_on : part_of (b ∷ bs) ≡ b ∷ part_of bs
  part_on = rw (ne_eqb b line_end n)

  pub ends_on : ends_in (b ∷ bs) ≡ ends_in bs
  ends_on = rw (ne_eqb b line_end n)

  pub passed_on : passed (b ∷ bs) ≡ suc (passed bs)
  passed_on = rw (ne_eqb b line_end n) (omega arith)
