-- The second pass in the middle of the signs: the lent row, with the cells of the signs still to come laid behind what is written, is the row that it will
-- be (`Wid`). Assumes nothing.
use mathlib.Core.Path.{◌≡◌, sym, ap, ◌∙◌, subst}
use mathlib.Core.List.{List, ◌++◌}
use Prim.Native.Nat.{ℕ, ◌+◌, ◌-◌, ◌≤◌, ◌<◌}
use native.Mathlib.Omega.{arith}
use lib.ListN.{length, take, drop, get_or}
use borrow.Rule.Slice.PartMut.{put_mid}
use Rattle.rules.specs.Cells.{Row}
use Rattle.rows.specs.Laid.{laid}
use Rattle.rows.proofs.Laid.{turn_room, turn_length, turn_row, turn_count}
use Rattle.entries.specs.SignWords.{cells_in}
use Rattle.writing.specs.Joined.{joined}
use Rattle.writing.proofs.Joined.{joined_here}

-- what `row`, `n` and `i` are between two turns
pub record Wid (signs row₀ row : List ℕ) (n i : ℕ) : Type 0 where
  pub inside : i ≤ length signs
  pub same : length row ≡ length row₀
  pub count : n + length (joined (drop i signs)) ≡ length (joined signs)
  pub laid_on : take n row ++ laid (joined (drop i signs)) (drop n row) ≡ laid (joined signs) row₀

module _ (signs row₀ : List ℕ) where
  module _ (row : List ℕ) (n i : ℕ) (m : Wid signs row₀ row n i) (room₀ : length (joined signs) ≤ length row₀) where
    module _ (l : i < length signs) where
      -- the sign at hand, and what is still to come
      abbrev here : Row
      here = cells_in (get_or signs i 0)

      abbrev rest : Row
      rest = joined (drop (i + 1) signs)

      row_is : joined (drop i signs) ≡ here ++ rest
      row_is = joined_here signs i l

      fits_row : n + length (here ++ rest) ≤ length row
      fits_row = omega (arith, ap length row_is, m.count, m.same)

      -- what the writer of the sign is lent has room for it
      pub wid_room : length here ≤ length (take (length row - n) (drop n row))
      wid_room = turn_room row n here rest fits_row

      turn : (r : ℕ) (left : List ℕ) → r ≡ length here → left ≡ laid here (take (length row - n) (drop n row))
          → Wid signs row₀ (put_mid n (length row - n) row left) (n + r) (i + 1)
      turn r left count wrote =
          record {
            inside = omega arith;
            same = turn_length row n here rest left r fits_row count wrote ∙ m.same;
            count = turn_count row n here rest left r fits_row count wrote ∙ ap (λ (x : Row). n + length x) (sym row_is) ∙ m.count;
            laid_on =
                turn_row row n here rest left r fits_row count wrote
                ∙ ap (λ (x : Row). take n row ++ laid x (drop n row)) (sym row_is) ∙ m.laid_on;
          }

      -- what it left there is a turn
      pub wid_on : (r : ℕ) (left new : List ℕ) → r ≡ length here → left ≡ laid here (take (length row - n) (drop n row))
          → new ≡ put_mid n (length row - n) row left → Wid signs row₀ new (n + r) (i + 1)
      wid_on r left new count wrote is_new = subst (λ (x : List ℕ). Wid signs row₀ x (n + r) (i + 1)) (sym is_new) (turn r left count wrote)
