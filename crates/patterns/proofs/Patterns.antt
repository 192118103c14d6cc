-- The row that a line of characters shows: the laws that the functions cite. In order: between two characters (`Mid`): the bytes still to come, stored
-- behind those that are, make the whole row; the ends of `row_of`; what a caller has of it. Not here: the code points of a line (crate `utf8`). Assumes nothing.
use mathlib.Core.List.{List, [], map}
use mathlib.Core.Path.{◌≡◌, sym, ap, ◌∙◌}
use Prim.Native.Nat.{ℕ, ◌≤◌}
use native.Mathlib.Omega.{arith}
use lib.ListN.{length, take, drop, length-map, drop_of_length-le}
use lib.Seq.{take_all, sets}
use Rattle.rows.specs.Laid.{laid}
use Rattle.rows.proofs.Laid.{length_laid, front}
use Rattle.rows.proofs.Stored.{stored_is}
use Rattle.utf8.specs.Decoding.{decoded, Decoded}
use Rattle.utf8.proofs.Decoding.{all_laid, all_points}
use Rattle.patterns.specs.Patterns.{byte_of, row_of, ShowsRow}

-- what is stored from the front on, where there is room for it
pub stored_all : (v l : List ℕ) → length v ≤ length l → sets l 0 v ≡ laid v l
stored_all v l h = stored_is v l ∙ ap (λ (w : List ℕ). laid w l) (take_all (length l) v h)

-- BETWEEN TWO CHARACTERS
abbrev pub Mid : List ℕ → List ℕ → List ℕ → ℕ → Type 0
Mid text lent row i = sets row i (map byte_of (drop i text)) ≡ sets lent 0 (map byte_of text)

module _ (text lent row : List ℕ) (i : ℕ) (m : Mid text lent row i) where
  pub mid_done : length text ≤ i → length text ≤ length lent → row ≡ laid (map byte_of text) lent
  mid_done h room =
      let none : map byte_of (drop i text) ≡ [] = ap (map byte_of) (drop_of_length-le text {i = i} h) in
      let fits : length (map byte_of text) ≤ length lent = rw (length-map text byte_of) room in
      sym (ap (λ (v : List ℕ). sets row i v) none) ∙ m ∙ stored_all (map byte_of text) lent fits

-- THE ENDS OF `row_of`: n code points were decoded into `text`, which is lent, and became `new`
module _ (line text : List ℕ) (n : ℕ) (new : List ℕ) (room : length line ≤ length text) (d : Decoded line text n new) (few : n ≤ length line) where
  same_length : length new ≡ length text
  same_length = ap length (all_laid line text n new room d few) ∙ length_laid (decoded line) text (omega (arith, d.count, few, room))

  pub shows_row : (row row' : List ℕ) → length line ≤ length row → row' ≡ laid (map byte_of (take n new)) row
      → ShowsRow line text row n new row' × ((n ≤ length new) × (n ≤ length row'))
  shows_row row row' fits e =
      let cells : row' ≡ laid (row_of line) row = e ∙ ap (λ (v : List ℕ). laid (map byte_of v) row) (all_points line text n new room d few) in
      let count : n ≡ length (row_of line) = d.count ∙ sym (length-map (decoded line) byte_of) in
      let whole : length row' ≡ length row = ap length cells ∙ length_laid (row_of line) row (omega (arith, count, few, fits)) in (
        record { count = count; decoding = all_laid line text n new room d few; cells = cells },
        (omega (arith, same_length, few, room), omega (arith, whole, few, fits)),
      )

-- THE ROW OF A LINE is what stands before its count
module _ (line points row : List ℕ) (cells : ℕ) (points' row' : List ℕ) (w : ShowsRow line points row cells points' row') where
  pub row_is : take cells row' ≡ row_of line
  row_is = front (row_of line) row row' cells w.count w.cells

  pub row_count : cells ≡ length (take cells row')
  row_count = w.count ∙ sym (ap length row_is)
