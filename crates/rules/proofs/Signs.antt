-- The signs of an accepted text: their print joins to it, their cells to its row; and what follows for lengths. All of it is by induction on the
-- text's pieces, which `Profile.of_text` gives; the table's test of words bounds each. Assumes nothing.
use mathlib.Core.Path.{◌≡◌, refl, sym, ◌∙◌, ap, subst}
use mathlib.Core.Logic.{◌⊎◌, inl, inr}
use mathlib.Core.Bool.{Bool, true, false, cond}
use mathlib.Core.List.{List, [], ◌∷◌, ◌++◌, map, map-append}
use Prim.Native.Nat.{ℕ, zero, suc, ◌*◌, ◌≤◌, ◌<◌}
use native.Mathlib.Nat.{le_of_suc-le-suc, not-suc-le-zero}
use native.Mathlib.Omega.{arith}
use lib.Dec.{T, leb, leb→le}
use lib.Seq.{append_snoc}
use lib.ListN.{length, length-append, length-map, get_or}
use Rattle.rules.specs.Cells.{Text, Row, last_cell}
use Rattle.rules.specs.Sorts.{Item, Table}
use Rattle.rules.specs.Signs.{Way, denominator, ordinal_mark, Sign, print_of, cells_of}
use Rattle.rules.specs.Rows.{Reads, signs_of}
use Rattle.rules.specs.Demands.{ThreeCellsEach, CellForEachSign, OneOrTwoPoints, SignsJoin}
use Rattle.rules.proofs.Finite.{every, and_left, and_right, and_both}
use Rattle.rules.proofs.Machine.{the_bar, the_stop, ◌by◌, lead_of}
use Rattle.rules.proofs.Pieces.{Piece, word, words, due, lead, items, wait_text, sign_of}
use Rattle.rules.proofs.Reader.{every_in, all_pieces, all_begin_in, begins, AllIn}
use Rattle.rules.proofs.Profile.{Sane, proper_word, print_of_pieces, OfText, of_text, pieces_of}

-- a code point that waits, as print
abbrev code_points : List Item → Text
code_points a = map (λ (i : Item). i.0) a

lead_print : (q : Bool) (w : Way) → code_points (lead q w) ≡ wait_text (lead_of w)
unfolding lead lead_of
lead_print q w = go (w by denominator) (w by ordinal_mark)
  where
    go : (x y : Bool) → code_points (due q (cond x the_bar (cond y the_stop 0))) ≡ wait_text (cond x the_bar (cond y the_stop 0))
    go true y = refl
    go false true = refl
    go false false = refl

print_signs : (q : Bool) (ss : List Piece) → print_of (map sign_of ss) ≡ print_of_pieces q ss
unfolding print_of_pieces items
print_signs q [] = refl
print_signs q (s ∷ ss) =
    ap (λ (t : Text). (wait_text (lead_of s.0) ++ s.1.0 ∷ []) ++ t) (print_signs q ss)
    ∙ append_snoc (wait_text (lead_of s.0)) s.1.0 (print_of_pieces q ss)
    ∙ ap (λ (w : Text). w ++ s.1.0 ∷ print_of_pieces q ss) (sym (lead_print q s.0))
    ∙ sym (map-append (λ (i : Item). i.0) (lead q s.0) (s.1 ∷ items q ss))

cells_signs : (ss : List Piece) → cells_of (map sign_of ss) ≡ words ss
unfolding words
cells_signs [] = refl
cells_signs (s ∷ ss) = ap (λ (r : Row). word s ++ r) (cells_signs ss)

points_signs : (ss : List Piece) → OneOrTwoPoints (map sign_of ss)
unfolding lead_of
points_signs [] = tt
points_signs (s ∷ ss) = (go (s.0 by denominator) (s.0 by ordinal_mark), points_signs ss)
  where
    go : (x y : Bool) → (length (wait_text (cond x the_bar (cond y the_stop 0)) ++ s.1.0 ∷ []) ≡ 1)
        ⊎ (length (wait_text (cond x the_bar (cond y the_stop 0)) ++ s.1.0 ∷ []) ≡ 2)
    go true y = inr refl
    go false true = inr refl
    go false false = inl refl

-- a word's cells, counted
full_word : (s : Piece) (w : Row) → T (begins s w) → 1 ≤ length w
unfolding begins
full_word s [] t = absurd t
full_word s (c ∷ w) t = omega arith

every_append : (f : ℕ → Bool) (w r : Row) → T (every f w) → T (every f r) → T (every f (w ++ r))
every_append f [] r t u = u
every_append f (c ∷ w) r t u =
    and_both (f c) (every f (w ++ r)) (and_left (f c) (every f w) t) (every_append f w r (and_right (f c) (every f w) t) u)

pub every_at : (f : ℕ → Bool) (r : Row) → T (every f r) → (n : ℕ) → n < length r → T (f (get_or r n 0))
every_at f [] t n l = absurd (not-suc-le-zero l)
every_at f (c ∷ r) t zero l = and_left (f c) (every f r) t
every_at f (c ∷ r) t (suc n) l = every_at f r (and_right (f c) (every f r) t) n (le_of_suc-le-suc l)

-- each piece is printed by one code point or more
length_print : (q : Bool) (ss : List Piece) → length ss ≤ length (items q ss)
unfolding items
length_print q [] = omega arith
length_print q (s ∷ ss) = omega (arith, length-append (lead q s.0) (s.1 ∷ items q ss), length_print q ss)

module _ (tb : Table) (sane : Sane tb) where
  word_full : (ss : List Piece) → AllIn ss (all_pieces tb) → length ss ≤ length (words ss)
  unfolding AllIn words
  word_full [] i = omega arith
  word_full (s ∷ ss) i =
      omega
      (arith, length-append (word s) (words ss), full_word s (word s) (all_begin_in (all_pieces tb) sane.begin s i.0), word_full ss i.1)

  word_three : (ss : List Piece) → AllIn ss (all_pieces tb) → length (words ss) ≤ 3 * length ss
  unfolding AllIn words proper_word
  word_three [] i = omega arith
  word_three (s ∷ ss) i =
      let l : length (word s) ≤ 3 =
      leb→le (length (word s)) 3
      (and_left (leb (length (word s)) 3) (every (λ (c : ℕ). leb c last_cell) (word s)) (every_in proper_word (all_pieces tb) sane.proper_words s i.0)) in
      omega (arith, length-append (word s) (words ss), l, word_three ss i.1)

  word_cells : (ss : List Piece) → AllIn ss (all_pieces tb) → T (every (λ (c : ℕ). leb c last_cell) (words ss))
  unfolding AllIn words proper_word
  word_cells [] i = tt
  word_cells (s ∷ ss) i =
      every_append (λ (c : ℕ). leb c last_cell) (word s) (words ss)
      (and_right (leb (length (word s)) 3) (every (λ (c : ℕ). leb c last_cell) (word s)) (every_in proper_word (all_pieces tb) sane.proper_words s i.0))
      (word_cells ss i.1)

  pub signs_join : SignsJoin tb
  signs_join t r e =
      let h : OfText tb sane r t = of_text tb sane r t e in (
        ap print_of h.signs ∙ print_signs sane.shares (pieces_of tb sane t) ∙ h.print,
        ap cells_of h.signs ∙ cells_signs (pieces_of tb sane t) ∙ h.row,
        subst OneOrTwoPoints (sym h.signs) (points_signs (pieces_of tb sane t)),
      )

  pub three_cells_each : ThreeCellsEach tb
  unfolding print_of_pieces
  three_cells_each t r e =
      let h : OfText tb sane r t = of_text tb sane r t e in
      let ss : List Piece = pieces_of tb sane t in
      omega (
        arith,
        ap length h.row,
        ap length h.print,
        length-map (items sane.shares ss) (λ (i : Item). i.0),
        length_print sane.shares ss,
        word_three ss h.inside,
      )

  pub cell_for_each_sign : CellForEachSign tb
  cell_for_each_sign t r e =
      let h : OfText tb sane r t = of_text tb sane r t e in
      let ss : List Piece = pieces_of tb sane t in
      omega (arith, ap length h.row, ap length h.signs, length-map ss sign_of, word_full ss h.inside)

  -- a row's cells are cells
  pub cells_of_text : (t : Text) (r : Row) → Reads tb r t → (n : ℕ) → n < length r → get_or r n 0 ≤ last_cell
  cells_of_text t r e n l =
      let h : OfText tb sane r t = of_text tb sane r t e in
      leb→le (get_or r n 0) last_cell
      (every_at (λ (c : ℕ). leb c last_cell) r (subst (λ (x : Row). T (every (λ (c : ℕ). leb c last_cell) x)) h.row (word_cells (pieces_of tb sane t) h.inside)) n l)

  -- every sign has a cell
  abbrev pub Filled : List Sign → Type 0
  Filled [] = Unit {0}
  Filled (s ∷ ss) = (1 ≤ length s.taken) × Filled ss

  filled : (ss : List Piece) → AllIn ss (all_pieces tb) → Filled (map sign_of ss)
  unfolding AllIn
  filled [] i = tt
  filled (s ∷ ss) i = (full_word s (word s) (all_begin_in (all_pieces tb) sane.begin s i.0), filled ss i.1)

  pub filled_signs : (t : Text) (r : Row) → Reads tb r t → Filled (signs_of tb t)
  filled_signs t r e =
      let h : OfText tb sane r t = of_text tb sane r t e in
      subst Filled (sym h.signs) (filled (pieces_of tb sane t) h.inside)
