-- The step at a place of a row is what the rules' reader finds there, and so one turn of a walk over the row. In order: the cells in view; what the code
-- reads does not hang on cells that it does not ask for; the step is the sign found (`found`); one turn, and its ends; no more code points than cells. Assumes nothing.
use mathlib.Core.Path.{◌≡◌, refl, sym, ◌∙◌, ap, subst}
use mathlib.Core.Bool.{Bool, true, false, ◌&&◌, ◌||◌, not, cond, true≢false}
use mathlib.Core.List.{List, [], ◌∷◌, ◌++◌}
use mathlib.Core.Logic.{⊎_elim}
use mathlib.Core.Option.{Option, none, some}
use Prim.Native.Nat.{ℕ, zero, suc, ◌+◌, ◌-◌, ◌≤◌, ◌<◌}
use Prim.Native.Char.{code}
use native.Mathlib.Omega.{arith}
use native.Mathlib.Nat.{not-suc-le-zero}
use lib.Dec.{T, eqb, leb, ltb, ltb→lt, eqb→eq}
use borrow.Author.Tests.{leb-true}
use lib.ListN.{length, get_or, drop, length-append, length-drop, drop_of_length-le, get_or-append}
use lib.Seq.{get_or-drop, drop-drop}
use Rattle.rules.specs.Cells.{Row, dots, last_cell}
use Rattle.rules.specs.Castilian.{castilian}
use Rattle.rules.specs.Sorts.{class, is_digit_cell}
use Rattle.rules.specs.Signs.{Sign, print_of}
use Rattle.rules.specs.Places.{class_at}
use Rattle.rules.specs.Pairs.{kinds, Opens, mark_of, mark_fits, mark_turns, fits, turn}
use Rattle.rules.proofs.Finite.{every, below, at_below, false_of, le_or_lt}
use Rattle.rules.proofs.States.{Mode}
use Rattle.rules.proofs.Enumerations.{modes, mode_number, mode_back_number}
use Rattle.rules.proofs.Machine.{at_rest, lead_of, step}
use Rattle.rules.proofs.Pieces.{Piece, word, wait_text, sign_of}
use Rattle.rules.proofs.Signs.{every_at}
use Rattle.rules.proofs.Reader.{In, every_in, ways_of, look_of, match, match_split, goes, goes_some, find, find_some, pred_length, add, walk, all_pieces}
use Rattle.entries.specs.Chosen.{choose}
use Rattle.entries.proofs.Keys.{among, keys_of, chosen_key}
use Rattle.pairs.specs.Opened.{open_states, opens_of}
use Rattle.pairs.proofs.Pairing.{open_is, opening, closing, turned_few, closed_is}
use Rattle.readings.specs.Modes.{mode_of, mode_count, number_of, spare}
use Rattle.readings.specs.Acts as act
use Rattle.readings.specs.Fields.{deed_of, class_in, usual_in, no_cell, cell_from, cell_of}
use Rattle.readings.specs.Words.{word_of}
use Rattle.readings.specs.Readings.{Reading, usual_by, once_list, ask_list, reading_of, by_word, asked_by, capital_by, prefix_by, two_of, longer_by, shown, a_step, step_of, step_at}
use Rattle.readings.specs.Left.{left, signs_by, add_sign}
use Rattle.readings.specs.Print.{points}
use Rattle.readings.specs.declared.Step.{Step}
use Rattle.std.specs.declared.option.Option as rust
use Rattle.std.specs.Prelude.{Some, None}
use Rattle.readings.proofs.Numbers.{number_back}
use Rattle.readings.proofs.Sight.{low, Agree}
use Rattle.readings.proofs.Settling.{Cand, cands, pick, bucket, sound_word, sound_low, opened_by, step_by, find_picks, bucket_picks, cands_sound, bucket_sound, settle, settled, is_true}
use Rattle.readings.proofs.Tested.{begun, asks, deeper, sights, right_two, right_one, right_at, all_right, all_sound, thrifty, all_thrifty}

-- THE CELLS IN VIEW
one_cell : (r : Row) → Agree (cell_of r 0 ∷ []) r
one_cell [] = (refl, tt)
one_cell (c ∷ r) = (refl, tt)

two_cells : (r : Row) → Agree (cell_of r 0 ∷ cell_of r 1 ∷ []) r
two_cells [] = (refl, (refl, tt))
two_cells (c ∷ []) = (refl, (refl, tt))
two_cells (c ∷ d ∷ r) = (refl, (refl, tt))

three_cells : (r : Row) → Agree (cell_of r 0 ∷ cell_of r 1 ∷ cell_of r 2 ∷ []) r
three_cells [] = (refl, (refl, (refl, tt)))
three_cells (c ∷ []) = (refl, (refl, (refl, tt)))
three_cells (c ∷ d ∷ []) = (refl, (refl, (refl, tt)))
three_cells (c ∷ d ∷ e ∷ r) = (refl, (refl, (refl, tt)))

pub sight_small : (c : ℕ) → cell_from c < sights
sight_small c = go (leb c last_cell) refl
  where
    go : (b : Bool) → leb c last_cell ≡ b → cond b c no_cell < sights
    go true e = omega (arith, leb-true c last_cell e)
    go false e = omega arith

-- WHAT IS NOT ASKED FOR DOES NOT MATTER
once_same : (m x y z v w : ℕ) → asks m (word_of x) ≡ false → reading_of m x y z ≡ reading_of m x v w
unfolding reading_of by_word
once_same m x y z v w e = go (usual_in (word_of x) m) e
  where
    d : ℕ
    d = deed_of m (class_in (word_of x))

    go : (u : Bool) → not (u || among (keys_of (once_list (word_of x))) (deed_of m (class_in (word_of x)))) ≡ false
        → cond u (usual_by (word_of x)) (choose (once_list (word_of x)) (deed_of m (class_in (word_of x))) (asked_by m (deed_of m (class_in (word_of x))) (word_of x) y z))
        ≡ cond u (usual_by (word_of x)) (choose (once_list (word_of x)) (deed_of m (class_in (word_of x))) (asked_by m (deed_of m (class_in (word_of x))) (word_of x) v w))
    go true e = refl
    go false e = chosen_key (once_list (word_of x)) (deed_of m (class_in (word_of x))) _ _ (not_not (among (keys_of (once_list (word_of x))) (deed_of m (class_in (word_of x)))) e)
      where
        not_not : (b : Bool) → not b ≡ false → b ≡ true
        not_not true e = refl
        not_not false e = absurd (true≢false e)

or_left : (a b : Bool) → (a || b) ≡ false → a ≡ false
or_left true b e = e
or_left false b e = refl

or_right : (a b : Bool) → (a || b) ≡ false → b ≡ false
or_right true b e = absurd (true≢false e)
or_right false b e = e

asked_same : (m d w y z v : ℕ) → deeper d w y ≡ false → asked_by m d w y z ≡ asked_by m d w y v
unfolding asked_by prefix_by longer_by capital_by
asked_same m d w y z v e = go (eqb d act.capital) refl
  where
    no_percent : eqb (two_of w y) (code "%") ≡ false
    no_percent = or_right (eqb d act.capital && eqb y (dots 46)) (eqb (two_of w y) (code "%")) e

    no_run : (eqb d act.capital && eqb y (dots 46)) ≡ false
    no_run = or_left (eqb d act.capital && eqb y (dots 46)) (eqb (two_of w y) (code "%")) e

    go : (b : Bool) → eqb d act.capital ≡ b → choose (ask_list m w y z) d (prefix_by d w y z) ≡ choose (ask_list m w y v) d (prefix_by d w y v)
    go true f =
        let c : eqb y (dots 46) ≡ false = ap (λ (t : Bool). t && eqb y (dots 46)) (sym f) ∙ no_run in
        rw (eqb→eq d act.capital (subst T (sym f) tt), c) refl
    go false f = rw (f, no_percent) refl

two_same : (m x y z v : ℕ) → deeper (deed_of m (class_in (word_of x))) (word_of x) y ≡ false → reading_of m x y z ≡ reading_of m x y v
unfolding reading_of by_word
two_same m x y z v e = rw (asked_same m (deed_of m (class_in (word_of x))) (word_of x) y z v e)

-- THE STEP IS WHAT IS FOUND. Of any row that is left: by the cells in view
module _ (r : Row) (m o at : ℕ) (small : m < mode_count) (few : o < open_states) where
  at_mode : T (right_one m (cell_of r 0) (cands (mode_of m) (begun (cell_of r 0))))
  unfolding right_at
  at_mode =
      at_below (λ n. right_one n (cell_of r 0) (cands (mode_of n) (begun (cell_of r 0)))) mode_count
      (at_below right_at sights all_right (cell_of r 0) (sight_small (get_or r 0 no_cell))) m small

  sound : T (every (λ (c : Cand). sound_word (word c.0)) (cands (mode_of m) (bucket (cell_of r 0) (all_pieces castilian))))
  sound = cands_sound (mode_of m) (bucket (cell_of r 0) (all_pieces castilian)) (bucket_sound (cell_of r 0) (all_pieces castilian) all_sound)

  abbrev Found : Reading → Type 0
  Found v = step_by at o (pick (opens_of o) r (cands (mode_of m) (bucket (cell_of r 0) (all_pieces castilian)))) ≡ step_of at o v

  by_two : T (right_two m (cell_of r 0) (cell_of r 1) (cands (mode_of m) (begun (cell_of r 0)))) → Found (reading_of m (cell_of r 0) (cell_of r 1) (cell_of r 2))
  unfolding right_two begun
  by_two t = go (deeper (deed_of m (class_in (word_of (cell_of r 0)))) (word_of (cell_of r 0)) (cell_of r 1)) refl t
    where
      go : (b : Bool) → deeper (deed_of m (class_in (word_of (cell_of r 0)))) (word_of (cell_of r 0)) (cell_of r 1) ≡ b
          → T (elim b as (λ _. Bool) [
            | true ↦ below (λ n. settle (cell_of r 0 ∷ cell_of r 1 ∷ n ∷ []) (cands (mode_of m) (begun (cell_of r 0))) (reading_of m (cell_of r 0) (cell_of r 1) n)) sights
            | false ↦ settle (cell_of r 0 ∷ cell_of r 1 ∷ []) (cands (mode_of m) (begun (cell_of r 0))) (reading_of m (cell_of r 0) (cell_of r 1) no_cell)
          ])
          → Found (reading_of m (cell_of r 0) (cell_of r 1) (cell_of r 2))
      go true e t =
          settled (cell_of r 0 ∷ cell_of r 1 ∷ cell_of r 2 ∷ []) r at o few (three_cells r) _ _ sound
          (at_below (λ n. settle (cell_of r 0 ∷ cell_of r 1 ∷ n ∷ []) (cands (mode_of m) (begun (cell_of r 0))) (reading_of m (cell_of r 0) (cell_of r 1) n)) sights t (cell_of r 2) (sight_small (get_or r 2 no_cell)))
      go false e t =
          subst Found (two_same m (cell_of r 0) (cell_of r 1) no_cell (cell_of r 2) e)
          (settled (cell_of r 0 ∷ cell_of r 1 ∷ []) r at o few (two_cells r) _ _ sound t)

  by_one : T (right_one m (cell_of r 0) (cands (mode_of m) (begun (cell_of r 0)))) → Found (reading_of m (cell_of r 0) (cell_of r 1) (cell_of r 2))
  unfolding right_one begun
  by_one t = go (asks m (word_of (cell_of r 0))) refl t
    where
      go : (b : Bool) → asks m (word_of (cell_of r 0)) ≡ b
          → T (elim b as (λ _. Bool) [
            | true ↦ below (λ n. right_two m (cell_of r 0) n (cands (mode_of m) (begun (cell_of r 0)))) sights
            | false ↦ settle (cell_of r 0 ∷ []) (cands (mode_of m) (begun (cell_of r 0))) (reading_of m (cell_of r 0) no_cell no_cell)
          ])
          → Found (reading_of m (cell_of r 0) (cell_of r 1) (cell_of r 2))
      go true e t =
          by_two (at_below (λ n. right_two m (cell_of r 0) n (cands (mode_of m) (begun (cell_of r 0)))) sights t (cell_of r 1) (sight_small (get_or r 1 no_cell)))
      go false e t =
          subst Found (once_same m (cell_of r 0) no_cell no_cell (cell_of r 1) (cell_of r 2) e)
          (settled (cell_of r 0 ∷ []) r at o few (one_cell r) _ _ sound t)

  pub found : step_by at o (find (all_pieces castilian) (mode_of m) (opens_of o) r) ≡ step_of at o (reading_of m (cell_of r 0) (cell_of r 1) (cell_of r 2))
  found =
      ap (step_by at o)
      (find_picks (mode_of m) (opens_of o) r (all_pieces castilian) ∙ bucket_picks (mode_of m) (opens_of o) (cell_of r 0) r (all_pieces castilian) all_sound (one_cell r))
      ∙ by_one at_mode

module _ (row : Row) (at m o : ℕ) (small : m < mode_count) (few : o < open_states) where
  in_view : (i : ℕ) → cell_of (drop at row) i ≡ cell_of row (at + i)
  in_view i = ap cell_from (get_or-drop at row i no_cell)

  at_zero : at + 0 ≡ at
  at_zero = omega arith

  pub step_found : step_by at o (find (all_pieces castilian) (mode_of m) (opens_of o) (drop at row)) ≡ step_at row at m o
  unfolding step_at
  step_found =
      found (drop at row) m o at small few
      ∙ ap (λ (x : ℕ). step_of at o (reading_of m x (cell_of (drop at row) 1) (cell_of (drop at row) 2))) (in_view 0 ∙ ap (cell_of row) at_zero)
      ∙ ap (λ (y : ℕ). step_of at o (reading_of m (cell_of row at) y (cell_of (drop at row) 2))) (in_view 1)
      ∙ ap (λ (z : ℕ). step_of at o (reading_of m (cell_of row at) (cell_of row (at + 1)) z)) (in_view 2)

-- ONE TURN of a walk over the row: what a step that gives a sign says
pub record Turn (row : Row) (at m o : ℕ) (l : rust.Option ℕ) (p k n u : ℕ) : Type 0 where
  pub sign : Sign
  pub shows : sign.shown ≡ points l p
  pub next_is : k ≡ at + length sign.taken
  pub forward : at < k
  pub within : k ≤ length row
  pub cells : (i : ℕ) → at ≤ i → i < k → get_or row i 0 ≤ last_cell
  pub thrift : length (points l p) + spare n + at ≤ k + spare m
  pub mode : n < mode_count
  pub opens : u < open_states
  pub signs_left : left m o (drop at row) ≡ add_sign sign (left n u (drop k row))

-- facts of every piece: its word has a cell; its mark, if it is one, is of a kind that is counted
abbrev known_mark : Option (ℕ × Bool) → Bool
known_mark none = true
known_mark (some a) = ltb a.0 kinds

all_known : T (every (λ (s : Piece). known_mark (mark_of s.1.1)) (all_pieces castilian))
unfolding all_pieces castilian ways_of class is_digit_cell dots mark_of
all_known = tt

filled_word : (w : Row) → T (sound_word w) → 1 ≤ length w
unfolding sound_word
filled_word [] t = absurd t
filled_word (c ∷ w) t = omega arith

modes_small : T (every (λ n. ltb (mode_number n) mode_count) modes.members)
modes_small = tt

mode_small : (n : Mode) → mode_number n < mode_count
mode_small n = ltb→lt (mode_number n) mode_count (modes.at (λ k. ltb (mode_number k) mode_count) modes_small n)

-- the pairs that a piece leaves open
turned : (o : ℕ) → o < open_states → (x : Option (ℕ × Bool)) → T (known_mark x) → T (mark_fits (opens_of o) x)
    → (mark_turns x (opens_of o) ≡ opens_of (opened_by o x)) × (opened_by o x < open_states)
turned o few none t f = (refl, few)
turned o few (some (k, true)) t f =
    let l : k < kinds = ltb→lt k kinds t in
    (opening o k few l (sym (open_is o k few l) ∙ false_of (opens_of o k) f), turned_few o k few l)
turned o few (some (k, false)) t f =
    let l : k < kinds = ltb→lt k kinds t in
    (closing o k few l (sym (open_is o k few l) ∙ is_true (opens_of o k) f), turned_few o k few l)

-- the rules' walk, a piece on
walk_skip : (tb : List Piece) (m : Mode) (o : Opens) (k : ℕ) (r : Row) → walk tb m o k r ≡ walk tb m o 0 (drop k r)
unfolding walk
walk_skip tb m o zero [] = refl
walk_skip tb m o zero (x ∷ r) = refl
walk_skip tb m o (suc k) [] = refl
walk_skip tb m o (suc k) (x ∷ r) = walk_skip tb m o k r

walk_on : (tb : List Piece) (m : Mode) (o : Opens) (r : Row) (s : Piece) (n : Mode) → 0 < length r → find tb m o r ≡ some (s, n) → 1 ≤ length (word s)
    → walk tb m o 0 r ≡ add s (walk tb n (turn s.1.1 o) 0 (drop (length (word s)) r))
unfolding walk
walk_on tb m o [] s n h e k = absurd (not-suc-le-zero h)
walk_on tb m o (x ∷ r) s n h e k =
    ap (λ (g : Option (Piece × Mode)). elim g as (λ _. Option (List Piece))
    [ none ↦ none | some p ↦ add p.0 (walk tb p.1 (turn p.0.1.1 o) (pred_length (word p.0)) r) ]) e
    ∙ ap (add s) (walk_skip tb n (turn s.1.1 o) (pred_length (word s)) r ∙ ap (walk tb n (turn s.1.1 o) 0) (tail (word s) k))
  where
    tail : (w : Row) → 1 ≤ length w → drop (pred_length w) r ≡ drop (length w) (x ∷ r)
    tail [] h = absurd (not-suc-le-zero h)
    tail (y ∷ w) h = refl

walk_none : (tb : List Piece) (m : Mode) (o : Opens) (r : Row) → 0 < length r → find tb m o r ≡ none → walk tb m o 0 r ≡ none
unfolding walk
walk_none tb m o [] h e = absurd (not-suc-le-zero h)
walk_none tb m o (x ∷ r) h e =
    ap (λ (g : Option (Piece × Mode)). elim g as (λ _. Option (List Piece))
    [ none ↦ none | some p ↦ add p.0 (walk tb p.1 (turn p.0.1.1 o) (pred_length (word p.0)) r) ]) e

signs_add : (s : Piece) (x : Option (List Piece)) → signs_by (add s x) ≡ add_sign (sign_of s) (signs_by x)
unfolding add
signs_add s none = refl
signs_add s (some ss) = refl

shown_is : (l p : ℕ) → wait_text l ++ p ∷ [] ≡ points (shown l) p
shown_is l p = go (eqb l 0)
  where
    go : (b : Bool) → cond b [] (l ∷ []) ++ p ∷ [] ≡ points (cond b None (Some l)) p
    go true = refl
    go false = refl

module _ (row : Row) (at m o : ℕ) (inside : at < length row) (small : m < mode_count) (few : o < open_states) where
  abbrev tb : List Piece
  tb = all_pieces castilian

  some_left : 0 < length (drop at row)
  some_left = omega (arith, length-drop at row)

  module _ (s : Piece) (N : Mode) (e : find (all_pieces castilian) (mode_of m) (opens_of o) (drop at row) ≡ some (s, N)) where
    it : In s tb × (goes (mode_of m) (opens_of o) s ≡ some N) × T (match (word s) (drop at row) (look_of N))
    it = find_some tb (mode_of m) (opens_of o) (drop at row) s N e

    has_cell : 1 ≤ length (word s)
    has_cell = filled_word (word s) (every_in (λ (q : Piece). sound_word (word q)) tb all_sound s it.0)

    behind : (u : Row) × (drop at row ≡ word s ++ u)
    behind = match_split (word s) (drop at row) (look_of N) it.2

    reaches : at + length (word s) ≤ length row
    reaches = omega (arith, ap length behind.1, length-append (word s) behind.0, length-drop at row)

    -- what it takes are cells
    cells_there : (i : ℕ) → at ≤ i → i < at + length (word s) → get_or row i 0 ≤ last_cell
    cells_there i h l =
        let j : i - at < length (word s) = omega (arith, h, l) in
        let e : get_or row i 0 ≡ get_or (word s) (i - at) 0 =
        ap (λ (n : ℕ). get_or row n 0) (omega (arith, h)) ∙ sym (get_or-drop at row (i - at) 0)
        ∙ ap (λ (r : Row). get_or r (i - at) 0) behind.1 ∙ get_or-append (word s) behind.0 0 (i - at) j in
        let w : T (sound_word (word s)) = every_in (λ (q : Piece). sound_word (word q)) tb all_sound s it.0 in
        let t : T (low (get_or (word s) (i - at) 0)) = every_at low (word s) (sound_low (word s) w) (i - at) j in
        omega (arith, e, leb-true (get_or (word s) (i - at) 0) last_cell (is_true (low (get_or (word s) (i - at) 0)) t))

    -- and it shows no more code points than cells, but for the cell to spare
    spares : length (points (shown (lead_of s.0)) s.1.0) + spare (mode_number N) ≤ length (word s) + spare m
    spares =
        leb-true (length (points (shown (lead_of s.0)) s.1.0) + spare (mode_number N)) (length (word s) + spare m)
        (is_true (leb (length (points (shown (lead_of s.0)) s.1.0) + spare (mode_number N)) (length (word s) + spare m))
        (subst (λ (x : Option Mode). T (thrifty s m x)) (goes_some (mode_of m) (opens_of o) s it.1).1
        (at_below (λ n. thrifty s n (step (mode_of n) s.0 (class_at s.1))) mode_count
        (every_in (λ (q : Piece). below (λ n. thrifty q n (step (mode_of n) q.0 (class_at q.1))) mode_count) tb all_thrifty s it.0) m small)))

    leaves : (turn s.1.1 (opens_of o) ≡ opens_of (opened_by o (mark_of s.1.1))) × (opened_by o (mark_of s.1.1) < open_states)
    unfolding turn fits
    leaves =
        turned o few (mark_of s.1.1) (every_in (λ (q : Piece). known_mark (mark_of q.1.1)) tb all_known s it.0)
        (goes_some (mode_of m) (opens_of o) s it.1).0

    goes_on : left m o (drop at row) ≡ add_sign (sign_of s) (left (mode_number N) (opened_by o (mark_of s.1.1)) (drop (at + length (word s)) row))
    goes_on =
        ap signs_by
        (walk_on tb (mode_of m) (opens_of o) (drop at row) s N some_left e has_cell
        ∙ ap (λ (r : Row). add s (walk tb N (turn s.1.1 (opens_of o)) 0 r)) (drop-drop (length (word s)) at row)
        ∙ ap (λ (n : Mode). add s (walk tb n (turn s.1.1 (opens_of o)) 0 (drop (at + length (word s)) row))) (sym (mode_back_number N))
        ∙ ap (λ (q : Opens). add s (walk tb (mode_of (mode_number N)) q 0 (drop (at + length (word s)) row))) leaves.0)
        ∙ signs_add s (walk tb (mode_of (mode_number N)) (opens_of (opened_by o (mark_of s.1.1))) 0 (drop (at + length (word s)) row))

    turn_by : (l : rust.Option ℕ) (p k n u : ℕ) → shown (lead_of s.0) ≡ l → s.1.0 ≡ p → at + length (word s) ≡ k → mode_number N ≡ n → opened_by o (mark_of s.1.1) ≡ u
        → Turn row at m o l p k n u
    turn_by l p k n u el ep ek en eu =
        record {
          sign = sign_of s;
          shows = shown_is (lead_of s.0) s.1.0 ∙ cc (el, ep);
          next_is = sym ek;
          forward = omega (arith, ek, has_cell);
          within = omega (arith, ek, reaches);
          cells = λ i h j. cells_there i h (omega (arith, j, ek));
          thrift = omega (arith, ek, en, spares, ap length (ap (λ (x : rust.Option ℕ). points x s.1.0) el), ap length (ap (points l) ep), ap spare en);
          mode = omega (arith, en, mode_small N);
          opens = omega (arith, eu, leaves.1);
          signs_left =
              goes_on
              ∙ ap (λ (j : ℕ). add_sign (sign_of s) (left (mode_number N) (opened_by o (mark_of s.1.1)) (drop j row))) ek
              ∙ ap (λ (j : ℕ). add_sign (sign_of s) (left j (opened_by o (mark_of s.1.1)) (drop k row))) en
              ∙ ap (λ (j : ℕ). add_sign (sign_of s) (left n j (drop k row))) eu;
        }

  pub turn_of : (s : Step) → step_at row at m o ≡ Some s → Turn row at m o s.lead s.point s.next (number_of s.mode) s.opened
  turn_of x q = go (find (all_pieces castilian) (mode_of m) (opens_of o) (drop at row)) refl (step_found row at m o small few ∙ q)
    where
      go : (g : Option Cand) → find (all_pieces castilian) (mode_of m) (opens_of o) (drop at row) ≡ g → step_by at o g ≡ Some x
          → Turn row at m o x.lead x.point x.next (number_of x.mode) x.opened
      go none e f = let z : ◌≡◌ {A = ℕ} 0 1 = cc in absurd (omega arith)
      go (some c) e f =
          let y : Step = a_step (lead_of c.0.0) c.0.1.0 (at + length (word c.0)) (mode_number c.1) (opened_by o (mark_of c.0.1.1)) in
          let z : y ≡ x = cc in
          turn_by c.0 c.1 e x.lead x.point x.next (number_of x.mode) x.opened
          (ap (λ (s : Step). s.lead) z) (ap (λ (s : Step). s.point) z) (ap (λ (s : Step). s.next) z) (sym (number_back (mode_number c.1) (mode_small c.1)) ∙ ap (λ (s : Step). number_of s.mode) z) (ap (λ (s : Step). s.opened) z)

  pub none_left : step_at row at m o ≡ None → left m o (drop at row) ≡ none
  none_left q = go (find (all_pieces castilian) (mode_of m) (opens_of o) (drop at row)) refl (step_found row at m o small few ∙ q)
    where
      go : (g : Option Cand) → find (all_pieces castilian) (mode_of m) (opens_of o) (drop at row) ≡ g → step_by at o g ≡ None
          → left m o (drop at row) ≡ none
      go none e f = ap signs_by (walk_none tb (mode_of m) (opens_of o) (drop at row) some_left e)
      go (some c) e f = let z : ◌≡◌ {A = ℕ} 0 1 = cc in absurd (omega arith)

-- the row's end
pub end_left : (row : Row) (at m o : ℕ) → length row ≤ at → o < open_states
    → left m o (drop at row) ≡ cond (at_rest (mode_of m) && eqb o 0) (some []) none
unfolding walk
end_left row at m o l few =
    ap (left m o) (drop_of_length-le row {i = at} l) ∙ ap (λ (b : Bool). signs_by (cond (at_rest (mode_of m) && b) (some []) none)) (closed_is o few)
    ∙ go (at_rest (mode_of m) && eqb o 0)
  where
    go : (b : Bool) → signs_by (cond b (some []) none) ≡ cond b (some []) none
    go true = refl
    go false = refl

-- NO MORE CODE POINTS THAN CELLS: of the signs that are left from a place, but for the cell to spare there
some_not_none : {x : Option (List Sign)} {ss : List Sign} → x ≡ some ss → x ≡ none → ⊥
some_not_none e f = let z : ◌≡◌ {A = ℕ} 0 1 = cc in omega arith

same : {xs ys : List Sign} → some xs ≡ some ys → xs ≡ ys
same e = cc

module _ (row : Row) where
  abbrev Thrifty : ℕ → ℕ → ℕ → Type 0
  Thrifty at m o = (ss : List Sign) → left m o (drop at row) ≡ some ss → length (print_of ss) + at ≤ length row + spare m

  at_end : (at m o : ℕ) → length row ≤ at → at ≤ length row → o < open_states → Thrifty at m o
  at_end at m o all within few ss e = go (at_rest (mode_of m) && eqb o 0) (sym (end_left row at m o all few) ∙ e)
    where
      go : (b : Bool) → cond b (some []) none ≡ some ss → length (print_of ss) + at ≤ length row + spare m
      go true f = let z : [] ≡ ss = same f in omega (arith, ap (λ (xs : List Sign). length (print_of xs)) (sym z), within)
      go false f = absurd (some_not_none f refl)

  on_turn : (at m o : ℕ) → at < length row → m < mode_count → o < open_states
      → ((k n u : ℕ) → at < k → k ≤ length row → n < mode_count → u < open_states → Thrifty k n u) → Thrifty at m o
  on_turn at m o inside small few on ss e = go (step_at row at m o) refl
    where
      go : (g : rust.Option Step) → step_at row at m o ≡ g → length (print_of ss) + at ≤ length row + spare m
      go None q = absurd (some_not_none e (none_left row at m o inside small few q))
      go (Some s) q = more s.lead s.point s.next (number_of s.mode) s.opened (turn_of row at m o inside small few s q) (left (number_of s.mode) s.opened (drop s.next row)) refl
        where
          more : (l : rust.Option ℕ) (p k n u : ℕ) → Turn row at m o l p k n u → (x : Option (List Sign)) → left n u (drop k row) ≡ x → length (print_of ss) + at ≤ length row + spare m
          more l p k n u here none f = absurd (some_not_none e (here.signs_left ∙ ap (add_sign here.sign) f))
          more l p k n u here (some xs) f =
              let z : here.sign ∷ xs ≡ ss = same (sym (here.signs_left ∙ ap (add_sign here.sign) f) ∙ e) in
              omega (arith, on k n u here.forward here.within here.mode here.opens xs f, here.thrift, ap (λ (ys : List Sign). length (print_of ys)) (sym z), length-append here.sign.shown (print_of xs), ap length here.shows)

  pub left_thrift : (n at m o : ℕ) → length row ≤ at + n → at ≤ length row → m < mode_count → o < open_states → Thrifty at m o
  left_thrift zero at m o all within small few = at_end at m o (omega (arith, all)) within few
  left_thrift (suc n) at m o all within small few =
      ⊎_elim (λ h. at_end at m o h within few) (λ h. on_turn at m o h small few (λ k n' u a b c d. left_thrift n k n' u (omega (arith, all, a)) b c d))
      (le_or_lt (length row) at)
