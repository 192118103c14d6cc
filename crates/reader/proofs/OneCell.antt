-- A row of one cell: where the cell is something alone, its text is that, and else it has none. Computed at every cell, and at what is none. In order: the test; the
-- cell with nothing behind it; a row of one. Assumes nothing.
use mathlib.Core.Path.{◌≡◌, refl, sym, ap, ◌∙◌, subst}
use mathlib.Core.Bool.{Bool, true, false, ◌&&◌, not, cond}
use mathlib.Core.List.{[], ◌∷◌, append-nil}
use mathlib.Core.Option.{none, some}
use Prim.Native.Nat.{ℕ, ◌+◌}
use native.Mathlib.Omega.{arith}
use lib.Dec.{T, eqb, leb, eqb→eq}
use lib.ListN.{length, drop, get_or}
use borrow.Author.Tests.{leb-false, eq-eqb, eqb-true, eqb-false}
use Rattle.rules.specs.Cells.{Row, dots, last_cell}
use Rattle.rules.specs.Signs.{Sign, print_of}
use Rattle.rules.proofs.Finite.{and_left, and_right, and_false, false_of, below, at_below}
use Rattle.rules.proofs.Machine.{at_rest}
use Rattle.pairs.specs.Opened.{turned_by}
use Rattle.readings.specs.Modes.{mode_of, number_of, mode_at, free}
use Rattle.readings.specs.Deeds.{deeds}
use Rattle.readings.specs.Fields.{point_in, no_cell, cell_from}
use Rattle.readings.specs.Words.{words, word_of, seconds}
use Rattle.readings.specs.Readings.{no_point, Reading, nothing, reads, a_mark, reading_of, by_word, asked_by, capital_by, after_capital, number_by, percent_by, two_of, longer_by, prefix_by, shown, a_step, mark_step, step_of, step_at}
use Rattle.readings.specs.Left.{left, add_sign}
use Rattle.readings.specs.declared.Step.{Step}
use Rattle.readings.specs.Print.{points}
use Rattle.std.specs.Prelude.{Some, None}
use Rattle.std.specs.declared.option.Option as rust
use Rattle.readings.proofs.Words.{past_words}
use Rattle.readings.proofs.Settling.{is_true}
use Rattle.readings.proofs.Tested.{sights}
use Rattle.readings.proofs.Turning.{Turn, turn_of, none_left, end_left, sight_small}
use Rattle.reader.proofs.Whole.{Told}

-- THE TEST: p is what the cell is alone. It is read so and nothing is begun then; or the cell is nothing alone, and there is no sign, or one that leaves a pair open
abbrev rests : ℕ → Bool
rests m = at_rest (mode_of (number_of (mode_at m)))

abbrev agrees : ℕ → Reading → Bool
agrees p nothing = eqb p no_point
agrees p (reads l q k m) = not (eqb p no_point) && (eqb l no_point && (eqb q p && (eqb k 1 && rests m)))
agrees p (a_mark k n) = eqb p no_point && (eqb n 1 && not (eqb (turned_by 0 k) 0))

all_agree : T (below (λ x. agrees (point_in (word_of x)) (reading_of free x no_cell no_cell)) sights)
unfolding reading_of by_word asked_by capital_by after_capital number_by percent_by two_of longer_by prefix_by words seconds deeds dots at_rest
all_agree = tt

agree : (c : ℕ) → T (agrees (point_in (word_of (cell_from c))) (reading_of free (cell_from c) no_cell no_cell))
agree c = at_below (λ x. agrees (point_in (word_of x)) (reading_of free x no_cell no_cell)) sights all_agree (cell_from c) (sight_small c)

-- a byte that is no cell has no word
word_of_cell : (c : ℕ) → word_of c ≡ word_of (cell_from c)
word_of_cell c = go (leb c last_cell) refl
  where
    go : (b : Bool) → leb c last_cell ≡ b → word_of c ≡ word_of (cond b c no_cell)
    go true e = refl
    go false e = past_words c (omega (arith, leb-false c last_cell e)) ∙ sym (past_words no_cell (omega arith))

-- A CELL WITH NOTHING BEHIND IT: one sign is left, of one cell and this code point
pub record Lone (r : Row) (p : ℕ) : Type 0 where
  pub sign : Sign
  pub are : left 0 0 r ≡ some (sign ∷ [])
  pub shows : sign.shown ≡ p ∷ []
  pub has : length sign.taken ≡ 1

-- p is what the cell is alone
abbrev Says_of : Row → ℕ → Type 0
Says_of r p = (p ≡ no_point → left 0 0 r ≡ none) × ((p ≡ no_point → ⊥) → Lone r p)

module _ (c : ℕ) where
  abbrev alone : Row
  alone = c ∷ []

  abbrev Says : ℕ → Type 0
  Says p = Says_of alone p

  step_is : (v : Reading) → reading_of free (cell_from c) no_cell no_cell ≡ v → step_at alone 0 0 0 ≡ step_of 0 0 v
  unfolding step_at
  step_is v e = ap (step_of 0 0) e

  turned : (s : Step) → step_at alone 0 0 0 ≡ Some s → Turn alone 0 0 0 s.lead s.point s.next (number_of s.mode) s.opened
  turned = turn_of alone 0 0 0 (omega arith) (omega arith) (omega arith)

  says : (p : ℕ) (v : Reading) → reading_of free (cell_from c) no_cell no_cell ≡ v → T (agrees p v) → Says p
  says p nothing e t = (
    λ z. none_left alone 0 0 0 (omega arith) (omega arith) (omega arith) (step_is nothing e),
    λ some_point. absurd (some_point (eqb→eq p no_point t)),
  )
  says p (reads l q k m) e t =
      let ends : Bool = eqb k 1 && rests m in
      let is : Bool = eqb l no_point && (eqb q p && ends) in
      let t1 : T is = and_right (not (eqb p no_point)) is t in
      let t2 : T (eqb q p && ends) = and_right (eqb l no_point) (eqb q p && ends) t1 in
      let t3 : T ends = and_right (eqb q p) ends t2 in
      let width : k ≡ 1 = eqb→eq k 1 (and_left (eqb k 1) (rests m) t3) in
      let turn = turned (a_step l q (0 + k) m 0) (step_is (reads l q k m) e) in
      let end : left (number_of (mode_at m)) 0 (drop (0 + k) alone) ≡ some [] =
      end_left alone (0 + k) (number_of (mode_at m)) 0 (omega (arith, width)) (omega arith)
      ∙ ap (λ (b : Bool). cond (b && true) (some []) none) (is_true (rests m) (and_right (eqb k 1) (rests m) t3)) in
      let bare : shown l ≡ None = ap (λ (b : Bool). cond b None (Some l)) (is_true (eqb l no_point) (and_left (eqb l no_point) (eqb q p && ends) t1)) in
      let shows : turn.sign.shown ≡ p ∷ [] =
      turn.shows ∙ ap (λ (x : rust.Option ℕ). points x q) bare ∙ ap (λ (x : ℕ). x ∷ []) (eqb→eq q p (and_left (eqb q p) ends t2)) in (
        λ z. absurd (subst T (ap not (eq-eqb p no_point z)) (and_left (not (eqb p no_point)) is t)),
        λ some_point.
            record {
              sign = turn.sign;
              are = turn.signs_left ∙ ap (add_sign turn.sign) end;
              shows = shows;
              has = omega (arith, turn.next_is, width);
            },
      )
  says p (a_mark k n) e t =
      let opens : Bool = not (eqb (turned_by 0 k) 0) in
      let t1 : T (eqb n 1 && opens) = and_right (eqb p no_point) (eqb n 1 && opens) t in
      let width : n ≡ 1 = eqb→eq n 1 (and_left (eqb n 1) opens t1) in
      let turn = turned (mark_step (0 + n) 0 k) (step_is (a_mark k n) e) in
      let end : left 0 (turned_by 0 k) (drop (0 + n) alone) ≡ none =
      end_left alone (0 + n) 0 (turned_by 0 k) (omega (arith, width)) turn.opens
      ∙ ap (λ (b : Bool). cond (at_rest (mode_of 0) && b) (some []) none) (false_of (eqb (turned_by 0 k) 0) (and_right (eqb n 1) opens t1))
      ∙ ap (λ (b : Bool). cond b (some []) none) (and_false (at_rest (mode_of 0))) in (
        λ z. turn.signs_left ∙ ap (add_sign turn.sign) end,
        λ some_point. absurd (some_point (eqb→eq p no_point (and_left (eqb p no_point) (eqb n 1 && opens) t))),
      )

  pub cell_says : Says (point_in (word_of c))
  cell_says = subst (λ (w : ℕ). Says (point_in w)) (sym (word_of_cell c)) (says _ _ refl (agree c))

-- a code point that is shown, or none
shown_by : (n : ℕ) (b : Bool) → eqb n no_point ≡ b → (p : ℕ) → cond b None (Some n) ≡ Some p → (n ≡ p) × (n ≡ no_point → ⊥)
shown_by n true e p f = let z : ◌≡◌ {A = ℕ} 0 1 = cc in absurd (omega arith)
shown_by n false e p f = let z : n ≡ p = cc in (z, eqb-false n no_point e)

shown_some : (n p : ℕ) → shown n ≡ Some p → (n ≡ p) × (n ≡ no_point → ⊥)
shown_some n p f = shown_by n (eqb n no_point) refl p f

shown_none : (n : ℕ) → shown n ≡ None → n ≡ no_point
shown_none n f = go (eqb n no_point) refl f
  where
    go : (b : Bool) → eqb n no_point ≡ b → cond b None (Some n) ≡ None → n ≡ no_point
    go true e g = eqb-true n no_point e
    go false e g = let z : ◌≡◌ {A = ℕ} 0 1 = cc in absurd (omega arith)

-- A ROW OF ONE
module _ (r : Row) (one : length r ≡ 1) where
  abbrev point : ℕ
  point = point_in (word_of (get_or r 0 0))

  says_of : Says_of r point
  says_of = go r one
    where
      go : (r : Row) → length r ≡ 1 → Says_of r (point_in (word_of (get_or r 0 0)))
      go [] e = absurd (omega arith)
      go (c ∷ []) e = cell_says c
      go (c ∷ d ∷ r) e = absurd (omega arith)

  pub one_none : point ≡ no_point → left 0 0 r ≡ none
  one_none = says_of.0

  pub one_alone : (point ≡ no_point → ⊥) → Lone r point
  one_alone = says_of.1

  -- as an Option
  pub none_shown : shown point ≡ None → left 0 0 r ≡ none
  none_shown e = one_none (shown_none point e)

  pub alone_shown : {p : ℕ} → shown point ≡ Some p → Lone r p
  alone_shown e = let s = shown_some point _ e in subst (Lone r) s.0 (one_alone s.1)

-- and what is told of it
module _ {r : Row} {p : ℕ} (lone : Lone r p) where
  pub lone_print : print_of (lone.sign ∷ []) ≡ p ∷ []
  lone_print = append-nil lone.sign.shown ∙ lone.shows

  abbrev pub lone_told : Told (left 0 0 r) 1
  lone_told = record { signs = lone.sign ∷ []; are = lone.are; count = sym (ap length lone_print) }
