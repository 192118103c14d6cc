-- What the check needs to find that each function of src/ returns what its specification says, and the ends that it does not find, over plain values. In order: what a look-up shows; the cell at a place;
-- the modes at rest; what a cell is among, and has; the mode after a capital; the step at a place, by its deed; a mode by its number; a cell that is alone; quick readings. Assumes nothing.
use mathlib.Core.Path.{◌≡◌, refl, sym, ◌∙◌, ap, subst}
use mathlib.Core.Bool.{Bool, true, false, ◌&&◌, ◌||◌, not, cond, true≢false, beq}
use mathlib.Core.List.{List, [], ◌∷◌}
use mathlib.Core.Logic.{◌⊎◌, inl, inr, ⊎_elim}
use Prim.Native.Nat.{ℕ, zero, suc, ◌+◌, ◌*◌, ◌/◌, ◌%◌, ◌^◌, ◌≤◌, ◌<◌}
use Prim.Native.Char.{code}
use native.Mathlib.Omega.{arith}
use native.Mathlib.Nat.{not-suc-le-zero, le_of_suc-le-suc}
use lib.Dec.{T, eqb, leb, ltb, ltb→lt, eqb→eq}
use lib.ListN.{length, get_or, get_or-eq_default}
use borrow.Author.Tests.{eq-eqb, ne_eqb, le-leb, lt-leb, leb-true, not-true}
use Rattle.rules.specs.Cells.{Row, dots, last_cell}
use Rattle.rules.specs.Pairs.{kinds}
use Rattle.rules.proofs.Finite.{below, at_below, beq_same, le_or_lt, implies}
use Rattle.rules.proofs.Machine.{at_rest}
use Rattle.entries.specs.Chosen.{choose}
use Rattle.entries.proofs.Keys.{among, Rest, rest_none}
use Rattle.readings.specs.Modes as mode
use Rattle.readings.specs.Modes.{mode_of, mode_count, number_of}
use Rattle.readings.specs.declared.Mode.{Mode}
use Rattle.readings.specs.declared.Mode.TheVariants as a
use Rattle.readings.specs.Acts as act
use Rattle.readings.specs.Deeds.{deeds}
use Rattle.readings.specs.Fields.{deed_of, class_in, point_in, capital_in, figure_in, lower_in, letter_in, inside_in, kind_in, then_in, usual_in, run_point, no_cell, cell_of}
use Rattle.readings.specs.Words.{words, letters_alone, signs_alone, word_of}
use Rattle.readings.specs.Readings.{no_point, shown, a_step, Reading, reads, one, usual_by, once_list, digit_cell, capital_modes, after_capital, capital_by, number_by, percent_by, inner_quotes, two_of, two_list, longer_by, prefix_by, ask_list, asked_by, reading_of, by_word, opener_of, closer_of, mark_step, step_of, step_at}
use Rattle.readings.specs.Readings as reading
use Rattle.signs.specs.Among.{digit_cells, lower_cells, cell_among, lower_cell, alone_cell}
use Rattle.signs.specs.Runs.{between, no_run, run_of, home_of, Quick, InRun}
use Rattle.readings.specs.declared.Step.{Step}
use Rattle.std.specs.Prelude.{Option, Some, None}
use Rattle.readings.proofs.Numbers.{number_back, number_small}
use Rattle.readings.proofs.Words.{past_words}
use Rattle.readings.proofs.Settling.{is_true}
use Rattle.readings.proofs.Tested.{sights}
use Rattle.readings.proofs.Turning.{sight_small}

-- A STEP that gives a sign
abbrev pub gives : ℕ → ℕ → ℕ → ℕ → ℕ → Option Step
gives lead point next mode opened = Some (a_step lead point next mode opened)

-- what a look-up shows says what its field is
pub none_shown : (n : ℕ) → shown n ≡ None → n ≡ no_point
none_shown n e = go (eqb n no_point) refl e
  where
    go : (b : Bool) → eqb n no_point ≡ b → ◌≡◌ {A = Option ℕ} (cond b None (Some n)) None → n ≡ no_point
    go true f e = eqb→eq n no_point (subst T (sym f) tt)
    go false f e = let z : ◌≡◌ {A = ℕ} 0 1 = cc in absurd (omega (arith, z))

pub some_shown : (n p : ℕ) → shown n ≡ Some p → (p ≡ n) × (p ≡ no_point → ⊥)
some_shown n p e = go (eqb n no_point) refl e
  where
    go : (b : Bool) → eqb n no_point ≡ b → cond b None (Some n) ≡ Some p → (p ≡ n) × (p ≡ no_point → ⊥)
    go true f e = let z : ◌≡◌ {A = ℕ} 0 1 = cc in absurd (omega (arith, z))
    go false f e = let z : p ≡ n = cc in (z, λ q. true≢false (sym (eq-eqb n no_point (sym z ∙ q)) ∙ f))

-- THE CELL AT A PLACE
inside_any : (r : Row) (n : ℕ) (a b : ℕ) → n < length r → get_or r n a ≡ get_or r n b
inside_any [] n a b l = absurd (not-suc-le-zero l)
inside_any (c ∷ r) zero a b l = refl
inside_any (c ∷ r) (suc n) a b l = inside_any r n a b (le_of_suc-le-suc l)

module _ (r : Row) (n : ℕ) where
  pub cell_low : n < length r → get_or r n 0 ≤ last_cell → get_or r n 0 ≡ cell_of r n
  cell_low l h = inside_any r n 0 no_cell l ∙ sym (go (inside_any r n 0 no_cell l))
    where
      go : get_or r n 0 ≡ get_or r n no_cell → cell_of r n ≡ get_or r n no_cell
      go e = rw (le-leb (get_or r n no_cell) last_cell (omega (arith, e, h)))

  pub cell_high : n < length r → last_cell < get_or r n 0 → no_cell ≡ cell_of r n
  cell_high l h = sym (go (inside_any r n 0 no_cell l))
    where
      go : get_or r n 0 ≡ get_or r n no_cell → cell_of r n ≡ no_cell
      go e = rw (lt-leb (get_or r n no_cell) last_cell (omega (arith, e, h)))

  pub cell_past : length r ≤ n → no_cell ≡ cell_of r n
  cell_past l = sym (rw (get_or-eq_default r no_cell {n = n} l))

  -- the word of a byte is that of the cell there
  pub word_there : n < length r → word_of (get_or r n 0) ≡ word_of (cell_of r n)
  unfolding words
  word_there l =
      ⊎_elim (λ h. ap word_of (cell_low l h))
      (λ h. get_or-eq_default words 0 {n = get_or r n 0} h ∙ ap word_of (cell_high l h)) (le_or_lt (get_or r n 0) last_cell)

  -- the byte at a place, and past the row's end; its word is that of the cell
  pub byte_there : n < length r → get_or r n 0 ≡ get_or r n no_cell
  byte_there l = inside_any r n 0 no_cell l

  pub byte_past : length r ≤ n → no_cell ≡ get_or r n no_cell
  byte_past l = sym (get_or-eq_default r no_cell {n = n} l)

  pub byte_word : word_of (get_or r n no_cell) ≡ word_of (cell_of r n)
  unfolding words
  byte_word =
      ⊎_elim (λ h. ap (λ (b : Bool). word_of (cond b (get_or r n no_cell) no_cell)) (sym (le-leb (get_or r n no_cell) last_cell h)))
      (λ h. get_or-eq_default words 0 {n = get_or r n no_cell} h ∙ ap (λ (b : Bool). word_of (cond b (get_or r n no_cell) no_cell)) (sym (lt-leb (get_or r n no_cell) last_cell h)))
      (le_or_lt (get_or r n no_cell) last_cell)

-- THE MODES AT REST
abbrev pub owes : List ℕ
owes = mode.owing ∷ mode.whole1 ∷ mode.low ∷ mode.under1 ∷ mode.mid ∷ []

rests_right : T (below (λ m. among owes m || at_rest (mode_of m)) mode_count)
unfolding at_rest
rests_right = tt

pub at_rest_there : (m : ℕ) → m < mode_count → Rest Unit owes m → true ≡ at_rest (mode_of m)
at_rest_there m l r = go (among owes m) (rest_none Unit owes m r).1 (at_below (λ m. among owes m || at_rest (mode_of m)) mode_count rests_right m l)
  where
    go : (b : Bool) → b ≡ false → T (b || at_rest (mode_of m)) → true ≡ at_rest (mode_of m)
    go true e t = absurd (subst T e tt)
    go false e t = sym (is_true (at_rest (mode_of m)) t)

-- WHAT A CELL IS AMONG: a byte that is none is among nothing
module _ (these c : ℕ) where
  pub high_among : last_cell < c → false ≡ cell_among these c
  high_among l = sym (rw (lt-leb c last_cell l))

  pub low_among : c ≤ last_cell → (b : Bool) → b ≡ eqb (these / 2 ^ (c % 64) % 2) 1 → b ≡ cell_among these c
  low_among l b e = e ∙ sym (rw (le-leb c last_cell l))

  -- those that have a field, if it is so of the cells, one by one
  pub among_is : (g : ℕ → ℕ) → g 0 ≡ 0 → T (below (λ c. beq (cell_among these c) (not (eqb (g (word_of c)) no_point))) no_cell)
      → cell_among these c ≡ not (eqb (g (word_of c)) no_point)
  among_is g z t =
      ⊎_elim (λ l. beq_same (cell_among these c) (not (eqb (g (word_of c)) no_point)) (at_below (λ c. beq (cell_among these c) (not (eqb (g (word_of c)) no_point))) no_cell t c l))
      (λ l. sym (high_among (omega (arith, l))) ∙ sym (ap (λ (n : ℕ). not (eqb n no_point)) (ap g (past_words c l) ∙ z))) (le_or_lt (suc c) no_cell)

pub digit_told : (y : ℕ) → cell_among digit_cells y ≡ digit_cell y
unfolding words
digit_told y = among_is digit_cells y figure_in refl tt

pub lower_told : (y : ℕ) → cell_among lower_cells y ≡ lower_cell y
unfolding words
lower_told y = among_is lower_cells y lower_in refl tt

-- what a test of a field says of it
has_some : (n : ℕ) → not (eqb n no_point) ≡ true → n ≡ no_point → ⊥
has_some n t e = true≢false (sym t ∙ ap not (eq-eqb n no_point e))

has_none : (n : ℕ) → not (eqb n no_point) ≡ false → n ≡ no_point
has_none n t = go (eqb n no_point) refl t
  where
    go : (b : Bool) → eqb n no_point ≡ b → not b ≡ false → n ≡ no_point
    go true e t = eqb→eq n no_point (subst T (sym e) tt)
    go false e t = absurd (true≢false t)

-- WHAT HOLDS OF EACH CELL that has a field, if it is so of the cells, one by one
has_field : (g : ℕ → ℕ) → g 0 ≡ 0 → (f : ℕ → Bool) → T (below (λ c. eqb (g (word_of c)) no_point || f c) no_cell) → (c : ℕ) → not (eqb (g (word_of c)) no_point) ≡ true
    → T (f c)
has_field g z f t c n =
    ⊎_elim (λ l. subst (λ (b : Bool). T (b || f c)) (not-true (eqb (g (word_of c)) no_point) n) (at_below (λ c. eqb (g (word_of c)) no_point || f c) no_cell t c l))
    (λ l. absurd (has_some (g (word_of c)) n (ap g (past_words c l) ∙ z))) (le_or_lt (suc c) no_cell)

-- a digit is what it is inside a number; a lower digit is the digit of half its cell, and so what that is inside one
pub inside_digit : (w : ℕ) → not (eqb (figure_in w) no_point) ≡ true → inside_in w ≡ figure_in w
inside_digit w n = rw (not-true (eqb (figure_in w) no_point) n)

pub figure_lowered : (c : ℕ) → lower_cell c ≡ true → figure_in (word_of (c / 2)) ≡ lower_in (word_of c)
unfolding words
figure_lowered c n = eqb→eq (figure_in (word_of (c / 2))) (lower_in (word_of c)) (has_field lower_in refl (λ c. eqb (figure_in (word_of (c / 2))) (lower_in (word_of c))) tt c n)

pub inside_lowered : (c : ℕ) → lower_cell c ≡ true → inside_in (word_of (c / 2)) ≡ lower_in (word_of c)
inside_lowered c n =
    let e = figure_lowered c n in
    inside_digit (word_of (c / 2)) (ap (λ (f : ℕ). not (eqb f no_point)) e ∙ n) ∙ e

-- the cell of a digit is a letter
pub digit_letter : (c : ℕ) → digit_cell c ≡ true → letter_in (word_of c) ≡ point_in (word_of c)
unfolding words
digit_letter c n = eqb→eq (letter_in (word_of c)) (point_in (word_of c)) (has_field figure_in refl (λ c. eqb (letter_in (word_of c)) (point_in (word_of c))) tt c n)

-- AFTER 46: the mode after a capital, by the mode before it, is what the code's number has, four bits for each
abbrev packed : List ℕ → ℕ
packed [] = 0
packed (m ∷ ms) = m + 16 * packed ms

abbrev pub after_capitals : ℕ
after_capitals = packed capital_modes

afters_right : T (below (λ n. eqb (after_capitals / 2 ^ (n * 4) % 16) (get_or capital_modes n mode.free)) mode_count)
afters_right = tt

pub after_told : (m : ℕ) → after_capitals / 2 ^ (m % 16 * 4) % 16 ≡ after_capital m
unfolding after_capital
after_told m =
    eqb→eq (after_capitals / 2 ^ (m % 16 * 4) % 16) (get_or capital_modes (m % 16) mode.free)
    (at_below (λ n. eqb (after_capitals / 2 ^ (n * 4) % 16) (get_or capital_modes n mode.free)) mode_count afters_right (m % 16) (omega arith))

-- by a mode of the code, whose number is its own last four bits
pub after_mode : (m : Mode) → after_capitals / 2 ^ (number_of m * 4) % 16 ≡ after_capital (number_of m)
after_mode m =
    let e : number_of m ≡ number_of m % 16 = omega (arith, number_small m) in
    ap (λ (n : ℕ). after_capitals / 2 ^ (n * 4) % 16) e ∙ after_told (number_of m)

pub after_small : (m : Mode) → after_capital (number_of m) < mode_count
unfolding after_capital
after_small a.Free = omega arith
after_small a.Lone = omega arith
after_small a.Mixed = omega arith
after_small a.Whole1 = omega arith
after_small a.Under1 = omega arith
after_small a.End = omega arith
after_small a.Hyphen = omega arith
after_small a.Fem = omega arith
after_small a.Percent = omega arith
after_small a.Owing = omega arith
after_small a.Dash = omega arith
after_small a.Whole2 = omega arith
after_small a.Num = omega arith
after_small a.Low = omega arith
after_small a.Under = omega arith
after_small a.Mid = omega arith

-- as an option of a mode
abbrev pub some_mode : ℕ → Option Mode
some_mode n = cond (eqb n mode.free) None (Some (mode.mode_at n))

pub mode_given : (m : Mode) → (m ≡ a.Free → ⊥) → Some m ≡ some_mode (number_of m)
mode_given a.Free n = absurd (n refl)
mode_given a.Lone n = refl
mode_given a.Mixed n = refl
mode_given a.Whole1 n = refl
mode_given a.Under1 n = refl
mode_given a.End n = refl
mode_given a.Hyphen n = refl
mode_given a.Fem n = refl
mode_given a.Percent n = refl
mode_given a.Owing n = refl
mode_given a.Dash n = refl
mode_given a.Whole2 n = refl
mode_given a.Num n = refl
mode_given a.Low n = refl
mode_given a.Under n = refl
mode_given a.Mid n = refl

-- WHAT THE CELLS THAT FOLLOW DECIDE
module _ (at o m d w y z : ℕ) where
  pub point_inside_lem : d ≡ act.point → digit_cell y ≡ true → (p : ℕ) → p ≡ point_in w → gives no_point p (at + 1) mode.mid o ≡ step_of at o (asked_by m d w y z)
  unfolding asked_by
  point_inside_lem q e p h = rw (q, e, h)

-- THE STEP AT A PLACE, w being the word of the cell there
module _ (row : Row) (at m o w : ℕ) (e : w ≡ word_of (cell_of row at)) where
  by_word_lem : step_of at o (by_word m w (cell_of row (at + 1)) (cell_of row (at + 2))) ≡ step_at row at m o
  unfolding step_at reading_of
  by_word_lem = ap (λ (v : ℕ). step_of at o (by_word m v (cell_of row (at + 1)) (cell_of row (at + 2)))) e

  pub as_usual_lem : usual_in w m ≡ true → step_of at o (usual_by w) ≡ step_at row at m o
  unfolding by_word
  as_usual_lem u = sym (rw u) ∙ by_word_lem

  module _ (u : usual_in w m ≡ false) (d : ℕ) (told : d ≡ deed_of m (class_in w)) where
    by_deed : (v : Reading) → choose (once_list w) d (asked_by m d w (cell_of row (at + 1)) (cell_of row (at + 2))) ≡ v → step_of at o v ≡ step_at row at m o
    unfolding by_word
    by_deed v q =
        ap (step_of at o) (sym q)
        ∙ ap (λ (n : ℕ). step_of at o (choose (once_list w) n (asked_by m n w (cell_of row (at + 1)) (cell_of row (at + 2))))) told
        ∙ sym (rw u) ∙ by_word_lem

    -- the step, as the table tells it
    pub told_by : step_of at o (choose (once_list w) d (asked_by m d w (cell_of row (at + 1)) (cell_of row (at + 2)))) ≡ step_at row at m o
    told_by = by_deed (choose (once_list w) d (asked_by m d w (cell_of row (at + 1)) (cell_of row (at + 2)))) refl

    -- a capital, and a cell that the deed takes as usual where the word does not
    pub told_capital_sign : d ≡ act.capital → step_of at o (capital_by m (cell_of row (at + 1)) (cell_of row (at + 2))) ≡ step_at row at m o
    unfolding asked_by
    told_capital_sign q = by_deed (capital_by m (cell_of row (at + 1)) (cell_of row (at + 2))) (rw q)

    pub told_usual : d ≡ act.as_usual → step_of at o (prefix_by act.as_usual w (cell_of row (at + 1)) (cell_of row (at + 2))) ≡ step_at row at m o
    unfolding asked_by
    told_usual q = by_deed (prefix_by act.as_usual w (cell_of row (at + 1)) (cell_of row (at + 2))) (rw q)

    pub told_none : d ≡ act.no_sign → None ≡ step_at row at m o
    told_none q = by_deed reading.nothing (rw q)

    pub told_digit : d ≡ act.digit → (p : ℕ) → p ≡ figure_in w → gives no_point p (at + 1) mode.num o ≡ step_at row at m o
    told_digit q p h = ap (λ (n : ℕ). gives no_point n (at + 1) mode.num o) h ∙ by_deed (one (figure_in w) 1 mode.num) (rw q)

    pub told_under : d ≡ act.digit_under → (p : ℕ) → p ≡ figure_in w → gives no_point p (at + 1) mode.under o ≡ step_at row at m o
    told_under q p h = ap (λ (n : ℕ). gives no_point n (at + 1) mode.under o) h ∙ by_deed (one (figure_in w) 1 mode.under) (rw q)

    pub told_capital : d ≡ act.capital_of_many → (p : ℕ) → p ≡ capital_in w → gives no_point p (at + 1) mode.whole2 o ≡ step_at row at m o
    told_capital q p h = ap (λ (n : ℕ). gives no_point n (at + 1) mode.whole2 o) h ∙ by_deed (one (capital_in w) 1 mode.whole2) (rw q)

    pub told_lower : d ≡ act.lower_digit → (p : ℕ) → p ≡ lower_in w → gives no_point p (at + 1) mode.low o ≡ step_at row at m o
    told_lower q p h = ap (λ (n : ℕ). gives no_point n (at + 1) mode.low o) h ∙ by_deed (one (lower_in w) 1 mode.low) (rw q)

    pub told_denominator : d ≡ act.denominator → (p : ℕ) → p ≡ figure_in w → gives (code "⁄") p (at + 1) mode.under o ≡ step_at row at m o
    told_denominator q p h = ap (λ (n : ℕ). gives (code "⁄") n (at + 1) mode.under o) h ∙ by_deed (reads (code "⁄") (figure_in w) 1 mode.under) (rw q)

    pub told_masculine : d ≡ act.masculine_mark → gives (code ".") (code "º") (at + 1) mode.free o ≡ step_at row at m o
    told_masculine q = by_deed (reads (code ".") (code "º") 1 mode.free) (rw q)

-- A MODE BY ITS NUMBER: past the modes, by the last four bits of it. Of a capital they say what it leaves
capital_same : (m k y z : ℕ) → after_capital m ≡ after_capital k → eqb m mode.owing ≡ eqb k mode.owing → capital_by m y z ≡ capital_by k y z
unfolding capital_by
capital_same m k y z e f = rw (e, f) refl

after_last : (n k : ℕ) → k ≡ n % 16 → after_capital k ≡ after_capital n
unfolding after_capital
after_last n k e =
    let q : k % 16 ≡ n % 16 = omega (arith, e) in
    ap (λ (i : ℕ). get_or capital_modes i mode.free) q

module _ (n : ℕ) (m : Mode) (its : m ≡ mode.mode_at (n % 16)) where
  pub last_bits : number_of m ≡ n % 16
  last_bits = ap number_of its ∙ number_back (n % 16) (omega arith)

  pub deed_same : (c : ℕ) → deed_of (number_of m) c ≡ deed_of n c
  deed_same c =
      let q : number_of m % 16 ≡ n % 16 = omega (arith, last_bits) in
      ap (λ (i : ℕ). get_or deeds (i * 16 + c % 16) act.no_sign) q

  module _ (past : mode_count ≤ n) (y z : ℕ) where
    pub before_owing : number_of m ≡ mode.owing → capital_by mode.lone y z ≡ capital_by n y z
    unfolding after_capital
    before_owing e =
        let q : mode.owing ≡ n % 16 = omega (arith, e, last_bits) in
        capital_same mode.lone n y z (ap (λ (i : ℕ). get_or capital_modes i mode.free) q) (sym (ne_eqb n mode.owing (λ q. omega (arith, q, past))))

    pub before_other : (number_of m ≡ mode.owing → ⊥) → capital_by (number_of m) y z ≡ capital_by n y z
    before_other other =
        capital_same (number_of m) n y z (after_last n (number_of m) last_bits)
        (ne_eqb (number_of m) mode.owing other ∙ sym (ne_eqb n mode.owing (λ q. omega (arith, q, past))))

-- of what is asked, that of a capital alone hangs on the mode
asked_same : (m k d w y z : ℕ) → (d ≡ act.capital → ⊥) → asked_by m d w y z ≡ asked_by k d w y z
unfolding asked_by
asked_same m k d w y z n = rw (ne_eqb d act.capital n) refl

pub number_same : (row : Row) (at m k o w d : ℕ) → w ≡ word_of (cell_of row at) → usual_in w m ≡ false → usual_in w k ≡ false → d ≡ deed_of m (class_in w)
    → d ≡ deed_of k (class_in w) → (d ≡ act.capital → ⊥) → step_at row at m o ≡ step_at row at k o
number_same row at m k o w d e u v f g n =
    sym (told_by row at m o w e u d f)
    ∙ ap (λ (x : Reading). step_of at o (choose (once_list w) d x)) (asked_same m k d w (cell_of row (at + 1)) (cell_of row (at + 2)) n)
    ∙ told_by row at k o w e v d g

-- the deed of a cell that is read as usual says so
usuals_right : T (below (λ x. below (λ m. not (usual_in (word_of x) m) || eqb (deed_of m (class_in (word_of x))) act.as_usual) mode_count) sights)
unfolding words deeds
usuals_right = tt

pub no_usual : (row : Row) (at m w : ℕ) → m < mode_count → w ≡ word_of (cell_of row at) → (deed_of m (class_in w) ≡ act.as_usual → ⊥) → usual_in w m ≡ false
no_usual row at m w l e n = go (usual_in w m) refl
  where
    t : T (not (usual_in (word_of (cell_of row at)) m) || eqb (deed_of m (class_in (word_of (cell_of row at)))) act.as_usual)
    t =
        at_below (λ m. not (usual_in (word_of (cell_of row at)) m) || eqb (deed_of m (class_in (word_of (cell_of row at)))) act.as_usual) mode_count
        (at_below (λ x. below (λ m. not (usual_in (word_of x) m) || eqb (deed_of m (class_in (word_of x))) act.as_usual) mode_count) sights usuals_right (cell_of row at) (sight_small (get_or row at no_cell))) m l

    go : (b : Bool) → usual_in w m ≡ b → b ≡ false
    go true u =
        absurd
        (n
        (ap (λ (v : ℕ). deed_of m (class_in v)) e
        ∙ eqb→eq (deed_of m (class_in (word_of (cell_of row at)))) act.as_usual
        (implies (usual_in (word_of (cell_of row at)) m) (eqb (deed_of m (class_in (word_of (cell_of row at)))) act.as_usual) (subst T (sym (ap (λ (v : ℕ). usual_in v m) (sym e) ∙ u)) tt) t)))
    go false u = refl

-- what `usual` returns
module _ (w at o : ℕ) where
  pub usual_sign : (p t : ℕ) → p ≡ point_in w → t ≡ then_in w → (p ≡ no_point → ⊥) → gives no_point p (at + 1) t o ≡ step_of at o (usual_by w)
  usual_sign p t e f n = rw (ne_eqb (point_in w) no_point (λ q. n (e ∙ q)), e, f)

-- A CELL THAT IS ALONE: its bit tells that it is, and that of a letter the mode behind it
abbrev pub bit_of : ℕ → ℕ → ℕ
bit_of these c = these / 2 ^ (c % 64) % 2

abbrev alone_test : ℕ → Bool
alone_test c = beq (eqb (bit_of (letters_alone + signs_alone) c) 1) (alone_cell c)

alone_right : T (below alone_test no_cell)
unfolding words
alone_right = tt

abbrev behind_test : ℕ → Bool
behind_test c = not (alone_cell c) || eqb (then_in (word_of c)) (cond (eqb (bit_of letters_alone c) 1) mode.mixed mode.free)

behind_right : T (below behind_test no_cell)
unfolding words
behind_right = tt

module _ (c : ℕ) (low : c ≤ last_cell) where
  pub alone_told : eqb (bit_of (letters_alone + signs_alone) c) 1 ≡ alone_cell c
  alone_told = beq_same (eqb (bit_of (letters_alone + signs_alone) c) 1) (alone_cell c) (at_below alone_test no_cell alone_right c (omega (arith, low)))

  module _ (alone : alone_cell c ≡ true) where
    behind : then_in (word_of c) ≡ cond (eqb (bit_of letters_alone c) 1) mode.mixed mode.free
    behind =
        eqb→eq (then_in (word_of c)) (cond (eqb (bit_of letters_alone c) 1) mode.mixed mode.free)
        (implies (alone_cell c) (eqb (then_in (word_of c)) (cond (eqb (bit_of letters_alone c) 1) mode.mixed mode.free)) (subst T (sym alone) tt)
        (at_below behind_test no_cell behind_right c (omega (arith, low))))

    pub behind_letter : bit_of letters_alone c ≡ 1 → mode.mixed ≡ then_in (word_of c)
    behind_letter e = sym (behind ∙ ap (λ (b : Bool). cond b mode.mixed mode.free) (eq-eqb (bit_of letters_alone c) 1 e))

    pub behind_sign : (bit_of letters_alone c ≡ 1 → ⊥) → mode.free ≡ then_in (word_of c)
    behind_sign n = sym (behind ∙ ap (λ (b : Bool). cond b mode.mixed mode.free) (ne_eqb (bit_of letters_alone c) 1 n))

    pub alone_modes : (then_in (word_of c) ≡ mode.free) ⊎ (then_in (word_of c) ≡ mode.mixed)
    alone_modes = go (eqb (bit_of letters_alone c) 1) behind
      where
        go : (b : Bool) → then_in (word_of c) ≡ cond b mode.mixed mode.free → (then_in (word_of c) ≡ mode.free) ⊎ (then_in (word_of c) ≡ mode.mixed)
        go true e = inr e
        go false e = inl e

-- what a test of three parts says of each
three : (a b d : Bool) → (a && (b && d)) ≡ true → (a ≡ true) × (b ≡ true) × (d ≡ true)
three true true true e = (refl, refl, refl)
three true true false e = absurd (true≢false (sym e))
three true false d e = absurd (true≢false (sym e))
three false b d e = absurd (true≢false (sym e))

-- such a cell is its code point, where nothing is begun and in a run with a small letter
pub alone_step : (row : Row) (at m o : ℕ) → at < length row → alone_cell (get_or row at 0) ≡ true → (m ≡ mode.free) ⊎ (m ≡ mode.mixed)
    → step_at row at m o ≡ gives no_point (point_in (word_of (get_or row at 0))) (at + 1) (then_in (word_of (get_or row at 0))) o
alone_step row at m o inside alone here =
    sym
    (usual_sign w at o (point_in w) (then_in w) refl refl (has_some (point_in w) parts.2)
    ∙ as_usual_lem row at m o w (word_there row at inside) (⊎_elim (λ e. ap (usual_in w) e ∙ parts.0) (λ e. ap (usual_in w) e ∙ parts.1) here))
  where
    w : ℕ
    w = word_of (get_or row at 0)

    parts : (usual_in (word_of (get_or row at 0)) mode.free ≡ true) × (usual_in (word_of (get_or row at 0)) mode.mixed ≡ true) × (not (eqb (point_in (word_of (get_or row at 0))) no_point) ≡ true)
    parts = three (usual_in w mode.free) (usual_in w mode.mixed) (not (eqb (point_in w) no_point)) alone

-- where a cell that has no code point of its own is read as usual, it is a mark of a kind that is counted
marks_right : T (below (λ x. below (λ m. not (usual_in (word_of x) m && eqb (point_in (word_of x)) no_point) || ltb (kind_in (word_of x)) kinds) mode_count) sights)
unfolding words
marks_right = tt

pub kind_known : (row : Row) (at m w : ℕ) → m < mode_count → w ≡ word_of (cell_of row at) → usual_in w m ≡ true → point_in w ≡ no_point → kind_in w < kinds
kind_known row at m w l e u q =
    let x : ℕ = cell_of row at in
    let t = at_below (λ m. not (usual_in (word_of x) m && eqb (point_in (word_of x)) no_point) || ltb (kind_in (word_of x)) kinds) mode_count
    (at_below (λ x. below (λ m. not (usual_in (word_of x) m && eqb (point_in (word_of x)) no_point) || ltb (kind_in (word_of x)) kinds) mode_count) sights marks_right x (sight_small (get_or row at no_cell))) m l in
    let f : (usual_in (word_of x) m && eqb (point_in (word_of x)) no_point) ≡ true =
    ap (λ (v : ℕ). usual_in v m && eqb (point_in v) no_point) (sym e) ∙ ap (λ (b : Bool). b && eqb (point_in w) no_point) u ∙ eq-eqb (point_in w) no_point q in
    let g : kind_in (word_of x) < kinds =
    ltb→lt (kind_in (word_of x)) kinds
    (implies (usual_in (word_of x) m && eqb (point_in (word_of x)) no_point) (ltb (kind_in (word_of x)) kinds) (subst T (sym f) tt) t) in
    omega (arith, g, ap kind_in e)

-- QUICK READINGS. In a run: what each cell is is what the table says, and it leaves the run's own mode
both : (a b : Bool) → T (a && b) → T a × T b
both true b t = (tt, t)
both false b t = absurd t

either : (a b : Bool) → T (a || b) → (T a) ⊎ (T b)
either true b t = inl tt
either false b t = inr t

abbrev told_as : ℕ → ℕ → ℕ → ℕ → ℕ → ℕ → Bool
told_as d p m its_deed its_point its_mode = eqb d its_deed && (eqb p its_point && eqb m its_mode)

abbrev run_told : ℕ → ℕ → ℕ → Bool
run_told m w p =
    told_as (deed_of m (class_in w)) p (home_of m) act.digit (figure_in w) mode.num
    || (told_as (deed_of m (class_in w)) p (home_of m) act.digit_under (figure_in w) mode.under
    || (told_as (deed_of m (class_in w)) p (home_of m) act.capital_of_many (capital_in w) mode.whole2
    || told_as (deed_of m (class_in w)) p (home_of m) act.lower_digit (lower_in w) mode.low))

abbrev run_test : ℕ → ℕ → Bool
run_test m w = leb no_run (run_of m) || (eqb (run_point w (run_of m)) no_point || (not (usual_in w m) && run_told m w (run_point w (run_of m))))

runs_right : T (below (λ x. below (λ m. run_test m (word_of x)) mode_count) sights)
unfolding deeds words run_of home_of
runs_right = tt

module _ (row : Row) (at m o p run : ℕ) (small : m < mode_count) (inside : at < length row) (low : get_or row at 0 ≤ last_cell) (is_run : run ≡ run_of m)
    (some_run : run < no_run) (point_given : p ≡ run_point (word_of (get_or row at 0)) run) (a_point : p ≡ no_point → ⊥) where
  abbrev w : ℕ
  w = word_of (cell_of row at)

  point_is : p ≡ run_point (word_of (cell_of row at)) (run_of m)
  point_is = point_given ∙ ap (λ (n : ℕ). run_point (word_of n) run) (cell_low row at inside low) ∙ ap (run_point (word_of (cell_of row at))) is_run

  is_told : (its_deed its_point its_mode : ℕ) → T (told_as (deed_of m (class_in (word_of (cell_of row at)))) (run_point (word_of (cell_of row at)) (run_of m)) (home_of m) its_deed its_point its_mode)
      → (deed_of m (class_in (word_of (cell_of row at))) ≡ its_deed) × (p ≡ its_point) × (home_of m ≡ its_mode)
  is_told its_deed its_point its_mode t =
      let a = both (eqb (deed_of m (class_in (word_of (cell_of row at)))) its_deed) (eqb (run_point (word_of (cell_of row at)) (run_of m)) its_point && eqb (home_of m) its_mode) t in
      let b = both (eqb (run_point (word_of (cell_of row at)) (run_of m)) its_point) (eqb (home_of m) its_mode) a.1 in
      (eqb→eq (deed_of m (class_in (word_of (cell_of row at)))) its_deed a.0, point_is ∙ eqb→eq (run_point (word_of (cell_of row at)) (run_of m)) its_point b.0, eqb→eq (home_of m) its_mode b.1)

  pub run_step : gives no_point p (at + 1) (home_of m) o ≡ step_at row at m o
  run_step =
      ⊎_elim (λ t. absurd (omega (arith, leb-true no_run (run_of m) (is_true (leb no_run (run_of m)) t), is_run, some_run)))
      (λ t. ⊎_elim (λ k. absurd (a_point (point_is ∙ eqb→eq (run_point w (run_of m)) no_point k)))
      (λ k. by_run (both (not (usual_in w m)) (run_told m w (run_point w (run_of m))) k))
      (either (eqb (run_point w (run_of m)) no_point) (not (usual_in w m) && run_told m w (run_point w (run_of m))) t))
      (either (leb no_run (run_of m)) (eqb (run_point w (run_of m)) no_point || (not (usual_in w m) && run_told m w (run_point w (run_of m))))
      (at_below (λ m. run_test m w) mode_count (at_below (λ x. below (λ m. run_test m (word_of x)) mode_count) sights runs_right (cell_of row at) (sight_small (get_or row at no_cell))) m small))
    where
      mode_is : (k : ℕ) → home_of m ≡ k → gives no_point p (at + 1) (home_of m) o ≡ gives no_point p (at + 1) k o
      mode_is k e = ap (λ (n : ℕ). gives no_point p (at + 1) n o) e

      not_usual : T (not (usual_in (word_of (cell_of row at)) m)) → usual_in (word_of (cell_of row at)) m ≡ false
      not_usual t = go (usual_in (word_of (cell_of row at)) m) t
        where
          go : (b : Bool) → T (not b) → b ≡ false
          go true t = absurd t
          go false t = refl

      d : ℕ
      d = deed_of m (class_in (word_of (cell_of row at)))

      q : ℕ
      q = run_point (word_of (cell_of row at)) (run_of m)

      home : ℕ
      home = home_of m

      by_run : T (not (usual_in (word_of (cell_of row at)) m)) × T (run_told m (word_of (cell_of row at)) (run_point (word_of (cell_of row at)) (run_of m)))
          → gives no_point p (at + 1) (home_of m) o ≡ step_at row at m o
      by_run (u, t) =
          ⊎_elim
          (λ k. let h = is_told act.digit (figure_in (word_of (cell_of row at))) mode.num k in
          mode_is mode.num h.2 ∙ told_digit row at m o (word_of (cell_of row at)) refl (not_usual u) (deed_of m (class_in (word_of (cell_of row at)))) refl h.0 p h.1)
          (λ k. ⊎_elim
          (λ k. let h = is_told act.digit_under (figure_in (word_of (cell_of row at))) mode.under k in
          mode_is mode.under h.2 ∙ told_under row at m o (word_of (cell_of row at)) refl (not_usual u) (deed_of m (class_in (word_of (cell_of row at)))) refl h.0 p h.1)
          (λ k. ⊎_elim
          (λ k. let h = is_told act.capital_of_many (capital_in (word_of (cell_of row at))) mode.whole2 k in
          mode_is mode.whole2 h.2 ∙ told_capital row at m o (word_of (cell_of row at)) refl (not_usual u) (deed_of m (class_in (word_of (cell_of row at)))) refl h.0 p h.1)
          (λ k. let h = is_told act.lower_digit (lower_in (word_of (cell_of row at))) mode.low k in
          mode_is mode.low h.2 ∙ told_lower row at m o (word_of (cell_of row at)) refl (not_usual u) (deed_of m (class_in (word_of (cell_of row at)))) refl h.0 p h.1)
          (either (told_as d q home act.capital_of_many (capital_in w) mode.whole2) (told_as d q home act.lower_digit (lower_in w) mode.low) k))
          (either (told_as d q home act.digit_under (figure_in w) mode.under) (told_as d q home act.capital_of_many (capital_in w) mode.whole2 || told_as d q home act.lower_digit (lower_in w) mode.low) k))
          (either (told_as d q home act.digit (figure_in w) mode.num) (told_as d q home act.digit_under (figure_in w) mode.under || (told_as d q home act.capital_of_many (capital_in w) mode.whole2 || told_as d q home act.lower_digit (lower_in w) mode.low)) t)

-- the mode that it leaves is in the same run
pub home_run : (m : ℕ) → run_of (home_of m) ≡ run_of m
unfolding run_of home_of
home_run m = go (eqb m mode.mid) refl
  where
    go : (b : Bool) → eqb m mode.mid ≡ b → run_of (cond b mode.num m) ≡ run_of m
    go true e = sym (ap run_of (eqb→eq m mode.mid (subst T (sym e) tt)))
    go false e = refl

pub home_small : (m : ℕ) → m < mode_count → home_of m < mode_count
unfolding home_of
home_small m l = go (eqb m mode.mid)
  where
    go : (b : Bool) → cond b mode.num m < mode_count
    go true = omega arith
    go false = l

-- a cell that is a point or a comma between two digits, where a digit follows; the mode that it leaves is in the same run
abbrev between_test : ℕ → Bool
between_test c =
    not (usual_in (word_of c) mode.num) && (eqb act.point (deed_of mode.num (class_in (word_of c))) && eqb (run_point (word_of c) between) (point_in (word_of c)))

between_told : (c : ℕ) → not (eqb (run_point (word_of c) between) no_point) ≡ true → T (between_test c)
unfolding words deeds
between_told c n = has_field (λ w. run_point w between) refl between_test tt c n

pub point_step : (row : Row) (at o p : ℕ) → p ≡ run_point (word_of (cell_of row at)) between → (p ≡ no_point → ⊥) → digit_cell (cell_of row (at + 1)) ≡ true
    → gives no_point p (at + 1) mode.mid o ≡ step_at row at mode.num o
point_step row at o p e n f =
    let w : ℕ = word_of (cell_of row at) in
    let t = both (not (usual_in w mode.num)) (eqb act.point (deed_of mode.num (class_in w)) && eqb (run_point w between) (point_in w))
    (between_told (cell_of row at) (ap not (ne_eqb (run_point w between) no_point (λ q. n (e ∙ q))))) in
    let u = both (eqb act.point (deed_of mode.num (class_in w))) (eqb (run_point w between) (point_in w)) t.1 in
    point_inside_lem at o mode.num act.point w (cell_of row (at + 1)) (cell_of row (at + 2)) refl f p (e ∙ eqb→eq (run_point w between) (point_in w) u.1)
    ∙ by_deed row at mode.num o w refl (not-true (usual_in w mode.num) (is_true (not (usual_in w mode.num)) t.0)) act.point
    (eqb→eq act.point (deed_of mode.num (class_in w)) u.0) (asked_by mode.num act.point w (cell_of row (at + 1)) (cell_of row (at + 2))) refl

pub in_number : (row : Row) (at m o : ℕ) (s : Option Step) → m ≡ mode.num → Quick row at mode.num mode.mid o s → InRun row at m o s
unfolding run_of
in_number row at m o s e q = (mode.mid, ap run_of (sym e), subst (λ (n : ℕ). Quick row at n mode.mid o s) (sym e) q)

-- U+2014 behind another; a capital with its 46 behind another
pub dash_step : (row : Row) (at o : ℕ) → cell_of row at ≡ dots 36 → cell_of row (at + 1) ≡ dots 36
    → gives no_point (code "—") (at + 2) mode.dash o ≡ step_at row at mode.dash o
unfolding step_at reading_of by_word asked_by words deeds dots
dash_step row at o e f =
    sym (ap (λ (x : ℕ). step_of at o (reading_of mode.dash x (cell_of row (at + 1)) (cell_of row (at + 2)))) e
    ∙ ap (λ (y : ℕ). step_of at o (reading_of mode.dash (dots 36) y (cell_of row (at + 2)))) f)

pub owed_step : (row : Row) (at o p : ℕ) → cell_of row at ≡ dots 46 → p ≡ capital_in (word_of (cell_of row (at + 1))) → (p ≡ no_point → ⊥)
    → gives no_point p (at + 2) mode.owing o ≡ step_at row at mode.owing o
unfolding step_at reading_of by_word asked_by capital_by after_capital words deeds dots
owed_step row at o p e f n =
    sym (ap (λ (x : ℕ). step_of at o (reading_of mode.owing x (cell_of row (at + 1)) (cell_of row (at + 2)))) e
    ∙ rw (
      ne_eqb (cell_of row (at + 1)) (dots 46) (λ q. n (f ∙ ap (λ (y : ℕ). capital_in (word_of y)) q)),
      ne_eqb (cell_of row (at + 1)) (dots 2) (λ q. n (f ∙ ap (λ (y : ℕ). capital_in (word_of y)) q)),
      ne_eqb (capital_in (word_of (cell_of row (at + 1)))) no_point (λ q. n (f ∙ q)),
      ← f,
    ))
