-- The first pass where a run of capitals only is supposed (`Supposing`): from what holds without (`supposing`); where a small letter stands in the run after all, its first
-- capital is made anew (`undone`); anywhere else the run was of capitals only, or there is none (`stood`, `stood_at_end`, `at_end`); one more turn (`turned`). Last: what is left
-- to do grows less, since a run is drawn anew only once. For any table that is `Held`. Assumes nothing.
use mathlib.Core.Path.{◌≡◌, refl, sym, ap, ◌∙◌, subst}
use mathlib.Core.Logic.{inl, inr}
use mathlib.Core.Bool.{Bool, true, false, ◌&&◌, cond, beq, true≢false}
use mathlib.Core.List.{List, ◌++◌}
use Prim.Native.Nat.{ℕ, ◌+◌, ◌-◌, ◌*◌, ◌/◌, ◌%◌, ◌≤◌, ◌<◌}
use native.Mathlib.Omega.{arith}
use lib.Dec.{eqb, ltb}
use lib.ListN.{length, take, get_or, set, length-set}
use lib.Seq.{take-set-lt, get_or-take, get_or-set_same, set-set}
use Rattle.std.specs.Prelude.{Some, None}
use borrow.Author.Tests.{eqb-true}
use Rattle.rules.specs.Sorts.{Table, class_number, capital}
use Rattle.rules.proofs.Finite.{beq_same}
use Rattle.rules.proofs.States.{Future}
use Rattle.rules.proofs.Enumerations.{classes}
use Rattle.rules.proofs.Sides.{mixed_next, row_on}
use Rattle.entries.specs.States.{capitals, mixed}
use Rattle.entries.specs.SignWords.{count_of, sign_of_two, third_of}
use Rattle.entries.specs.Entries.{entry_of, class_in, usual_in, first_in}
use Rattle.entries.specs.Numbers.{state_number}
use Rattle.entries.specs.declared.Entry.{Entry}
use Rattle.deeds.specs.Acts as act
use Rattle.deeds.specs.Stages.{deed_of, settled_by, Supposed}
use Rattle.deeds.proofs.Machine.{settled_mixed, capitals_only}
use Rattle.turns.specs.Ahead.{is_small, is_capital, class_at, items_from, future_at}
use Rattle.turns.proofs.Ahead.{small_here, no_letter_here, end_here}
use Rattle.writing.specs.Joined.{joined}
use Rattle.passes.specs.Passes.{dots46, sign_by, alone_of, small_among_capitals}
use Rattle.passes.specs.Middle.{Mid, Supposing, Carried}
use Rattle.passes.specs.declared.Reached.{Reached}
use Rattle.passes.proofs.Going.{Held}
use Rattle.passes.proofs.Drawing.{Passed, state_small, went_deed, mid_on}
use Rattle.passes.proofs.Carrying.{and_true, two_cells}

-- a choice that is false
cond_false : (b x : Bool) → (b ≡ true → x ≡ false) → cond b x false ≡ false
cond_false true x f = f refl
cond_false false x f = refl

-- the first capital, made anew, has the sign of a capital alone
first_alone : (e : ℕ) → alone_of (sign_by act.all_capitals_way e) ≡ sign_by act.one_capital_way e
unfolding sign_by
first_alone e = let q : third_of (sign_by act.all_capitals_way e) ≡ first_in e = omega arith in ap (sign_of_two dots46) q

-- it had three cells, and has two (`two_cells`)
first_count : (e : ℕ) → count_of (sign_by act.all_capitals_way e) ≡ 3
unfolding sign_by
first_count e = omega arith

module _ (tb : Table) (h : Held tb) (text signs₀ : List ℕ) where
  -- of the signs it looks at those before its place
  mid_kept : (signs new : List ℕ) (opened state n i : ℕ) → Mid tb text signs₀ signs opened state n i → length new ≡ length signs → take i new ≡ take i signs
      → Mid tb text signs₀ new opened state n i
  mid_kept signs new opened state n i m same kept =
      record {
        past = m.past;
        inside = m.inside;
        room = subst (λ (k : ℕ). length text ≤ k) (sym same) m.room;
        same = same ∙ m.same;
        few = m.few;
        at = m.at;
        low = m.low;
        count = m.count ∙ ap (λ (s : List ℕ). length (joined s)) (sym kept);
        drawn = ap (λ (s : List ℕ). joined s ++ row_on m.past (items_from tb text i)) kept ∙ m.drawn;
        whole = m.whole;
      }

  pub supposing : (signs : List ℕ) (opened state n i : ℕ) → Mid tb text signs₀ signs opened state n i → Supposing tb text signs₀ signs opened state n i
  supposing signs opened state n i m =
      record {
        inside = m.inside;
        room = m.room;
        same = m.same;
        small = state_small tb h text m.past i state m.at;
        low = m.low;
        right = λ e. m;
        wrong = λ e w. absurd (true≢false (sym w ∙ capitals_only m.past (future_at tb text i) (sym m.at ∙ e)));
      }

  pub at_end : {signs : List ℕ} {opened state n i : ℕ} → Supposing tb text signs₀ signs opened state n i → length text ≤ i → Mid tb text signs₀ signs opened state n i
  at_end {i} v l = v.right (λ e. end_here tb h.zero text i l)

  -- WHAT ASKS NOTHING IS DRAWN, from place i on
  module _ {signs new : List ℕ} {opened state n i : ℕ} (v : Supposing tb text signs₀ signs opened state n i) {r : Reached} (c : Carried tb text signs new state n i r) where
    small_told : (w : Entry) → r.entry ≡ Some w → small_among_capitals (state_number r.state) w.word ≡ eqb (state_number r.state) capitals && is_small (class_at tb text r.place)
    small_told w is_w =
        ap (λ (w : ℕ). small_among_capitals (state_number r.state) w) (c.word w is_w).1
        ∙ ap (λ (k : ℕ). eqb (state_number r.state) capitals && ltb k (class_number capital)) (h.words.class_is (get_or text r.place 0))
        ∙ ap (λ (b : Bool). eqb (state_number r.state) capitals && b)
        (beq_same (ltb (class_number (class_at tb text r.place)) (class_number capital)) (is_small (class_at tb text r.place))
        (classes.at (λ k. beq (ltb (class_number k) (class_number capital)) (is_small k)) tt (class_at tb text r.place)))

    -- up to a small letter in a run of capitals
    module _ (w : Entry) (is_w : r.entry ≡ Some w) (e : small_among_capitals (state_number r.state) w.word ≡ true) where
      both : (eqb (state_number r.state) capitals ≡ true) × (is_small (class_at tb text r.place) ≡ true)
      both = and_true (eqb (state_number r.state) capitals) (is_small (class_at tb text r.place)) (sym (small_told w is_w) ∙ e)

      pub was_supposed : state ≡ capitals
      was_supposed = c.still (eqb-true (state_number r.state) capitals both.0)

      anew : (1 ≤ i) × (1 ≤ n) × Mid tb text signs₀ (set signs (i - 1) (alone_of (get_or signs (i - 1) 0))) opened mixed (n - 1) i
      anew =
          v.wrong was_supposed
          (c.run was_supposed ∙ ap (λ (b : Bool). cond b (mixed_next (future_at tb text r.place)) false) both.0
          ∙ small_here tb h.zero text r.place both.1)

      pub some_place : 1 ≤ i
      some_place = anew.0

      pub some_cell : 1 ≤ n
      some_cell = anew.1

      pub undone : (a : ℕ) → a ≡ alone_of (get_or new (i - 1) 0) → Supposing tb text signs₀ (set new (i - 1) a) opened mixed (n - 1) i
      undone a is_a =
          let j : ℕ = i - 1 in
          let b : j < i = omega (arith, some_place) in
          let x : ℕ = alone_of (get_or signs j 0) in
          let q : get_or new j 0 ≡ get_or signs j 0 = sym (get_or-take i new j 0 b) ∙ ap (λ (s : List ℕ). get_or s j 0) c.kept ∙ get_or-take i signs j 0 b in
          supposing (set new j a) opened mixed (n - 1) i
          (mid_kept (set signs j x) (set new j a) opened mixed (n - 1) i anew.2 (length-set new j a ∙ c.same ∙ sym (length-set signs j x))
          (take-set-lt i new j a b ∙ ap (λ (s : List ℕ). set s j a) c.kept ∙ ap (λ (y : ℕ). set (take i signs) j y) (is_a ∙ ap alone_of q)
          ∙ sym (take-set-lt i signs j x b)))

    -- up to anything else: no small letter is ahead in a run of capitals
    module _ (none : eqb (state_number r.state) capitals ≡ true → mixed_next (future_at tb text r.place) ≡ false) where
      right_so : Mid tb text signs₀ new opened (state_number r.state) r.cells r.place
      right_so =
          c.carries signs₀ opened
          (v.right (λ q. c.run q ∙ cond_false (eqb (state_number r.state) capitals) (mixed_next (future_at tb text r.place)) none))

    pub stood : (w : Entry) → r.entry ≡ Some w → small_among_capitals (state_number r.state) w.word ≡ false → Mid tb text signs₀ new opened (state_number r.state) r.cells r.place
    stood w is_w e = right_so (λ q. no_letter_here tb h.zero text r.place (no_capital q (is_capital (class_at tb text r.place)) refl) (no_small q))
      where
        l : r.place < length text
        l = (c.word w is_w).0

        no_capital : eqb (state_number r.state) capitals ≡ true → (b : Bool) → is_capital (class_at tb text r.place) ≡ b → b ≡ false
        no_capital q true z =
            sym (h.words.capital_usual (get_or text r.place 0) z)
            ∙ ap (usual_in (entry_of tb (get_or text r.place 0))) (sym (eqb-true (state_number r.state) capitals q)) ∙ c.asks l
        no_capital q false z = refl

        no_small : eqb (state_number r.state) capitals ≡ true → is_small (class_at tb text r.place) ≡ false
        no_small q = ap (λ (b : Bool). b && is_small (class_at tb text r.place)) (sym q) ∙ sym (small_told w is_w) ∙ e

    pub stood_at_end : r.entry ≡ None → Mid tb text signs₀ new opened (state_number r.state) r.cells r.place
    stood_at_end e = right_so (λ q. end_here tb h.zero text r.place (c.no_word e))

  -- A TURN, by a deed that may be supposed
  module _ {signs : List ℕ} {opened state n i : ℕ} (m : Mid tb text signs₀ signs opened state n i) (l : i < length text) {opens : ℕ} (p : Passed tb text opened i opens) where
    abbrev e : ℕ
    e = entry_of tb (get_or text i 0)

    abbrev ahead : Future
    ahead = future_at tb text (i + 1)

    module _ (d : ℕ) (few : d < act.questions) (w k : ℕ) (is_w : w ≡ sign_by (d % act.ways) e) (is_k : k ≡ count_of w)
        (new : List ℕ) (count : ℕ) (is_new : new ≡ set signs i w) (is_count : count ≡ n + k) where
      settled_so : d ≡ settled_by (deed_of state (class_in e)) ahead → Supposing tb text signs₀ new opens (d / act.ways) count (i + 1)
      settled_so is_d =
          supposing new opens (d / act.ways) count (i + 1)
          (mid_on tb h text signs₀ signs opened state n i m l opens p w (d / act.ways) k
          (went_deed tb h text m.past i state m.at d is_d few w (d / act.ways) is_w refl) is_k new count is_new is_count)

      supposed_so : d ≡ act.first_of_capitals → deed_of state (class_in e) ≡ act.begins_run → mixed_next ahead ≡ true
          → Supposing tb text signs₀ new opens (d / act.ways) count (i + 1)
      supposed_so is_d asked small =
          record {
            inside = omega arith;
            room = subst (λ (s : List ℕ). length text ≤ length s) (sym is_new) (subst (λ (j : ℕ). length text ≤ j) (sym (length-set signs i w)) m.room);
            same = ap length is_new ∙ length-set signs i w ∙ m.same;
            small = omega (arith, is_d);
            low = omega (arith, m.low, is_count, three);
            right = λ f. absurd (true≢false (sym small ∙ f (omega (arith, is_d))));
            wrong = λ s b. (omega arith, omega (arith, is_count, three), alone);
          }
        where
          way : w ≡ sign_by act.all_capitals_way e
          way = is_w ∙ ap (λ (x : ℕ). sign_by (x % act.ways) e) is_d

          three : k ≡ 3
          three = is_k ∙ ap count_of way ∙ first_count e

          -- its sign, made anew
          made : set new (i + 1 - 1) (alone_of (get_or new (i + 1 - 1) 0)) ≡ set signs i (sign_by act.one_capital_way e)
          made =
              let q : i + 1 - 1 ≡ i = omega arith in
              ap (λ (j : ℕ). set new j (alone_of (get_or new j 0))) q
              ∙ ap (λ (s : List ℕ). set s i (alone_of (get_or s i 0))) is_new
              ∙ ap (λ (x : ℕ). set (set signs i w) i (alone_of x)) (get_or-set_same signs i w 0 (omega (arith, m.room)))
              ∙ set-set signs i w (alone_of w)
              ∙ ap (set signs i) (ap alone_of way ∙ first_alone e)

          alone : Mid tb text signs₀ (set new (i + 1 - 1) (alone_of (get_or new (i + 1 - 1) 0))) opens mixed (count - 1) (i + 1)
          alone =
              mid_on tb h text signs₀ signs opened state n i m l opens p (sign_by act.one_capital_way e) mixed 2
              (went_deed tb h text m.past i state m.at act.capital_alone (settled_mixed (deed_of state (class_in e)) ahead asked small) (omega arith)
              (sign_by act.one_capital_way e) mixed refl refl) (two_cells e) _ (count - 1) made (omega (arith, is_count, three))

      pub turned : Supposed (deed_of state (class_in e)) ahead d → Supposing tb text signs₀ new opens (d / act.ways) count (i + 1)
      turned (inl q) = settled_so q
      turned (inr q) = supposed_so q.0 q.1 q.2

-- a fault is never supposed
pub fault_settled : (q d : ℕ) (f : Future) → Supposed q f d → act.questions ≤ d → d ≡ settled_by q f
fault_settled q d f (inl e) l = e
fault_settled q d f (inr e) l = absurd (omega (arith, e.0, l))

-- WHAT IS LEFT: each place, and, where a run is supposed, that it may have to be drawn anew
abbrev pub left : ℕ → ℕ → ℕ → ℕ
left long i s = 2 * (long - i) + cond (eqb s capitals) 1 0

at_most : (b : Bool) → cond b 1 0 ≤ 1
at_most true = omega arith
at_most false = omega arith

pub less_anew : (long i s : ℕ) → s ≡ capitals → left long i mixed < left long i s
less_anew long i s is_s = let q : ◌≡◌ {A = ℕ} (cond (eqb s capitals) 1 0) 1 = ap {B = ℕ} (λ (x : ℕ). cond (eqb x capitals) 1 0) is_s in omega (arith, q)

pub less_on : (long i s j t : ℕ) → i < long → i < j → left long j t < left long i s
less_on long i s j t l k = omega (arith, at_most (eqb t capitals), l, k)
