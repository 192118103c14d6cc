-- The table is what the rules say: one test that antt computes over past, class and future (`turn_is`). Then what `settled` makes of a question
-- and of anything else; what is written as usual, and what it leaves of a run of capitals; and what a deed says of its outcome. Assumes nothing.
use mathlib.Core.Path.{◌≡◌, refl, sym, ap, ◌∙◌, subst}
use mathlib.Core.Bool.{Bool, true, false, ◌&&◌, ◌||◌, not, cond, beq, true≢false}
use mathlib.Core.List.{List, [], ◌∷◌}
use Prim.Native.Nat.{ℕ, ◌+◌, ◌*◌, ◌/◌, ◌%◌, ◌^◌, ◌≤◌, ◌<◌}
use native.Mathlib.Omega.{arith}
use lib.Dec.{T, eqb, ltb, eqb→eq, ltb→lt}
use borrow.Author.Tests.{ne_eqb}
use Rattle.rules.specs.Sorts.{Class, class_number, capital}
use Rattle.rules.specs.Signs.{Way}
use Rattle.rules.specs.Places.{lacks_sign, breaks_pair, outside_form, shares_cells, Outcome, fault, silent, sign}
use Rattle.rules.proofs.Finite.{below, at_below, every, every2, at2, every3, at3, implies, false_of, is_true_of_eqb, beq_same, hold, holds, Hold}
use Rattle.rules.proofs.States.{Past, Future}
use Rattle.rules.proofs.Enumerations.{pasts, classes, futures, ways}
use Rattle.rules.proofs.Sides.{caps_next, mixed_next, form_next, digit_next, rule, look, after}
use Rattle.entries.specs.States as state
use Rattle.entries.specs.Entries.{then_of, usual_states, bits}
use Rattle.deeds.specs.Acts as act
use Rattle.deeds.specs.Deeds.{deeds}
use Rattle.deeds.specs.Numbers.{act_number, fault_number}
use Rattle.deeds.specs.declared.Act.{Act}
use Rattle.deeds.specs.declared.Act.TheVariants.{Sign}
use Rattle.deeds.specs.declared.Fault.{Fault}
use Rattle.deeds.specs.declared.Fault.TheVariants.{NoSign, OutsideForm, SharesCells}
use Rattle.deeds.specs.Stages.{stage_at, deed_of, settled_by, way_of, silent_as, act_of}

turn_right : Past → Class → Future → Bool
turn_right p c f = eqb (settled_by (deed_of (stage_at p (look c f)) (class_number c)) f) (act_of c (rule p c f) (stage_at (after p c) f))

turns_right : T (every3 pasts classes futures turn_right)
unfolding turn_right stage_at settled_by deed_of deeds act_of silent_as way_of rule look after
turns_right = tt

pub turn_is : (p : Past) (c : Class) (f : Future)
    → settled_by (deed_of (stage_at p (look c f)) (class_number c)) f ≡ act_of c (rule p c f) (stage_at (after p c) f)
unfolding turn_right
turn_is p c f =
    eqb→eq (settled_by (deed_of (stage_at p (look c f)) (class_number c)) f) (act_of c (rule p c f) (stage_at (after p c) f))
    (at3 pasts classes futures turn_right turns_right p c f)

-- QUESTIONS. Of a run of capitals only its first is one of many; that is supposed where a capital follows, and wrong where a small letter is in the run.
module _ (d : ℕ) (f : Future) (e : d ≡ act.begins_run) where
  pub settled_capitals : caps_next f ≡ true → act.first_of_capitals ≡ settled_by d f
  unfolding settled_by
  settled_capitals q = rw (e, q)

  pub settled_alone : caps_next f ≡ false → act.capital_alone ≡ settled_by d f
  unfolding settled_by
  settled_alone q = rw (e, q)

  pub settled_mixed : mixed_next f ≡ true → act.capital_alone ≡ settled_by d f
  settled_mixed q =
      settled_alone (false_of (caps_next f)
      (implies (mixed_next f) (not (caps_next f)) (rw q tt) (futures.at (λ f. not (mixed_next f) || not (caps_next f)) tt f)))

-- the others, decided by what is found (b) of what follows
module _ (d : ℕ) (f : Future) (b v : Bool) (found : b ≡ v) where
  pub settled_number : d ≡ act.begins_number → b ≡ form_next f → cond v act.first_of_form act.first_of_number ≡ settled_by d f
  unfolding settled_by
  settled_number e q = rw e (ap (λ (x : Bool). cond x act.first_of_form act.first_of_number) (sym found ∙ q))

  pub settled_point : d ≡ act.number_point → b ≡ digit_next f → cond v act.point_inside act.point_after ≡ settled_by d f
  unfolding settled_by
  settled_point e q = rw e (ap (λ (x : Bool). cond x act.point_inside act.point_after) (sym found ∙ q))

  pub settled_one : d ≡ act.one_under → b ≡ digit_next f → cond v act.digit_under act.shares_cells ≡ settled_by d f
  unfolding settled_by
  settled_one e q = rw e (ap (λ (x : Bool). cond x act.digit_under act.shares_cells) (sym found ∙ q))

-- anything else stays as it is
pub settled_else : (d : ℕ) (f : Future) → (d ≡ act.begins_run → ⊥) → (d ≡ act.begins_number → ⊥) → (d ≡ act.number_point → ⊥) → (d ≡ act.one_under → ⊥)
    → d ≡ settled_by d f
unfolding settled_by
settled_else d f a b c e = sym (rw (ne_eqb d act.begins_run a, ne_eqb d act.begins_number b, ne_eqb d act.number_point c, ne_eqb d act.one_under e))

pub settled_low : (d : ℕ) (f : Future) → d < act.questions → settled_by d f ≡ d
settled_low d f l = sym (settled_else d f (λ e. omega (arith, l, e)) (λ e. omega (arith, l, e)) (λ e. omega (arith, l, e)) (λ e. omega (arith, l, e)))

-- what is written is below the questions, and neither it nor a fault is one of them
pub act_small : (a : Act) → act_number a < act.questions
act_small Sign = omega arith
act_small a = omega arith

pub fault_great : (x : Fault) → act.questions ≤ fault_number x
fault_great NoSign = omega arith
fault_great OutsideForm = omega arith
fault_great SharesCells = omega arith

pub settled_act : (a : Act) (f : Future) → settled_by (act_number a) f ≡ act_number a
settled_act a f = settled_low (act_number a) f (act_small a)

pub settled_fault : (x : Fault) (f : Future) → settled_by (fault_number x) f ≡ fault_number x
unfolding settled_by
settled_fault NoSign f = refl
settled_fault OutsideForm f = refl
settled_fault SharesCells f = refl

-- a capital in a run that has a small letter has a 46 of its own
pub mixed_capital : (f : Future) → settled_by (deed_of state.mixed (class_number capital)) f ≡ act.capital_alone
unfolding deed_of deeds
mixed_capital f = settled_low act.capital_alone f (omega arith)

-- AS USUAL: in a state that is among the usual ones of a class, the deed is its own cells and the state that it leads to
usual_right : ℕ → Class → Bool
usual_right s c =
    not (eqb (bits (usual_states c) / 2 ^ (s % 64) % 2) 1)
    || (eqb (deed_of s (class_number c)) (then_of c * act.ways + act.bare_way) && ltb (then_of c * act.ways + act.bare_way) act.questions)

usuals_right : T (below (λ s. every (usual_right s) classes.members) state.states)
unfolding usual_right bits usual_states then_of deed_of deeds
usuals_right = tt

pub usual_is : (s : ℕ) (c : Class) (f : Future) → s < state.states → bits (usual_states c) / 2 ^ (s % 64) % 2 ≡ 1
    → settled_by (deed_of s (class_number c)) f ≡ then_of c * act.ways + act.bare_way
unfolding usual_right
usual_is s c f l e =
    let b : Bool = eqb (deed_of s (class_number c)) (then_of c * act.ways + act.bare_way) in
    let d : Bool = ltb (then_of c * act.ways + act.bare_way) act.questions in
    let t : T (b && d) =
    implies (eqb (bits (usual_states c) / 2 ^ (s % 64) % 2) 1) (b && d) (rw e tt)
    (classes.at (usual_right s) (at_below (λ s. every (usual_right s) classes.members) state.states usuals_right s l) c)
    in
    let h : Hold (b ∷ d ∷ []) = hold (b ∷ d ∷ []) (both b d t) in
    let q : deed_of s (class_number c) ≡ then_of c * act.ways + act.bare_way = eqb→eq (deed_of s (class_number c)) (then_of c * act.ways + act.bare_way) h.0 in
    ap (λ (n : ℕ). settled_by n f) q
    ∙ settled_low (then_of c * act.ways + act.bare_way) f (ltb→lt (then_of c * act.ways + act.bare_way) act.questions h.1.0)
  where
    both : (b d : Bool) → T (b && d) → T (b && (d && true))
    both true true t = tt
    both true false t = t
    both false d t = t

-- A RUN OF CAPITALS. Nothing that is written as usual leads to one, save where it goes on; and there a small letter follows if it still does behind what
-- goes on with the run, and otherwise not.
runs_right : ℕ → Class → Future → List Bool
runs_right s c f =
    (not (eqb (then_of c) state.capitals) || eqb s state.capitals)
    ∷ (not (eqb s state.capitals) || beq (mixed_next (look c f)) (cond (eqb (then_of c) state.capitals) (mixed_next f) false))
    ∷ []

usual_run_right : ℕ → Class → Future → Bool
usual_run_right s c f = not (eqb (bits (usual_states c) / 2 ^ (s % 64) % 2) 1) || holds (runs_right s c f)

usual_runs_right : T (below (λ s. every2 classes futures (usual_run_right s)) state.states)
unfolding usual_run_right runs_right bits usual_states then_of look
usual_runs_right = tt

module _ (s : ℕ) (c : Class) (f : Future) (l : s < state.states) (e : bits (usual_states c) / 2 ^ (s % 64) % 2 ≡ 1) where
  runs_held : Hold (runs_right s c f)
  unfolding usual_run_right
  runs_held =
      hold (runs_right s c f)
      (implies (eqb (bits (usual_states c) / 2 ^ (s % 64) % 2) 1) (holds (runs_right s c f)) (rw e tt)
      (at2 classes futures (usual_run_right s) (at_below (λ s. every2 classes futures (usual_run_right s)) state.states usual_runs_right s l) c f))

  pub usual_from_capitals : then_of c ≡ state.capitals → s ≡ state.capitals
  unfolding runs_right
  usual_from_capitals q =
      eqb→eq s state.capitals (implies (eqb (then_of c) state.capitals) (eqb s state.capitals) (is_true_of_eqb (then_of c) q) runs_held.0)

  pub usual_in_capitals : s ≡ state.capitals → mixed_next (look c f) ≡ cond (eqb (then_of c) state.capitals) (mixed_next f) false
  unfolding runs_right
  usual_in_capitals q =
      beq_same (mixed_next (look c f)) (cond (eqb (then_of c) state.capitals) (mixed_next f) false)
      (implies (eqb s state.capitals) (beq (mixed_next (look c f)) (cond (eqb (then_of c) state.capitals) (mixed_next f) false)) (is_true_of_eqb s q) runs_held.1.0)

-- where a place is in a run of capitals, no small letter is ahead in it
capitals_right : Past → Future → Bool
capitals_right p f = not (eqb (stage_at p f) state.capitals) || not (mixed_next f)

all_capitals_right : T (every2 pasts futures capitals_right)
unfolding capitals_right stage_at
all_capitals_right = tt

pub capitals_only : (p : Past) (f : Future) → stage_at p f ≡ state.capitals → mixed_next f ≡ false
unfolding capitals_right
capitals_only p f e =
    false_of (mixed_next f)
    (implies (eqb (stage_at p f) state.capitals) (not (mixed_next f)) (is_true_of_eqb (stage_at p f) e) (at2 pasts futures capitals_right all_capitals_right p f))

-- WHAT A DEED SAYS. Every state is one of the list.
stages_small : T (every2 pasts futures (λ p f. ltb (stage_at p f) state.states))
unfolding stage_at
stages_small = tt

pub stage_small : (p : Past) (f : Future) → stage_at p f < state.states
stage_small p f = ltb→lt (stage_at p f) state.states (at2 pasts futures (λ p f. ltb (stage_at p f) state.states) stages_small p f)

-- the way of an outcome that is no fault
unfoldable pub way_number : Class → Outcome → ℕ
unfolding way_of silent_as
way_number c (fault x) = act.silent_way
way_number c silent = silent_as c
way_number c (sign w) = way_of w

ways_right : ℕ → ℕ → List Bool
ways_right s w = ltb (s * act.ways + w) act.questions ∷ eqb ((s * act.ways + w) / act.ways) s ∷ eqb ((s * act.ways + w) % act.ways) w ∷ []

all_ways_right : T (below (λ s. below (λ w. holds (ways_right s w)) act.ways) state.states)
unfolding ways_right
all_ways_right = tt

way_small : (w : Way) → way_of w < act.ways
unfolding way_of
way_small w = ltb→lt (way_of w) act.ways (ways.at (λ w. ltb (way_of w) act.ways) tt w)

silent_small : (c : Class) → silent_as c < act.ways
unfolding silent_as
silent_small c = ltb→lt (silent_as c) act.ways (classes.at (λ c. ltb (silent_as c) act.ways) tt c)

-- a deed of a state and a way gives them back
pub parted : (s w : ℕ) → s < state.states → w < act.ways
    → (s * act.ways + w < act.questions) × ((s * act.ways + w) / act.ways ≡ s) × ((s * act.ways + w) % act.ways ≡ w)
unfolding ways_right
parted s w l k =
    let h =
    hold (ways_right s w)
    (at_below (λ w. holds (ways_right s w)) act.ways
    (at_below (λ s. below (λ w. holds (ways_right s w)) act.ways) state.states all_ways_right s l) w k)
    in (
      ltb→lt (s * act.ways + w) act.questions h.0,
      eqb→eq ((s * act.ways + w) / act.ways) s h.1.0,
      eqb→eq ((s * act.ways + w) % act.ways) w h.1.1.0,
    )

-- a deed below the questions: its state and its way are the outcome's, which is no fault
abbrev pub faultless : Outcome → Bool
faultless (fault c) = false
faultless silent = true
faultless (sign w) = true

pub done_is : (c : Class) (x : Outcome) (s : ℕ) → s < state.states → act_of c x s < act.questions
    → (faultless x ≡ true) × (act_of c x s / act.ways ≡ s) × (act_of c x s % act.ways ≡ way_number c x)
unfolding act_of way_number
done_is c (fault lacks_sign) s l h = absurd (omega (arith, h))
done_is c (fault breaks_pair) s l h = absurd (omega (arith, h))
done_is c (fault outside_form) s l h = absurd (omega (arith, h))
done_is c (fault shares_cells) s l h = absurd (omega (arith, h))
done_is c silent s l h = (refl, (parted s (silent_as c) l (silent_small c)).1, (parted s (silent_as c) l (silent_small c)).2)
done_is c (sign w) s l h = (refl, (parted s (way_of w) l (way_small w)).1, (parted s (way_of w) l (way_small w)).2)

-- no outcome that is no fault is a question or more
pub done_low : (c : Class) (x : Outcome) (s : ℕ) → s < state.states → faultless x ≡ true → act_of c x s < act.questions
unfolding act_of
done_low c (fault x) s l e = absurd (true≢false (sym e))
done_low c silent s l e = (parted s (silent_as c) l (silent_small c)).0
done_low c (sign w) s l e = (parted s (way_of w) l (way_small w)).0

-- a class leads to one of the states
pub then_small : (c : Class) → then_of c < state.states
unfolding then_of
then_small c = ltb→lt (then_of c) state.states (classes.at (λ c. ltb (then_of c) state.states) tt c)

-- no outcome of a place is a broken pair: the pair rule is apart from the others
unpaired : Outcome → Bool
unpaired (fault lacks_sign) = true
unpaired (fault breaks_pair) = false
unpaired (fault outside_form) = true
unpaired (fault shares_cells) = true
unpaired silent = true
unpaired (sign w) = true

pub never_paired : (p : Past) (c : Class) (f : Future) → rule p c f ≡ fault breaks_pair → ⊥
unfolding unpaired rule
never_paired p c f e = subst (λ (x : Outcome). T (unpaired x)) e (at3 pasts classes futures (λ p c f. unpaired (rule p c f)) tt p c f)
