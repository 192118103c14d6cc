-- The middle of the argument: a text is a list of signs, and which signs may stand side by side is a finite machine. `step` says how a sign
-- is taken in a mode. Four tests, each computed over all states, tie it to the rules: what the rules write the machine takes (1); what a mode
-- promises comes (2); what the machine takes is what the rules write (3); a text ends where the machine may (4). Assumes nothing.
use mathlib.Core.Path.{◌≡◌, subst}
use mathlib.Core.Bool.{Bool, true, false, ◌&&◌, ◌||◌, not, cond}
use mathlib.Core.List.{List, [], ◌∷◌}
use mathlib.Core.Option.{Option, none, some}
use Prim.Native.Nat.{ℕ}
use Prim.Native.Char.{code}
use lib.Dec.{T, eqb, eqb→eq}
use Rattle.rules.specs.Sorts.{Class, a_to_j, other_small, capital, one, other_digit, a_stop, a_comma, a_hyphen, a_dash, a_bar, masculine, feminine, a_percent, other_sign, unlisted}
use Rattle.rules.specs.Signs.{Way, bare, one_capital, all_capitals, separated, first_digit, first_lower, lower, denominator, ordinal_mark, inside}
use Rattle.rules.specs.Places.{Outcome, fault, silent, sign}
use Rattle.rules.proofs.Finite.{and_both, implies, is_true_of_eqb, every, hold, holds, Hold, every3, at3, every4, at4}
use Rattle.rules.proofs.Sides.{rule, look, after, ◌was◌, ◌sees◌, caps_next, mixed_next, digit_next, mark_next, form_next}
use Rattle.rules.proofs.States.{Past, free, lone, caps, mixed, plain_on, past_on, under_one, under, past_bar, past_stop, past_point, past_dash, past_hyphen, past_feminine, past_percent, Future, rest, digits_on, form_on, bar_on, stop_on, mark_on, Mode, Free, Lone, Owing, Mixed, Whole1, Whole2, Num, Low, Under1, Under, Mid, End, Hyphen, Dash, Fem, Percent}
use Rattle.rules.proofs.Enumerations.{classes, ways, way_number, pasts, futures, modes, mode_number}

infix 40 ◌by◌
abbrev pub ◌by◌ : Way → Way → Bool
w by v = eqb (way_number w) (way_number v)

unfoldable pub same_mode : Mode → Mode → Bool
same_mode m n = eqb (mode_number m) (mode_number n)

unfoldable pub mode_in : Mode → List Mode → Bool
unfolding same_mode
mode_in m [] = false
mode_in m (n ∷ ns) = same_mode m n || mode_in m ns

-- SETS OF MODES
-- a run, a number or a form is whole here: a text may end
unfoldable pub at_rest : Mode → Bool
unfolding mode_in
at_rest m = mode_in m (Free ∷ Lone ∷ Mixed ∷ Whole2 ∷ Num ∷ Under ∷ End ∷ Hyphen ∷ Dash ∷ Fem ∷ Percent ∷ [])

-- a run that may end here
in_letters : Mode → Bool
unfolding mode_in
in_letters m = mode_in m (Lone ∷ Mixed ∷ Whole2 ∷ [])

-- a run may begin here
starts_run : Mode → Bool
unfolding at_rest in_letters
starts_run m = at_rest m && not (in_letters m)

-- a small letter goes on with such a run
goes_small : Mode → Bool
unfolding mode_in
goes_small m = mode_in m (Lone ∷ Owing ∷ Mixed ∷ [])

-- a number may begin here
starts_number : Mode → Bool
unfolding at_rest mode_in
starts_number m = at_rest m && not (mode_in m (Num ∷ Under ∷ End ∷ []))

-- a to j may begin a run here
starts_a_to_j : Mode → Bool
unfolding mode_in
starts_a_to_j m = mode_in m (Free ∷ Hyphen ∷ Dash ∷ Percent ∷ [])

abbrev pub to : Bool → Mode → Option Mode
to true m = some m
to false m = none

-- the mode after a digit of a denominator is u where it is the first
step_digit : Mode → Way → Mode → Option Mode
unfolding starts_number mode_in same_mode
step_digit m bare u = cond (mode_in m (Num ∷ Mid ∷ [])) (some Num) (to (mode_in m (Under1 ∷ Under ∷ [])) Under)
step_digit m one_capital u = none
step_digit m all_capitals u = none
step_digit m separated u = none
step_digit m first_digit u = to (starts_number m) Num
step_digit m first_lower u = to (starts_number m) Low
step_digit m lower u = to (same_mode m Low) Low
step_digit m denominator u = to (same_mode m Low) u
step_digit m ordinal_mark u = none
step_digit m inside u = none

step_point : Mode → Way → Option Mode
unfolding at_rest same_mode
step_point m w =
    cond (w by bare) (cond (same_mode m Num) (some End) (to (at_rest m) Free)) (to (w by inside && same_mode m Num) Mid)

step_capital : Mode → Way → Option Mode
unfolding starts_run mode_in same_mode
step_capital m w =
    cond (w by bare) (to (mode_in m (Whole1 ∷ Whole2 ∷ [])) Whole2)
    (cond (w by all_capitals) (to (starts_run m) Whole1)
    (cond (w by one_capital)
    (cond (same_mode m Mixed) (some Mixed) (cond (mode_in m (Lone ∷ Owing ∷ [])) (some Owing) (to (starts_run m) Lone)))
    none))

-- the mode after a sign of this class, written in this way, if it may stand in this mode
unfoldable pub step : Mode → Way → Class → Option Mode
unfolding step_digit step_point step_capital at_rest starts_run goes_small starts_a_to_j mode_in same_mode
step m w a_to_j =
    cond (w by separated) (to (mode_in m (Num ∷ Under ∷ [])) Mixed) (to (w by bare && (goes_small m || starts_a_to_j m)) Mixed)
step m w other_small = to (w by bare && (goes_small m || starts_run m)) Mixed
step m w capital = step_capital m w
step m w one = step_digit m w Under1
step m w other_digit = step_digit m w Under
step m w a_stop = step_point m w
step m w a_comma = step_point m w
step m w a_hyphen = to (w by bare && at_rest m && not (mode_in m (Hyphen ∷ Dash ∷ []))) Hyphen
step m w a_dash = to (w by bare && at_rest m && not (same_mode m Hyphen)) Dash
step m w a_bar = none
step m w masculine = to (w by ordinal_mark && same_mode m Low) Free
step m w feminine = to (w by ordinal_mark && same_mode m Low) Fem
step m w a_percent = to (w by bare && at_rest m) Percent
step m w other_sign = to (w by bare && at_rest m) Free
step m w unlisted = none

-- where a place stands in the machine: after what is before it, with what comes after it in view
unfoldable pub mode_at : Past → Future → Mode
mode_at free f = Free
mode_at lone f = cond (caps_next f) Whole1 Lone
mode_at caps f = cond (mixed_next f) Owing Whole2
mode_at mixed f = Mixed
mode_at plain_on f = cond (form_next f) Low Num
mode_at past_on f = Num
mode_at under_one f = Under1
mode_at under f = Under
mode_at past_bar f = Low
mode_at past_stop f = cond (mark_next f) Low (cond (digit_next f) Mid End)
mode_at past_point f = cond (digit_next f) Mid End
mode_at past_dash f = Dash
mode_at past_hyphen f = Hyphen
mode_at past_feminine f = Fem
mode_at past_percent f = Percent

-- the two code points that may have no cell
abbrev pub the_bar : ℕ
the_bar = code "⁄"

abbrev pub the_stop : ℕ
the_stop = code "."

-- A code point that has no cell and goes with the sign after it: it waits at a place; it goes with a sign of this way; a class may be one.
-- 0 for none. (No other class is silent: `silent_lead`.)
unfoldable pub waiting : Past → Future → ℕ
waiting p f = cond (p was past_bar) the_bar (cond (p was past_stop && mark_next f) the_stop 0)

unfoldable pub lead_of : Way → ℕ
lead_of w = cond (w by denominator) the_bar (cond (w by ordinal_mark) the_stop 0)

unfoldable pub lead_class : Class → ℕ
lead_class a_to_j = 0
lead_class other_small = 0
lead_class capital = 0
lead_class one = 0
lead_class other_digit = 0
lead_class a_stop = the_stop
lead_class a_comma = 0
lead_class a_hyphen = 0
lead_class a_dash = 0
lead_class a_bar = the_bar
lead_class masculine = 0
lead_class feminine = 0
lead_class a_percent = 0
lead_class other_sign = 0
lead_class unlisted = 0

unfoldable pub is_some : Option Mode → Mode → Bool
is_some none n = false
is_some (some m) n = same_mode m n

-- after U+2044, and after a denominator that is 1 so far, comes a digit
unfoldable pub ready : Past → Future → Bool
ready p f = not (p was past_bar || p was under_one) || digit_next f

-- TEST 1: where a place is not at fault, the machine goes on with it.
unfoldable pub onward_by : Past → Class → Future → Outcome → List Bool
onward_by p c f (fault x) = []
onward_by p c f silent =
    ready (after p c) f
    ∷ same_mode (mode_at (after p c) f) (mode_at p (look c f))
    ∷ eqb (waiting p (look c f)) 0
    ∷ eqb (waiting (after p c) f) (lead_class c)
    ∷ []
onward_by p c f (sign w) =
    ready (after p c) f
    ∷ is_some (step (mode_at p (look c f)) w c) (mode_at (after p c) f)
    ∷ eqb (waiting p (look c f)) (lead_of w)
    ∷ eqb (waiting (after p c) f) 0
    ∷ []

onward : Past → Class → Future → Bool
unfolding onward_by
onward p c f = not (ready p (look c f)) || holds (onward_by p c f (rule p c f))

onward_all : T (every3 pasts classes futures onward)
unfolding onward rule step mode_at waiting lead_of lead_class is_some look after same_mode ready
onward_all = tt

pub onward_at : (p : Past) (c : Class) (f : Future) → T (ready p (look c f)) → Hold (onward_by p c f (rule p c f))
unfolding onward
onward_at p c f r =
    hold (onward_by p c f (rule p c f))
    (implies (ready p (look c f)) (holds (onward_by p c f (rule p c f))) r (at3 pasts classes futures onward onward_all p c f))

-- TEST 2: what may come after a mode is all that comes.
abbrev fresh : Future → Bool
fresh f = not (f sees bar_on || f sees stop_on || f sees mark_on)

unfoldable pub ahead : Mode → Future → Bool
ahead Free f = fresh f
ahead Lone f = fresh f && not (caps_next f)
ahead Owing f = mixed_next f
ahead Mixed f = fresh f
ahead Whole1 f = caps_next f
ahead Whole2 f = fresh f && not (mixed_next f)
ahead Num f = fresh f && not (f sees form_on)
ahead Low f = form_next f
ahead Under1 f = f sees digits_on
ahead Under f = fresh f && not (f sees form_on)
ahead Mid f = f sees digits_on
ahead End f = fresh f && not (digit_next f)
ahead Hyphen f = fresh f
ahead Dash f = fresh f
ahead Fem f = fresh f
ahead Percent f = fresh f

-- what is in view before a sign, with the code point that goes with it
unfoldable pub see : Way → Class → Future → Future
see w c f = cond (w by denominator) (look a_bar (look c f)) (cond (w by ordinal_mark) (look a_stop (look c f)) (look c f))

view_by : Mode → Way → Class → Future → Option Mode → Bool
view_by m w c f none = true
view_by m w c f (some n) = not (ahead n f) || ahead m (see w c f)

view : Mode → Way → Class → Future → Bool
unfolding view_by
view m w c f = view_by m w c f (step m w c)

view_all : T (every4 modes ways classes futures view)
unfolding view step see ahead look
view_all = tt

pub view_at : (m : Mode) (w : Way) (c : Class) (f : Future) (n : Mode) → step m w c ≡ some n → T (ahead n f) → T (ahead m (see w c f))
unfolding view
view_at m w c f n e a =
    implies (ahead n f) (ahead m (see w c f)) a
    (subst (λ (x : Option Mode). T (view_by m w c f x)) e (at4 modes ways classes futures view view_all m w c f))

end_all : T (every (λ m. not (at_rest m) || ahead m rest) modes.members)
unfolding at_rest ahead
end_all = tt

pub end_at : (m : Mode) → T (at_rest m) → T (ahead m rest)
end_at m r = implies (at_rest m) (ahead m rest) r (modes.at (λ n. not (at_rest n) || ahead n rest) end_all m)

-- TEST 3: a sign that the machine takes is the one that the rule gives at its place.
unfoldable pub is_sign : Outcome → Way → Bool
is_sign (fault x) w = false
is_sign silent w = false
is_sign (sign v) w = v by w

unfoldable pub is_silent : Outcome → Bool
is_silent (fault x) = false
is_silent silent = true
is_silent (sign v) = false

unfoldable pub lands : Past → Way → Class → Future → Mode → List Bool
lands p w c f n =
    is_sign (rule p c f) w ∷ same_mode (mode_at (after p c) f) n ∷ eqb (waiting (after p c) f) 0 ∷ []

unfoldable pub lands_two : Past → Class → Way → Class → Future → Mode → List Bool
lands_two p d w c f n = is_silent (rule p d (look c f)) ∷ lands (after p d) w c f n

unfoldable pub back_by : Past → Way → Class → Future → Mode → List Bool
back_by p bare c f n = lands p bare c f n
back_by p one_capital c f n = lands p one_capital c f n
back_by p all_capitals c f n = lands p all_capitals c f n
back_by p separated c f n = lands p separated c f n
back_by p first_digit c f n = lands p first_digit c f n
back_by p first_lower c f n = lands p first_lower c f n
back_by p lower c f n = lands p lower c f n
back_by p denominator c f n = lands_two p a_bar denominator c f n
back_by p ordinal_mark c f n = lands_two p a_stop ordinal_mark c f n
back_by p inside c f n = lands p inside c f n

back_if : Past → Way → Class → Future → Option Mode → Bool
back_if p w c f none = true
back_if p w c f (some n) = not (ahead n f && eqb (waiting p (see w c f)) 0) || holds (back_by p w c f n)

back : Past → Way → Class → Future → Bool
unfolding back_if
back p w c f = back_if p w c f (step (mode_at p (see w c f)) w c)

back_all : T (every4 pasts ways classes futures back)
unfolding back back_by lands lands_two rule step mode_at waiting is_sign is_silent look see ahead after same_mode
back_all = tt

pub back_at : (p : Past) (w : Way) (c : Class) (f : Future) (n : Mode) → step (mode_at p (see w c f)) w c ≡ some n → T (ahead n f)
    → waiting p (see w c f) ≡ 0 → Hold (back_by p w c f n)
unfolding back
back_at p w c f n e a z =
    hold (back_by p w c f n)
    (implies (ahead n f && eqb (waiting p (see w c f)) 0) (holds (back_by p w c f n))
    (and_both (ahead n f) _ a (is_true_of_eqb _ z))
    (subst (λ (x : Option Mode). T (back_if p w c f x)) e (at4 pasts ways classes futures back back_all p w c f)))

-- TEST 4: where a text ends, the machine may end, and nothing waits.
rests : Past → List Bool
rests p = at_rest (mode_at p rest) ∷ eqb (waiting p rest) 0 ∷ []

rest_all : T (every (λ p. not (ready p rest) || holds (rests p)) pasts.members)
unfolding ready at_rest mode_at waiting rests
rest_all = tt

pub rest_at : (p : Past) → T (ready p rest) → T (at_rest (mode_at p rest)) × (waiting p rest ≡ 0)
unfolding rests
rest_at p r =
    let h : Hold (rests p) = hold (rests p) (implies (ready p rest) (holds (rests p)) r (pasts.at (λ q. not (ready q rest) || holds (rests q)) rest_all p)) in
    (h.0, eqb→eq _ _ h.1.0)
