-- What the rules see of the two sides of a place, as two finite types: `Past` for what stands before it, `Future` for what stands after.
-- `after` and `look` carry them over one more code point, and `rule` says from them what `outcome` says from the sides (proofs/Places.antt
-- shows it). Sets of states have names: a new state is a line in each set. Assumes nothing.
use mathlib.Core.Bool.{Bool, ◌&&◌, ◌||◌, not, cond}
use mathlib.Core.List.{List, [], ◌∷◌, ◌++◌}
use Prim.Native.Nat.{ℕ, suc}
use lib.Dec.{eqb}
use Rattle.rules.specs.Cells.{Row}
use Rattle.rules.specs.Sorts.{Sort, Item, Class, a_to_j, other_small, capital, one, other_digit, a_stop, a_comma, a_hyphen, a_dash, a_bar, masculine, feminine, a_percent, other_sign, unlisted}
use Rattle.rules.specs.Signs.{Way, bare, one_capital, all_capitals, separated, first_digit, first_lower, lower, denominator, ordinal_mark, inside, sign_cells}
use Rattle.rules.specs.Pairs.{Opens, fits, turn, closed}
use Rattle.rules.specs.Places.{class_at, lacks_sign, breaks_pair, outside_form, shares_cells, Outcome, fault, silent, sign}
use Rattle.rules.specs.Rows.{Verdict, good, bad, judge}
use Rattle.rules.proofs.States.{Past, free, lone, caps, mixed, plain_on, past_on, under_one, under, past_bar, past_stop, past_point, past_dash, past_hyphen, past_feminine, past_percent, Future, rest, caps_on, mixed_on, digits_on, form_on, bar_on, stop_on, mark_on}
use Rattle.rules.proofs.Enumerations.{past_number, future_number}

infix 40 ◌was◌
abbrev pub ◌was◌ : Past → Past → Bool
p was q = eqb (past_number p) (past_number q)

-- inside a run; in one that has a small letter
abbrev pub in_run : Past → Bool
in_run p = p was lone || p was caps || p was mixed

abbrev pub in_mixed : Past → Bool
in_mixed p = p was mixed

-- directly after a digit: of an ordinary number; of a denominator
abbrev pub in_number : Past → Bool
in_number p = p was plain_on || p was past_on

abbrev pub is_in_denominator : Past → Bool
is_in_denominator p = p was under_one || p was under

abbrev pub in_digits : Past → Bool
in_digits p = in_number p || is_in_denominator p

-- directly after a point or comma of a number
abbrev pub at_point : Past → Bool
at_point p = p was past_stop || p was past_point

infix 40 ◌sees◌
abbrev pub ◌sees◌ : Future → Future → Bool
f sees g = eqb (future_number f) (future_number g)

-- the run goes on, all capitals; with a small letter
abbrev pub caps_next : Future → Bool
caps_next f = f sees caps_on

abbrev pub mixed_next : Future → Bool
mixed_next f = f sees mixed_on

abbrev pub digit_next : Future → Bool
digit_next f = f sees digits_on || f sees form_on

abbrev pub mark_next : Future → Bool
mark_next f = f sees mark_on

-- after the digits, if any, come U+2044 and a digit, or a full stop and º or ª
abbrev pub form_next : Future → Bool
form_next f = f sees form_on || f sees bar_on || f sees stop_on

abbrev look_digit : Future → Future
look_digit f = cond (form_next f) form_on digits_on

unfoldable pub look : Class → Future → Future
look a_to_j f = mixed_on
look other_small f = mixed_on
look capital f = cond (mixed_next f) mixed_on caps_on
look one f = look_digit f
look other_digit f = look_digit f
look a_stop f = cond (mark_next f) stop_on rest
look a_comma f = rest
look a_hyphen f = rest
look a_dash f = rest
look a_bar f = cond (digit_next f) bar_on rest
look masculine f = mark_on
look feminine f = mark_on
look a_percent f = rest
look other_sign f = rest
look unlisted f = rest

abbrev past_after_digit : Past → Past → Past
past_after_digit p u = cond (p was past_bar) u (cond (is_in_denominator p) under (cond (p was past_on || at_point p) past_on plain_on))

unfoldable pub after : Past → Class → Past
after p a_to_j = mixed
after p other_small = mixed
after p capital = cond (in_mixed p) mixed (cond (in_run p) caps lone)
after p one = past_after_digit p under_one
after p other_digit = past_after_digit p under
after p a_stop = cond (p was plain_on) past_stop (cond (p was past_on) past_point free)
after p a_comma = cond (in_number p) past_point free
after p a_hyphen = past_hyphen
after p a_dash = past_dash
after p a_bar = past_bar
after p masculine = free
after p feminine = past_feminine
after p a_percent = past_percent
after p other_sign = free
after p unlisted = free

abbrev rule_digit : Past → Future → Way
rule_digit p f =
    cond (p was past_bar) denominator
    (cond (p was past_on || is_in_denominator p || at_point p) bare
    (cond (p was plain_on) (cond (form_next f) lower bare) (cond (form_next f) first_lower first_digit)))

abbrev rule_point : Past → Future → Way
rule_point p f = cond (in_number p && digit_next f) inside bare

abbrev rule_capital : Past → Future → Way
rule_capital p f =
    cond (in_mixed p || mixed_next f) one_capital (cond (in_run p) bare (cond (caps_next f) all_capitals one_capital))

unfoldable pub rule : Past → Class → Future → Outcome
rule p a_to_j f =
    cond (in_digits p) (sign separated)
    (cond (at_point p || p was past_feminine) (fault shares_cells) (sign bare))
rule p other_small f = sign bare
rule p capital f = sign (rule_capital p f)
rule p one f = cond (p was past_bar && not (digit_next f)) (fault shares_cells) (sign (rule_digit p f))
rule p other_digit f = sign (rule_digit p f)
rule p a_stop f = cond (p was plain_on && mark_next f) silent (sign (rule_point p f))
rule p a_comma f = sign (rule_point p f)
rule p a_hyphen f = cond (p was past_hyphen || p was past_dash) (fault shares_cells) (sign bare)
rule p a_dash f = cond (p was past_hyphen) (fault shares_cells) (sign bare)
rule p a_bar f = cond (p was plain_on && digit_next f) silent (fault outside_form)
rule p masculine f = cond (p was past_stop) (sign ordinal_mark) (fault outside_form)
rule p feminine f = cond (p was past_stop) (sign ordinal_mark) (fault outside_form)
rule p a_percent f = sign bare
rule p other_sign f = sign bare
rule p unlisted f = fault lacks_sign

-- the future of a list of items
unfoldable pub future : List Item → Future
future [] = rest
future (i ∷ a) = look (class_at i) (future a)

-- the cells from a place on; a place at fault has none, and the rest goes on behind it
abbrev pub outcome_cells : Outcome → Sort → Row
outcome_cells (fault c) s = []
outcome_cells silent s = []
outcome_cells (sign w) s = sign_cells w s

unfoldable pub row_on : Past → List Item → Row
row_on p [] = []
row_on p (i ∷ a) = outcome_cells (rule p (class_at i) (future a)) i.1 ++ row_on (after p (class_at i)) a

-- the verdict from a place on
unfoldable pub verdict_on : Past → Opens → ℕ → List Item → Verdict
verdict_on p o n [] = cond (closed o) good (bad breaks_pair n)
verdict_on p o n (i ∷ a) =
    judge (fits o i.1) (rule p (class_at i) (future a)) n (verdict_on (after p (class_at i)) (turn i.1 o) (suc n) a)
