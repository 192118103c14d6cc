-- Ordinals and fractions (paper 01, "Ordinals and fractions"). In order: plain digits before a place; a form's stop before it; a form ahead of
-- it; where U+2044, º and ª stand. Assumes nothing.
use Rattle.std.specs.Prelude.{Bool, false, ◌&&◌, ◌||◌, not, cond, [], ◌∷◌}
use Rattle.rules.specs.Sorts.{a_bar, ◌is◌, is_digit, is_stop, is_ordinal}
use Rattle.rules.specs.Near.{Side, next, Near}
use Rattle.rules.specs.Numbers.{under_bar, number_goes_on}

-- "Plain digits": a digit directly before, of a stretch that no point or comma joins to an earlier number and that is no denominator. "Forms and
-- numbers are taken from the left, and a digit belongs to one only."
unfoldable pub plain_digits : Side → Bool
unfolding next under_bar number_goes_on
plain_digits s = next is_digit s && not (under_bar s) && not (number_goes_on s)

-- "Plain digits, a full stop and º or ª": the first two stand directly before
unfoldable pub ordinal_stop : Side → Bool
unfolding plain_digits
ordinal_stop [] = false
ordinal_stop (c ∷ s) = is_stop c && plain_digits s

-- past the digits that stand first on the side after (perhaps none) come U+2044 and a digit, or a full stop and º or ª
unfoldable pub form_goes_on : Side → Bool
unfolding next
form_goes_on [] = false
form_goes_on (c ∷ s) = cond (is_digit c) (form_goes_on s) (c is a_bar && next is_digit s || is_stop c && next is_ordinal s)

-- the same of a place
abbrev pub after_plain_digits : Near → Bool
after_plain_digits n = n.after_digit && not n.in_denominator && not n.past_point

-- "Digits, U+2044, digits": this is U+2044's place
abbrev pub bar_of_fraction : Near → Bool
bar_of_fraction n = after_plain_digits n && n.before_digit

-- "Plain digits, a full stop and º or ª": this is the full stop's place
abbrev pub stop_of_ordinal : Near → Bool
stop_of_ordinal n = after_plain_digits n && n.before_ordinal
