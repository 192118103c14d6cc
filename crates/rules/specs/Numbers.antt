-- Numbers (paper 01, "Numbers"). In order: a number on the side before a place; how a digit, a point or comma, and a to j are written.
-- Not here: what makes a form (`Forms`). Assumes nothing.
use Rattle.std.specs.Prelude.{Bool, false, ◌&&◌, ◌||◌, not, cond, [], ◌∷◌}
use Rattle.rules.specs.Sorts.{a_bar, ◌is◌, is_digit, is_point}
use Rattle.rules.specs.Near.{Side, next, Near}
use Rattle.rules.specs.Signs.{Way, bare, separated, first_digit, first_lower, lower, denominator, inside}

-- Past the digits that stand first on the side before (perhaps none) comes U+2044: they and the place go on with a denominator.
unfoldable pub under_bar : Side → Bool
under_bar [] = false
under_bar (c ∷ s) = cond (is_digit c) (under_bar s) (c is a_bar)

-- "a point or comma that directly follows a digit of an ordinary number" stands directly before
unfoldable pub number_point : Side → Bool
unfolding next under_bar
number_point [] = false
number_point (c ∷ s) = is_point c && next is_digit s && not (under_bar s)

-- "A number is a longest stretch of digits, together with any single full stop or comma that stands directly between two digits." Past the
-- digits that stand first on the side before (perhaps none) comes such a point or comma.
unfoldable pub number_goes_on : Side → Bool
unfolding number_point
number_goes_on [] = false
number_goes_on (c ∷ s) = cond (is_digit c) (number_goes_on s) (number_point (c ∷ s))

-- "It has one 3456 in front"; "3456, the lower digits" for a form. "Digits, U+2044, digits: .. the ordinary digits of the second".
unfoldable pub digit_way : Near → Way
digit_way n =
    cond n.after_bar denominator
    (cond (n.in_denominator || n.past_point) bare
    (cond n.after_digit (cond n.form_ahead lower bare) (cond n.form_ahead first_lower first_digit)))

-- "any single full stop or comma that stands directly between two digits"; "Both forms end the number: a point or comma after them is
-- punctuation".
unfoldable pub point_way : Near → Way
point_way n = cond (n.after_digit && not n.in_denominator && n.before_digit) inside bare

-- "A lower-case a to j directly after a number's last digit has cell 5 before it." "The cell 5 rule also holds after a denominator."
unfoldable pub a_to_j_way : Near → Way
a_to_j_way n = cond n.after_digit separated bare
