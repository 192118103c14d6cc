-- Places: what the rules say of one place of a text (paper 01, "The signs" to "Pairs", numbers 2 to 5). In order: a place and its neighbours; the
-- four faults; how a place without a fault is written. Assumes nothing.
use Rattle.std.specs.Prelude.{Bool, ◌&&◌, ◌||◌, not, cond, List, [], ◌∷◌, map, ℕ, zero, suc, T}
use Rattle.std.proofs.Math.Option.{Option, none, some}
use Rattle.rules.specs.Sorts.{Item, Class, a_to_j, other_small, capital, one, other_digit, a_stop, a_comma, a_hyphen, a_dash, a_bar, masculine, feminine, a_percent, other_sign, unlisted, class, ◌is◌, is_digit, is_ordinal}
use Rattle.rules.specs.Near.{Side, next, Near}
use Rattle.rules.specs.Signs.{Way, bare, ordinal_mark}
use Rattle.rules.specs.Capitals.{run_goes_on, only_capitals, capital_way}
use Rattle.rules.specs.Numbers.{under_bar, number_point, number_goes_on, digit_way, point_way, a_to_j_way}
use Rattle.rules.specs.Forms.{ordinal_stop, form_goes_on, bar_of_fraction, stop_of_ordinal}
use Rattle.rules.specs.Pairs.{fits, open_after}

-- what stands before, the nearest first; the code point; what stands after
pub record Place : Type 0 where
  pub before : List Item
  pub here : Item
  pub after : List Item

-- "All places below count from 0 in the normalised text."
unfoldable pub place_from : List Item → List Item → ℕ → Option Place
place_from b [] n = none
place_from b (i ∷ a) zero = some (record { before = b; here = i; after = a })
place_from b (i ∷ a) (suc n) = place_from (i ∷ b) a n

abbrev pub class_at : Item → Class
class_at i = class i.1

abbrev pub side_of : List Item → Side
side_of items = map class_at items

unfoldable pub near : Side → Side → Near
unfolding next run_goes_on only_capitals under_bar number_point number_goes_on ordinal_stop form_goes_on
near b a =
    record {
      after_digit = next is_digit b;
      after_bar = next (λ c. c is a_bar) b;
      after_feminine = next (λ c. c is feminine) b;
      after_hyphen = next (λ c. c is a_hyphen) b;
      after_dash = next (λ c. c is a_dash) b;
      after_point = number_point b;
      after_ordinal_stop = ordinal_stop b;
      in_denominator = under_bar b;
      past_point = number_goes_on b;
      run_before = run_goes_on b;
      capitals_before = only_capitals b;
      before_digit = next is_digit a;
      before_ordinal = next is_ordinal a;
      form_ahead = form_goes_on a;
      run_after = run_goes_on a;
      capitals_after = only_capitals a;
    }

-- why a place is refused
pub data Cause : Type 0 where
  lacks_sign breaks_pair outside_form shares_cells : Cause

-- Number 2: "a code point with no sign"
abbrev pub has_no_sign : Class → Bool
has_no_sign c = c is unlisted

-- Number 4: "º, ª or U+2044 outside the two forms, or after a number with a point or comma inside"
abbrev pub is_outside_form : Near → Class → Bool
is_outside_form n c = c is a_bar && not (bar_of_fraction n) || is_ordinal c && not n.after_ordinal_stop

-- Number 5 "is given for exactly these":
-- "a lower-case a to j directly after a point or comma that directly follows a digit of an ordinary number (place of the letter)"
abbrev pub letter_after_point : Near → Class → Bool
letter_after_point n c = c is a_to_j && n.after_point

-- "a hyphen next to a hyphen or to U+2014 (the later of the two)"
abbrev pub hyphen_beside : Near → Class → Bool
hyphen_beside n c = c is a_hyphen && (n.after_hyphen || n.after_dash) || c is a_dash && n.after_hyphen

-- "a denominator that is exactly "1" (that digit)"
abbrev pub denominator_one : Near → Class → Bool
denominator_one n c = c is one && n.after_bar && not n.before_digit

-- "a lower-case a to j directly after ª (that letter)"
abbrev pub letter_after_feminine : Near → Class → Bool
letter_after_feminine n c = c is a_to_j && n.after_feminine

abbrev pub would_share_cells : Near → Class → Bool
would_share_cells n c = letter_after_point n c || hyphen_beside n c || denominator_one n c || letter_after_feminine n c

abbrev pub near_of : Place → Near
near_of p = near (side_of p.before) (side_of p.after)

abbrev pub class_of : Place → Class
class_of p = class_at p.here

-- The faults of a place, one to a line of the paper's table.
pub data Faulty (p : Place) : Cause → Type 0 where
  without_sign : T (has_no_sign (class_of p)) → Faulty p lacks_sign
  against_pair_rule : T (not (fits (open_after p.before) p.here.1)) → Faulty p breaks_pair
  out_of_form : T (is_outside_form (near_of p) (class_of p)) → Faulty p outside_form
  sharing_cells : T (would_share_cells (near_of p) (class_of p)) → Faulty p shares_cells

-- What the rules make of a place, the pair rule set aside: a fault, no cell of its own, or a sign.
pub data Outcome : Type 0 where
  fault : Cause → Outcome
  silent : Outcome
  sign : Way → Outcome

-- How a place that is not at fault is written: "the full stop has no cell", "U+2044 has no cell". (What it says of a place at fault is not used.)
unfoldable pub written : Near → Class → Outcome
unfolding capital_way digit_way point_way a_to_j_way
written n a_to_j = sign (a_to_j_way n)
written n other_small = sign bare
written n capital = sign (capital_way n)
written n one = sign (digit_way n)
written n other_digit = sign (digit_way n)
written n a_stop = cond (stop_of_ordinal n) silent (sign (point_way n))
written n a_comma = sign (point_way n)
written n a_hyphen = sign bare
written n a_dash = sign bare
written n a_bar = silent
written n masculine = sign ordinal_mark
written n feminine = sign ordinal_mark
written n a_percent = sign bare
written n other_sign = sign bare
written n unlisted = silent

unfoldable pub outcome : Near → Class → Outcome
unfolding written
outcome n c =
    cond (has_no_sign c) (fault lacks_sign)
    (cond (is_outside_form n c) (fault outside_form) (cond (would_share_cells n c) (fault shares_cells) (written n c)))
