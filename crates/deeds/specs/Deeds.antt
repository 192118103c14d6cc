-- Printed by tools/print-deed-list.sh from tools/deeds.txt: change that, and print it again.
-- What is done at a place, by its state and the class of its code point: 16 rows of 16. Where there is no row or no class of a number, there
-- is no sign. That it is what the rules say is shown by a computed test (proofs/Machine.antt). Assumes nothing.
use Rattle.std.specs.Prelude.{ℕ, List, [], ◌∷◌}
use Rattle.deeds.specs.Acts.{bar_of_fraction, begins_number, begins_run, capital_alone, capital_of_many, digit, digit_under, feminine_mark, letter, lower_digit, no_sign, number_point, one_under, outside_form, separated_letter, shares_cells, sign, stop_of_ordinal, the_dash, the_hyphen}

unfoldable pub deeds : List ℕ
deeds =
    -- free
    letter ∷ letter ∷ begins_run ∷ begins_number ∷ begins_number ∷ sign ∷ sign ∷ the_hyphen ∷ the_dash ∷ outside_form ∷ outside_form ∷ outside_form ∷ sign ∷ sign ∷ no_sign ∷ no_sign
    -- capitals
    ∷ letter ∷ letter ∷ capital_of_many ∷ begins_number ∷ begins_number ∷ sign ∷ sign ∷ the_hyphen ∷ the_dash ∷ outside_form ∷ outside_form ∷ outside_form ∷ sign ∷ sign ∷ no_sign ∷ no_sign
    -- mixed
    ∷ letter ∷ letter ∷ capital_alone ∷ begins_number ∷ begins_number ∷ sign ∷ sign ∷ the_hyphen ∷ the_dash ∷ outside_form ∷ outside_form ∷ outside_form ∷ sign ∷ sign ∷ no_sign ∷ no_sign
    -- number
    ∷ separated_letter ∷ letter ∷ begins_run ∷ digit ∷ digit ∷ number_point ∷ number_point ∷ the_hyphen ∷ the_dash ∷ outside_form ∷ outside_form ∷ outside_form ∷ sign ∷ sign ∷ no_sign ∷ no_sign
    -- lowered
    ∷ letter ∷ letter ∷ begins_run ∷ lower_digit ∷ lower_digit ∷ stop_of_ordinal ∷ sign ∷ the_hyphen ∷ the_dash ∷ bar_of_fraction ∷ outside_form ∷ outside_form ∷ sign ∷ sign ∷ no_sign ∷ no_sign
    -- ordinal
    ∷ letter ∷ letter ∷ begins_run ∷ begins_number ∷ begins_number ∷ sign ∷ sign ∷ the_hyphen ∷ the_dash ∷ outside_form ∷ sign ∷ feminine_mark ∷ sign ∷ sign ∷ no_sign ∷ no_sign
    -- barred
    ∷ letter ∷ letter ∷ begins_run ∷ one_under ∷ digit_under ∷ sign ∷ sign ∷ the_hyphen ∷ the_dash ∷ outside_form ∷ outside_form ∷ outside_form ∷ sign ∷ sign ∷ no_sign ∷ no_sign
    -- under
    ∷ separated_letter ∷ letter ∷ begins_run ∷ digit_under ∷ digit_under ∷ sign ∷ sign ∷ the_hyphen ∷ the_dash ∷ outside_form ∷ outside_form ∷ outside_form ∷ sign ∷ sign ∷ no_sign ∷ no_sign
    -- guarded
    ∷ shares_cells ∷ letter ∷ begins_run ∷ begins_number ∷ begins_number ∷ sign ∷ sign ∷ the_hyphen ∷ the_dash ∷ outside_form ∷ outside_form ∷ outside_form ∷ sign ∷ sign ∷ no_sign ∷ no_sign
    -- hyphened
    ∷ letter ∷ letter ∷ begins_run ∷ begins_number ∷ begins_number ∷ sign ∷ sign ∷ shares_cells ∷ shares_cells ∷ outside_form ∷ outside_form ∷ outside_form ∷ sign ∷ sign ∷ no_sign ∷ no_sign
    -- dashed
    ∷ letter ∷ letter ∷ begins_run ∷ begins_number ∷ begins_number ∷ sign ∷ sign ∷ shares_cells ∷ the_dash ∷ outside_form ∷ outside_form ∷ outside_form ∷ sign ∷ sign ∷ no_sign ∷ no_sign
    -- no_state_11
    ∷ no_sign ∷ no_sign ∷ no_sign ∷ no_sign ∷ no_sign ∷ no_sign ∷ no_sign ∷ no_sign ∷ no_sign ∷ no_sign ∷ no_sign ∷ no_sign ∷ no_sign ∷ no_sign ∷ no_sign ∷ no_sign
    -- no_state_12
    ∷ no_sign ∷ no_sign ∷ no_sign ∷ no_sign ∷ no_sign ∷ no_sign ∷ no_sign ∷ no_sign ∷ no_sign ∷ no_sign ∷ no_sign ∷ no_sign ∷ no_sign ∷ no_sign ∷ no_sign ∷ no_sign
    -- no_state_13
    ∷ no_sign ∷ no_sign ∷ no_sign ∷ no_sign ∷ no_sign ∷ no_sign ∷ no_sign ∷ no_sign ∷ no_sign ∷ no_sign ∷ no_sign ∷ no_sign ∷ no_sign ∷ no_sign ∷ no_sign ∷ no_sign
    -- no_state_14
    ∷ no_sign ∷ no_sign ∷ no_sign ∷ no_sign ∷ no_sign ∷ no_sign ∷ no_sign ∷ no_sign ∷ no_sign ∷ no_sign ∷ no_sign ∷ no_sign ∷ no_sign ∷ no_sign ∷ no_sign ∷ no_sign
    -- no_state_15
    ∷ no_sign ∷ no_sign ∷ no_sign ∷ no_sign ∷ no_sign ∷ no_sign ∷ no_sign ∷ no_sign ∷ no_sign ∷ no_sign ∷ no_sign ∷ no_sign ∷ no_sign ∷ no_sign ∷ no_sign ∷ no_sign
    ∷ []

-- how many there are
abbrev pub deed_count : ℕ
deed_count = 256
