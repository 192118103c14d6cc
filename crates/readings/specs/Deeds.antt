-- Printed by tools/print-reading-list.sh from tools/readings.txt: change that, and print it again.
-- What is read at a place, by the mode and the class of the cell: 16 rows of 16. Where there is no row or no class of a number, there
-- is no sign. That it is what the rules say is shown by a computed test (proofs/Tested.antt). Assumes nothing.
use Rattle.std.specs.Prelude.{ℕ, List, [], ◌∷◌}
use Rattle.readings.specs.Acts.{as_usual, capital, capital_of_many, dash_only, denominator, digit, digit_under, hyphen_or_dash, lower_digit, masculine_mark, no_sign, number_sign, one_or_feminine, point, prefixed, separates}

unfoldable pub deeds : List ℕ
deeds =
    -- free
    no_sign ∷ as_usual ∷ as_usual ∷ as_usual ∷ as_usual ∷ as_usual ∷ as_usual ∷ as_usual ∷ as_usual ∷ no_sign ∷ as_usual ∷ hyphen_or_dash ∷ capital ∷ number_sign ∷ prefixed ∷ prefixed
    -- lone
    ∷ no_sign ∷ as_usual ∷ as_usual ∷ as_usual ∷ as_usual ∷ as_usual ∷ as_usual ∷ as_usual ∷ as_usual ∷ no_sign ∷ as_usual ∷ hyphen_or_dash ∷ capital ∷ number_sign ∷ prefixed ∷ prefixed
    -- mixed
    ∷ no_sign ∷ as_usual ∷ as_usual ∷ as_usual ∷ as_usual ∷ as_usual ∷ as_usual ∷ as_usual ∷ as_usual ∷ no_sign ∷ as_usual ∷ hyphen_or_dash ∷ capital ∷ number_sign ∷ prefixed ∷ prefixed
    -- whole1
    ∷ no_sign ∷ capital_of_many ∷ capital_of_many ∷ capital_of_many ∷ capital_of_many ∷ no_sign ∷ no_sign ∷ no_sign ∷ no_sign ∷ no_sign ∷ no_sign ∷ no_sign ∷ no_sign ∷ no_sign ∷ no_sign ∷ no_sign
    -- under1
    ∷ no_sign ∷ digit_under ∷ digit_under ∷ no_sign ∷ no_sign ∷ no_sign ∷ no_sign ∷ no_sign ∷ no_sign ∷ no_sign ∷ no_sign ∷ no_sign ∷ no_sign ∷ no_sign ∷ no_sign ∷ no_sign
    -- end
    ∷ no_sign ∷ no_sign ∷ no_sign ∷ as_usual ∷ as_usual ∷ as_usual ∷ as_usual ∷ as_usual ∷ as_usual ∷ no_sign ∷ as_usual ∷ hyphen_or_dash ∷ capital ∷ no_sign ∷ prefixed ∷ prefixed
    -- hyphen
    ∷ no_sign ∷ as_usual ∷ as_usual ∷ as_usual ∷ as_usual ∷ as_usual ∷ as_usual ∷ as_usual ∷ as_usual ∷ no_sign ∷ as_usual ∷ no_sign ∷ capital ∷ number_sign ∷ prefixed ∷ prefixed
    -- fem
    ∷ no_sign ∷ no_sign ∷ no_sign ∷ as_usual ∷ as_usual ∷ as_usual ∷ as_usual ∷ as_usual ∷ as_usual ∷ no_sign ∷ as_usual ∷ hyphen_or_dash ∷ capital ∷ number_sign ∷ prefixed ∷ prefixed
    -- percent
    ∷ no_sign ∷ as_usual ∷ as_usual ∷ as_usual ∷ as_usual ∷ as_usual ∷ as_usual ∷ as_usual ∷ as_usual ∷ no_sign ∷ as_usual ∷ hyphen_or_dash ∷ capital ∷ number_sign ∷ prefixed ∷ prefixed
    -- owing
    ∷ no_sign ∷ as_usual ∷ as_usual ∷ as_usual ∷ as_usual ∷ no_sign ∷ no_sign ∷ no_sign ∷ no_sign ∷ no_sign ∷ no_sign ∷ no_sign ∷ capital ∷ no_sign ∷ no_sign ∷ no_sign
    -- dash
    ∷ no_sign ∷ as_usual ∷ as_usual ∷ as_usual ∷ as_usual ∷ as_usual ∷ as_usual ∷ as_usual ∷ as_usual ∷ no_sign ∷ as_usual ∷ dash_only ∷ capital ∷ number_sign ∷ prefixed ∷ prefixed
    -- whole2
    ∷ no_sign ∷ capital_of_many ∷ capital_of_many ∷ capital_of_many ∷ capital_of_many ∷ as_usual ∷ as_usual ∷ as_usual ∷ as_usual ∷ no_sign ∷ as_usual ∷ hyphen_or_dash ∷ capital ∷ number_sign ∷ prefixed ∷ prefixed
    -- num
    ∷ no_sign ∷ digit ∷ digit ∷ as_usual ∷ as_usual ∷ point ∷ point ∷ as_usual ∷ as_usual ∷ no_sign ∷ as_usual ∷ hyphen_or_dash ∷ capital ∷ no_sign ∷ separates ∷ prefixed
    -- low
    ∷ no_sign ∷ one_or_feminine ∷ denominator ∷ masculine_mark ∷ no_sign ∷ no_sign ∷ lower_digit ∷ lower_digit ∷ lower_digit ∷ lower_digit ∷ no_sign ∷ no_sign ∷ no_sign ∷ no_sign ∷ no_sign ∷ no_sign
    -- under
    ∷ no_sign ∷ digit_under ∷ digit_under ∷ as_usual ∷ as_usual ∷ as_usual ∷ as_usual ∷ as_usual ∷ as_usual ∷ no_sign ∷ as_usual ∷ hyphen_or_dash ∷ capital ∷ no_sign ∷ separates ∷ prefixed
    -- mid
    ∷ no_sign ∷ digit ∷ digit ∷ no_sign ∷ no_sign ∷ no_sign ∷ no_sign ∷ no_sign ∷ no_sign ∷ no_sign ∷ no_sign ∷ no_sign ∷ no_sign ∷ no_sign ∷ no_sign ∷ no_sign
    ∷ []

-- how many there are
abbrev pub deed_count : ℕ
deed_count = 256
