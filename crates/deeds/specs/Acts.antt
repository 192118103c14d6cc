-- What is done at a place: a deed. In order: the ways of writing; the deeds that are a way of writing and the state after it, in one number; the
-- questions, which what follows decides; the faults. Which name of the code has which of them: specs/Numbers.antt. Assumes nothing.
use Rattle.std.specs.Prelude.{ℕ, ◌+◌, ◌*◌}
use Rattle.entries.specs.States.{free, capitals, mixed, number, lowered, ordinal, barred, under, guarded, hyphened, dashed}

-- THE WAYS: its own cells; after 46; after 46-46; after 5; after 3456; the lower digit after 3456; the lower digit; no cell,
-- though it has one
abbrev pub bare_way : ℕ
bare_way = 0

abbrev pub one_capital_way : ℕ
one_capital_way = 1

abbrev pub all_capitals_way : ℕ
all_capitals_way = 2

abbrev pub separated_way : ℕ
separated_way = 3

abbrev pub first_digit_way : ℕ
first_digit_way = 4

abbrev pub first_lower_way : ℕ
first_lower_way = 5

abbrev pub lower_way : ℕ
lower_way = 6

abbrev pub silent_way : ℕ
silent_way = 7

-- how many there are
abbrev pub ways : ℕ
ways = 8

-- THE DEEDS: the state after a place, and the way of writing it
abbrev pub sign : ℕ
sign = free * ways + bare_way

abbrev pub letter : ℕ
letter = mixed * ways + bare_way

abbrev pub separated_letter : ℕ
separated_letter = mixed * ways + separated_way

abbrev pub capital_alone : ℕ
capital_alone = mixed * ways + one_capital_way

abbrev pub first_of_capitals : ℕ
first_of_capitals = capitals * ways + all_capitals_way

abbrev pub capital_of_many : ℕ
capital_of_many = capitals * ways + bare_way

abbrev pub first_of_number : ℕ
first_of_number = number * ways + first_digit_way

abbrev pub digit : ℕ
digit = number * ways + bare_way

abbrev pub point_inside : ℕ
point_inside = number * ways + bare_way

abbrev pub point_after : ℕ
point_after = guarded * ways + bare_way

abbrev pub first_of_form : ℕ
first_of_form = lowered * ways + first_lower_way

abbrev pub lower_digit : ℕ
lower_digit = lowered * ways + lower_way

abbrev pub stop_of_ordinal : ℕ
stop_of_ordinal = ordinal * ways + silent_way

abbrev pub feminine_mark : ℕ
feminine_mark = guarded * ways + bare_way

abbrev pub bar_of_fraction : ℕ
bar_of_fraction = barred * ways + bare_way

abbrev pub digit_under : ℕ
digit_under = under * ways + bare_way

abbrev pub the_hyphen : ℕ
the_hyphen = hyphened * ways + bare_way

abbrev pub the_dash : ℕ
the_dash = dashed * ways + bare_way

-- THE QUESTIONS: the least; a capital begins a run; a digit begins a number; a point or comma after a digit of a number; a denominator begins
-- with 1
abbrev pub questions : ℕ
questions = 88

abbrev pub begins_run : ℕ
begins_run = 88

abbrev pub begins_number : ℕ
begins_number = 89

abbrev pub number_point : ℕ
number_point = 90

abbrev pub one_under : ℕ
one_under = 91

-- THE FAULTS: a code point with no sign; outside the two forms; it would share its cells
abbrev pub no_sign : ℕ
no_sign = 92

abbrev pub outside_form : ℕ
outside_form = 93

abbrev pub shares_cells : ℕ
shares_cells = 94
