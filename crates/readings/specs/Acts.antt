-- What is read at a place: a deed (tools/readings.txt says what each is). In order: those that the cell alone decides; the questions, which the cells that
-- follow decide; the number of one of the code's, whose `Deed` has these numbers (src/lib.rt). Assumes nothing.
use Rattle.std.specs.Prelude.{ℕ}
use Rattle.readings.specs.declared.Deed.{Deed}
use Rattle.readings.specs.declared.Deed.TheVariants as a

abbrev pub no_sign : ℕ
no_sign = 0

abbrev pub as_usual : ℕ
as_usual = 1

abbrev pub digit : ℕ
digit = 2

abbrev pub digit_under : ℕ
digit_under = 3

abbrev pub capital_of_many : ℕ
capital_of_many = 4

abbrev pub lower_digit : ℕ
lower_digit = 5

abbrev pub denominator : ℕ
denominator = 6

abbrev pub masculine_mark : ℕ
masculine_mark = 7

-- the least question
abbrev pub questions : ℕ
questions = 8

abbrev pub point : ℕ
point = 8

abbrev pub one_or_feminine : ℕ
one_or_feminine = 9

abbrev pub hyphen_or_dash : ℕ
hyphen_or_dash = 10

abbrev pub dash_only : ℕ
dash_only = 11

abbrev pub number_sign : ℕ
number_sign = 12

abbrev pub capital : ℕ
capital = 13

abbrev pub separates : ℕ
separates = 14

abbrev pub prefixed : ℕ
prefixed = 15

-- the number of a deed of the code
abbrev pub deed_number : Deed → ℕ
deed_number a.NoSign = no_sign
deed_number a.AsUsual = as_usual
deed_number a.Digit = digit
deed_number a.DigitUnder = digit_under
deed_number a.CapitalOfMany = capital_of_many
deed_number a.LowerDigit = lower_digit
deed_number a.Denominator = denominator
deed_number a.MasculineMark = masculine_mark
deed_number a.Point = point
deed_number a.OneOrFeminine = one_or_feminine
deed_number a.HyphenOrDash = hyphen_or_dash
deed_number a.DashOnly = dash_only
deed_number a.NumberSign = number_sign
deed_number a.Capital = capital
deed_number a.Separates = separates
deed_number a.Prefixed = prefixed
