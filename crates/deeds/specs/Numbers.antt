-- The code's ways of writing, deeds, questions and faults by their numbers (specs/Acts.antt). Assumes nothing.
use Rattle.std.specs.Prelude.{ℕ, Result, Ok, Err}
use Rattle.deeds.specs.Acts as act
use Rattle.deeds.specs.declared.Way.{Way}
use Rattle.deeds.specs.declared.Way.TheVariants.{Bare, OneCapital, AllCapitals, Separated, FirstDigit, FirstLower, Lower, Silent}
use Rattle.deeds.specs.declared.Act.{Act}
use Rattle.deeds.specs.declared.Act.TheVariants.{Sign, Letter, SeparatedLetter, CapitalAlone, FirstOfCapitals, CapitalOfMany, FirstOfNumber, Digit, FirstOfForm, LowerDigit, StopOfOrdinal, FeminineMark, BarOfFraction, DigitUnder, TheHyphen, TheDash}
use Rattle.deeds.specs.declared.Question.{Question}
use Rattle.deeds.specs.declared.Question.TheVariants.{BeginsRun, BeginsNumber, NumberPoint, OneUnder}
use Rattle.deeds.specs.declared.Fault.{Fault}
use Rattle.deeds.specs.declared.Fault.TheVariants.{NoSign, OutsideForm, SharesCells}
use Rattle.deeds.specs.declared.Deed.{Deed}
use Rattle.deeds.specs.declared.Deed.TheVariants.{Write, Ask, Refuse}

abbrev pub way_index : Way → ℕ
way_index Bare = act.bare_way
way_index OneCapital = act.one_capital_way
way_index AllCapitals = act.all_capitals_way
way_index Separated = act.separated_way
way_index FirstDigit = act.first_digit_way
way_index FirstLower = act.first_lower_way
way_index Lower = act.lower_way
way_index Silent = act.silent_way

abbrev pub act_number : Act → ℕ
act_number Sign = act.sign
act_number Letter = act.letter
act_number SeparatedLetter = act.separated_letter
act_number CapitalAlone = act.capital_alone
act_number FirstOfCapitals = act.first_of_capitals
act_number CapitalOfMany = act.capital_of_many
act_number FirstOfNumber = act.first_of_number
act_number Digit = act.digit
act_number FirstOfForm = act.first_of_form
act_number LowerDigit = act.lower_digit
act_number StopOfOrdinal = act.stop_of_ordinal
act_number FeminineMark = act.feminine_mark
act_number BarOfFraction = act.bar_of_fraction
act_number DigitUnder = act.digit_under
act_number TheHyphen = act.the_hyphen
act_number TheDash = act.the_dash

abbrev pub question_number : Question → ℕ
question_number BeginsRun = act.begins_run
question_number BeginsNumber = act.begins_number
question_number NumberPoint = act.number_point
question_number OneUnder = act.one_under

abbrev pub fault_number : Fault → ℕ
fault_number NoSign = act.no_sign
fault_number OutsideForm = act.outside_form
fault_number SharesCells = act.shares_cells

abbrev pub deed_number : Deed → ℕ
deed_number (Write a) = act_number a
deed_number (Ask q) = question_number q
deed_number (Refuse f) = fault_number f

-- the same of a deed that is settled: what is written, or the fault
abbrev pub answer_number : Result Act Fault → ℕ
answer_number (Ok a) = act_number a
answer_number (Err f) = fault_number f
