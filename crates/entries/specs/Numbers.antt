-- The code's classes and states by their numbers in a word, and its pair marks (src/lib.rt). Assumes nothing.
use Rattle.std.specs.Prelude.{ℕ, Option, Some, None, cond, eqb}
use Rattle.rules.specs.Sorts.{Class as Sorted, a_to_j, other_small, capital, one, other_digit, a_stop, a_comma, a_hyphen, a_dash, a_bar, masculine, feminine, a_percent, other_sign, unlisted, class_number}
use Rattle.entries.specs.States.{free, capitals, mixed, number, lowered, ordinal, barred, under, guarded, hyphened, dashed}
use Rattle.entries.specs.declared.Class.{Class}
use Rattle.entries.specs.declared.Class.TheVariants.{AToJ, OtherSmall, Capital, One, OtherDigit, FullStop, Comma, Hyphen, Dash, Bar, Masculine, Feminine, Percent, OtherSign, Unlisted}
use Rattle.entries.specs.declared.State.{State}
use Rattle.entries.specs.declared.State.TheVariants.{Free, Capitals, Mixed, Number, Lowered, Ordinal, Barred, Under, Guarded, Hyphened, Dashed}

abbrev pub state_number : State → ℕ
state_number Free = free
state_number Capitals = capitals
state_number Mixed = mixed
state_number Number = number
state_number Lowered = lowered
state_number Ordinal = ordinal
state_number Barred = barred
state_number Under = under
state_number Guarded = guarded
state_number Hyphened = hyphened
state_number Dashed = dashed

-- a class of the code is one of the rules
abbrev pub class_of : Class → Sorted
class_of AToJ = a_to_j
class_of OtherSmall = other_small
class_of Capital = capital
class_of One = one
class_of OtherDigit = other_digit
class_of FullStop = a_stop
class_of Comma = a_comma
class_of Hyphen = a_hyphen
class_of Dash = a_dash
class_of Bar = a_bar
class_of Masculine = masculine
class_of Feminine = feminine
class_of Percent = a_percent
class_of OtherSign = other_sign
class_of Unlisted = unlisted

-- and has its number
abbrev pub class_index : Class → ℕ
class_index c = class_number (class_of c)

-- a pair mark by its number, of which 0 is none
abbrev pub mark_told : ℕ → Option ℕ
mark_told m = cond (eqb m 0) None (Some m)
