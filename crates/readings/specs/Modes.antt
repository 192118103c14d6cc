-- Where a reader stands between two signs, as a number: the number of a mode of the rules' machine (crates/rules/proofs/States.antt). The code's `Mode` has these
-- numbers (src/lib.rt). In order: the modes; the number of one of the code's, and the mode of a number; in which of them a cell is to spare. Assumes nothing.
use Rattle.std.specs.Prelude.{cond, List, [], ◌∷◌, ℕ, eqb, get_or}
use Rattle.readings.specs.declared.Mode as code
use Rattle.readings.specs.declared.Mode.TheVariants as a
use Rattle.rules.proofs.States.{Mode, Free}
use Rattle.rules.proofs.Enumerations.{mode_list}

abbrev pub mode_of : ℕ → Mode
mode_of m = get_or mode_list m Free

-- how many there are
abbrev pub mode_count : ℕ
mode_count = 16

abbrev pub free : ℕ
free = 0

abbrev pub lone : ℕ
lone = 1

abbrev pub mixed : ℕ
mixed = 2

abbrev pub whole1 : ℕ
whole1 = 3

abbrev pub under1 : ℕ
under1 = 4

abbrev pub end : ℕ
end = 5

abbrev pub hyphen : ℕ
hyphen = 6

abbrev pub fem : ℕ
fem = 7

abbrev pub percent : ℕ
percent = 8

abbrev pub owing : ℕ
owing = 9

abbrev pub dash : ℕ
dash = 10

abbrev pub whole2 : ℕ
whole2 = 11

abbrev pub num : ℕ
num = 12

abbrev pub low : ℕ
low = 13

abbrev pub under : ℕ
under = 14

abbrev pub mid : ℕ
mid = 15

-- the number of a mode of the code
abbrev pub number_of : code.Mode → ℕ
number_of a.Free = free
number_of a.Lone = lone
number_of a.Mixed = mixed
number_of a.Whole1 = whole1
number_of a.Under1 = under1
number_of a.End = end
number_of a.Hyphen = hyphen
number_of a.Fem = fem
number_of a.Percent = percent
number_of a.Owing = owing
number_of a.Dash = dash
number_of a.Whole2 = whole2
number_of a.Num = num
number_of a.Low = low
number_of a.Under = under
number_of a.Mid = mid

-- and the mode that has a number; the last, where none has
abbrev pub code_modes : List code.Mode
code_modes =
    a.Free ∷ a.Lone ∷ a.Mixed ∷ a.Whole1 ∷ a.Under1 ∷ a.End ∷ a.Hyphen ∷ a.Fem
    ∷ a.Percent ∷ a.Owing ∷ a.Dash ∷ a.Whole2 ∷ a.Num ∷ a.Low ∷ a.Under ∷ a.Mid ∷ []

abbrev pub mode_at : ℕ → code.Mode
mode_at n = get_or code_modes n a.Mid

-- A CELL TO SPARE: behind 3456 and lower digits one cell more was read than code points. What ends them has two code points and one cell.
abbrev pub spare : ℕ → ℕ
spare m = cond (eqb m low) 1 0
