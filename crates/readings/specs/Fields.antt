-- The word of a cell: a number whose fields say what the cell may be. In order: the classes; where the fields stand; what a word says; the cell at a place of a
-- row. The words stand in `Words`. The code has the places of the fields as constants of these names (src/lib.rt), and the classes as its enum `Class` (`class_number`). Assumes nothing.
use Rattle.std.specs.Prelude.{Bool, cond, ◌||◌, ℕ, ◌+◌, ◌*◌, ◌/◌, ◌%◌, ◌^◌, eqb, leb, get_or}
use Rattle.rules.specs.Cells.{Row, last_cell}
use Rattle.readings.specs.Acts.{no_sign}
use Rattle.readings.specs.Deeds.{deeds}
use Rattle.readings.specs.declared.Class.{Class}
use Rattle.readings.specs.declared.Class.TheVariants as code

-- THE CLASSES of cells: all that the table asks of one (tools/readings.txt)
abbrev pub nothing : ℕ
nothing = 0

abbrev pub letter_a : ℕ
letter_a = 1

abbrev pub b_to_j : ℕ
b_to_j = 2

abbrev pub letter_o : ℕ
letter_o = 3

abbrev pub other_letter : ℕ
other_letter = 4

abbrev pub stop : ℕ
stop = 5

abbrev pub comma : ℕ
comma = 6

abbrev pub sign_or_low : ℕ
sign_or_low = 7

abbrev pub mark_or_low : ℕ
mark_or_low = 8

abbrev pub low_only : ℕ
low_only = 9

abbrev pub sign : ℕ
sign = 10

abbrev pub line : ℕ
line = 11

abbrev pub capital_sign : ℕ
capital_sign = 12

abbrev pub figure_sign : ℕ
figure_sign = 13

abbrev pub separator : ℕ
separator = 14

abbrev pub prefix : ℕ
prefix = 15

-- the number of a class of the code
abbrev pub class_number : Class → ℕ
class_number code.Nothing = nothing
class_number code.LetterA = letter_a
class_number code.BToJ = b_to_j
class_number code.LetterO = letter_o
class_number code.OtherLetter = other_letter
class_number code.Stop = stop
class_number code.Comma = comma
class_number code.SignOrLow = sign_or_low
class_number code.MarkOrLow = mark_or_low
class_number code.LowOnly = low_only
class_number code.Sign = sign
class_number code.Line = line
class_number code.CapitalSign = capital_sign
class_number code.FigureSign = figure_sign
class_number code.Separator = separator
class_number code.Prefix = prefix

-- what the table says of a mode and a class
abbrev pub deed_of : ℕ → ℕ → ℕ
deed_of m c = get_or deeds (m % 16 * 16 + c % 16) no_sign

-- WHERE THE FIELDS STAND
abbrev pub usual_at : ℕ
usual_at = 1

abbrev pub point_at : ℕ
point_at = 65536

abbrev pub capital_at : ℕ
capital_at = 4294967296

abbrev pub figure_at : ℕ
figure_at = 1099511627776

abbrev pub lower_at : ℕ
lower_at = 70368744177664

abbrev pub kind_at : ℕ
kind_at = 4503599627370496

abbrev pub class_at : ℕ
class_at = 72057594037927936

abbrev pub then_at : ℕ
then_at = 1152921504606846976

-- WHAT A WORD SAYS: its class; the small letter or the sign that the cell is alone; its capital, its digit and its digit as a lower digit (0 for none); the
-- kind of a pair mark, and of a cell that begins signs of two its number among those; the mode after it where it is read as usual; is it read as usual in a mode
abbrev pub class_in : ℕ → ℕ
class_in w = w / class_at % 16

abbrev pub point_in : ℕ → ℕ
point_in w = w / point_at % 65536

abbrev pub capital_in : ℕ → ℕ
capital_in w = w / capital_at % 256

abbrev pub figure_in : ℕ → ℕ
figure_in w = w / figure_at % 64

abbrev pub lower_in : ℕ → ℕ
lower_in w = w / lower_at % 64

-- its small letter, where it is a letter
abbrev pub letter_in : ℕ → ℕ
letter_in w = cond (eqb (capital_in w) 0) 0 (point_in w)

-- what it is between two digits of a number, the full stop or the comma; and anywhere inside one, its digit or that
abbrev pub between_in : ℕ → ℕ
between_in w = cond (eqb (class_in w) stop || eqb (class_in w) comma) (point_in w) 0

abbrev pub inside_in : ℕ → ℕ
inside_in w = cond (eqb (figure_in w) 0) (between_in w) (figure_in w)

abbrev pub kind_in : ℕ → ℕ
kind_in w = w / kind_at % 16

abbrev pub then_in : ℕ → ℕ
then_in w = w / then_at

abbrev pub usual_in : ℕ → ℕ → Bool
usual_in w m = eqb (w / 2 ^ (m % 64) % 2) 1

-- WITHIN A RUN, where each cell is one code point: the digit, the capital and the lower digit of a word, and what it is between two digits, 16 bits for each; a
-- field of 16 bits; the one that a run asks for
abbrev pub run_in : ℕ → ℕ
run_in w = figure_in w + 65536 * capital_in w + 4294967296 * lower_in w + 281474976710656 * between_in w

abbrev pub field_in : ℕ → ℕ → ℕ
field_in v at = v / 2 ^ (at % 64) % 65536

abbrev pub run_point : ℕ → ℕ → ℕ
run_point w run = field_in (run_in w) run

-- AS THE SECOND of a sign of two cells: where the field for the first stands, by its number (its `kind_in`)
abbrev pub second_at : ℕ → ℕ
second_at n = 65536 ^ n

-- THE CELL at a place of a row, and `no_cell` past its end or where the byte is no cell
abbrev pub no_cell : ℕ
no_cell = 64

abbrev pub cell_from : ℕ → ℕ
cell_from c = cond (leb c last_cell) c no_cell

abbrev pub cell_of : Row → ℕ → ℕ
cell_of r n = cell_from (get_or r n no_cell)
