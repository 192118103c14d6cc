-- The cells of the digits and of the lower digits, as the code asks for them: a bit for each. The code's constants are these (src/lib.rt). And the cells that are read
-- alone; their bits stand with the words (`Words.letters_alone`, `signs_alone` of the crate `readings`). Assumes nothing.
use Rattle.std.specs.Prelude.{Bool, not, ◌&&◌, ℕ, ◌/◌, ◌%◌, ◌^◌, eqb, leb}
use Rattle.rules.specs.Cells.{last_cell}
use Rattle.readings.specs.Modes.{free, mixed}
use Rattle.readings.specs.Fields.{point_in, lower_in, usual_in}
use Rattle.readings.specs.Words.{word_of}
use Rattle.readings.specs.Readings.{no_point}

abbrev pub digit_cells : ℕ
digit_cells = 235539978

abbrev pub lower_cells : ℕ
lower_cells = 23644190106976324

-- is the cell one of these
abbrev pub cell_among : ℕ → ℕ → Bool
cell_among these c = leb c last_cell && eqb (these / 2 ^ (c % 64) % 2) 1

-- has the cell a lower digit. (Of digits: `digit_cell` of the crate `readings`.)
abbrev pub lower_cell : ℕ → Bool
lower_cell y = not (eqb (lower_in (word_of y)) no_point)

-- is the cell read as usual, as a small letter or a sign, both where nothing is begun and in a run with a small letter
abbrev pub alone_cell : ℕ → Bool
alone_cell c = usual_in (word_of c) free && (usual_in (word_of c) mixed && not (eqb (point_in (word_of c)) no_point))
