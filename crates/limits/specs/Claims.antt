-- What is proved of the limits, as types; each is proved under the same name in snake case (`LongestLine` by `longest_line_lem`) in proofs/Claims.antt. Assumes nothing.
use Rattle.std.specs.Prelude.{◌*◌, ◌≤◌}
use Rattle.limits.specs.declared.Program.{Program}
use Rattle.limits.specs.declared.Program.TheVariants.{Read}
use Rattle.limits.specs.Limits.{longest_row_line, longest_line, room_for_cells}

-- no program takes a longer line than a row may be
abbrev pub LongestLine : Type 0
LongestLine = (p : Program) → longest_line p ≤ longest_row_line

-- the characters of a row that fills the room, three bytes for each cell, are no long line: `read` takes what `transcribe` gives
abbrev pub RowsFit : Type 0
RowsFit = 3 * room_for_cells ≤ longest_line Read
