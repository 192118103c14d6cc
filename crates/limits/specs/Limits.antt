-- The limits of the line programs (paper 01, "The line program"; its companions `read` and `steps`). In order: how long a line may be; the rooms that are lent. Not here: what the programs print (crate
-- `programs`). Assumes nothing.
use Rattle.std.specs.Prelude.{ℕ}
use Rattle.limits.specs.declared.Program.{Program}
use Rattle.limits.specs.declared.Program.TheVariants.{Transcribe, Read, Steps}

-- "A line above 16,384 bytes, its end not counted, prints `long`"; of cells: above 40,960
abbrev pub longest_print_line : ℕ
longest_print_line = 16384

abbrev pub longest_row_line : ℕ
longest_row_line = 40960

abbrev pub longest_line : Program → ℕ
longest_line Transcribe = longest_print_line
longest_line Read = longest_row_line
longest_line Steps = longest_row_line

-- "Lent room is 12,288"; `read`: 4,096
abbrev pub room_for_cells : ℕ
room_for_cells = 12288

abbrev pub room_for_text : ℕ
room_for_text = 4096

-- no answer has more bytes (`programs/Claims.MostBytes`)
abbrev pub most_bytes : ℕ
most_bytes = 106499
