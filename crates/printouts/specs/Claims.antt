-- What is proved of the printed lines, as types; each is proved under the same name in snake case in proofs/Claims.antt. In order: every line has a printed line, and one; how long a printed line is; the
-- way back; the reply to the desk's numbers. Assumes nothing.
use Rattle.std.specs.Prelude.{List, ◌≡◌, ℕ, ◌+◌, ◌*◌, ◌≤◌, length}
use Rattle.rules.specs.Cells.{Row}
use Rattle.rules.specs.Castilian.{castilian}
use Rattle.rules.specs.Normal.{normal_of}
use Rattle.rules.specs.Answers.{gives, PrintAnswer}
use Rattle.utf8.specs.Decoding.{decoded}
use Rattle.desk.specs.declared.Shown.{Shown}
use Rattle.printing.specs.Printed.{bytes_of_text, characters_of, pattern_of}
use Rattle.replies.specs.Replies.{ok_line}
use Rattle.patterns.specs.Patterns.{row_of}
use Rattle.printouts.specs.Lines.{TranscribePrints, ReadPrints, row_reply, text_reply, shown_reply}

-- Demand 1: "Every sequence of numbers offered as print and every sequence of bytes offered as cells gets an answer": every line has a printed line,
abbrev pub EveryLineTranscribed : Type 0
EveryLineTranscribed = (room : ℕ) (line : List ℕ) → (x : List ℕ) × TranscribePrints room line x

abbrev pub EveryRowLineRead : Type 0
EveryRowLineRead = (room : ℕ) (line : List ℕ) → (x : List ℕ) × ReadPrints room line x

-- and "any two results allowed by one statement are proved equal".
abbrev pub OneTranscribedLine : Type 0
OneTranscribedLine = (room : ℕ) (line x y : List ℕ) → TranscribePrints room line x → TranscribePrints room line y → x ≡ y

abbrev pub OneReadLine : Type 0
OneReadLine = (room : ℕ) (line x y : List ℕ) → ReadPrints room line x → ReadPrints room line y → x ≡ y

-- HOW LONG. "Lent room is 12,288": three bytes for a cell, `ok`, a blank and the end; `read`, with room for 4,096 code points, at most four bytes for each
abbrev pub longest_printed : ℕ
longest_printed = 3 + 3 * 12288 + 1

abbrev pub longest_read : ℕ
longest_read = 3 + 4 * 4096 + 1

abbrev pub RoomEnough : Type 0
RoomEnough =
    ((line x : List ℕ) → TranscribePrints 12288 line x → length x ≤ longest_printed)
    × ((line x : List ℕ) → ReadPrints 4096 line x → length x ≤ longest_read)

-- THE WAY BACK. The row that a printed row shows is that row,
abbrev pub LineReadsBack : Type 0
LineReadsBack = (room : ℕ) (line : List ℕ) (r : Row) → PrintAnswer castilian (decoded line) room (gives r) → row_of (characters_of r) ≡ r

-- and `read`, with room enough, prints for it the normalised print of the line. (Demand 2: "reading them, with room enough, gives back the normalised print")
abbrev pub LineThereAndBack : Type 0
LineThereAndBack =
    (room : ℕ) (line : List ℕ) (r : Row) → PrintAnswer castilian (decoded line) room (gives r) → (enough : ℕ) → length (normal_of (decoded line)) ≤ enough
    → ReadPrints enough (characters_of r) (ok_line (bytes_of_text (normal_of (decoded line))))

-- THE REPLY: of a row's cells it is that of a row, of code points that of a text
abbrev pub RowReplied : Type 0
RowReplied = (s : Shown) (row : List ℕ) → shown_reply pattern_of s row ≡ row_reply s.number s.second row

abbrev pub TextReplied : Type 0
TextReplied = (s : Shown) (text : List ℕ) → shown_reply (λ point. point) s text ≡ text_reply s.number s.second text
