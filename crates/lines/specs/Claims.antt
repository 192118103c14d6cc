-- What is proved of the definitions and of the promise of `take_in`, as types; each is proved under the same name in snake case in proofs/Claims.antt.
-- In order: the lines of an input; one outcome; what a room shows; chunks; a call of `take_in` in a chunk. Assumes nothing.
use Rattle.std.specs.Prelude.{true, false, List, [], ◌∷◌, ◌++◌, ◌↔◌, ◌≡◌, ℕ, ltb, length, take, drop}
use Rattle.lines.specs.Lines.{lines_of, AreLines}
use Rattle.lines.specs.Held.{part_of, TakesIn, Holds, is_long}
use Rattle.lines.specs.Chunks.{add_line, cut_all, lines_by_chunks, joined}
use Rattle.lines.specs.declared.Taken.{Taken}

-- "Byte 10 ends a line and so does the end of the input after at least one byte.": the lines of an input are lines of it in this sense, and no others are
abbrev pub LinesAreLines : Type 0
LinesAreLines = (input : List ℕ) → AreLines input (lines_of input)

abbrev pub OneCutting : Type 0
OneCutting = (input : List ℕ) (a b : List (List ℕ)) → AreLines input a → AreLines input b → a ≡ b

-- "Input of two lines, `8b` and `1.b`", with an end behind the last and without; no byte; a line end, two, and one behind a line
abbrev pub WorkedLines : Type 0
WorkedLines =
    (lines_of (56 ∷ 98 ∷ 10 ∷ 49 ∷ 46 ∷ 98 ∷ 10 ∷ []) ≡ (56 ∷ 98 ∷ []) ∷ (49 ∷ 46 ∷ 98 ∷ []) ∷ [])
    × (lines_of (56 ∷ 98 ∷ 10 ∷ 49 ∷ 46 ∷ 98 ∷ []) ≡ (56 ∷ 98 ∷ []) ∷ (49 ∷ 46 ∷ 98 ∷ []) ∷ [])
    × (lines_of [] ≡ [])
    × (lines_of (10 ∷ []) ≡ [] ∷ [])
    × (lines_of (10 ∷ 10 ∷ []) ≡ [] ∷ [] ∷ [])
    × (lines_of (56 ∷ 10 ∷ 10 ∷ []) ≡ (56 ∷ []) ∷ [] ∷ [])

-- "any two results allowed by one statement are proved equal"
abbrev pub OneTaken : Type 0
OneTaken =
    (bytes : List ℕ) (from : ℕ) (room : List ℕ) (held : ℕ) (t u : Taken) (new old : List ℕ)
    → TakesIn bytes from room held t new → TakesIn bytes from room held u old → (t ≡ u) × (new ≡ old)

-- A room of which nothing is counted shows a line that has not begun,
abbrev pub HoldsNothing : Type 0
HoldsNothing = (room : List ℕ) → Holds [] room 0

-- and after `take_in` it shows the line with what was taken in.
abbrev pub HoldsOn : Type 0
HoldsOn =
    (bytes : List ℕ) (from : ℕ) (room : List ℕ) (held : ℕ) (t : Taken) (new : List ℕ) → TakesIn bytes from room held t new
    → (line : List ℕ) → Holds line room held → Holds (line ++ part_of (drop from bytes)) new t.held

-- "A line above 16,384 bytes, its end not counted, prints `long`. Otherwise ..": `is_long` tells whether the line has more bytes than the room; where it
-- has not, what is held is the line
abbrev pub LongExactly : Type 0
LongExactly = (line room : List ℕ) (held : ℕ) → Holds line room held → is_long room held ≡ ltb (length room) (length line)

abbrev pub HeldIsTheLine : Type 0
HeldIsTheLine = (line room : List ℕ) (held : ℕ) → Holds line room held → is_long room held ≡ false → take held room ≡ line

-- "after at least one byte": none is counted exactly where the line has none
abbrev pub EmptyExactly : Type 0
EmptyExactly = (line room : List ℕ) (held : ℕ) → Holds line room held → (held ≡ 0) ↔ (line ≡ [])

-- however the input is divided into chunks, the lines that end in each, one chunk after the other, and the unfinished line at the end, are its lines
abbrev pub ChunksDoNotMatter : Type 0
ChunksDoNotMatter = (chunks : List (List ℕ)) → lines_by_chunks [] chunks ≡ lines_of (joined chunks)

-- A CALL IN A CHUNK. Where the line ends, the chunk is cut into that line and what is behind it,
abbrev pub TurnEndsLine : Type 0
TurnEndsLine =
    (bytes : List ℕ) (from : ℕ) (room : List ℕ) (held : ℕ) (t : Taken) (new : List ℕ) → TakesIn bytes from room held t new
    → t.ended ≡ true
    → (line : List ℕ) → cut_all line (drop from bytes) ≡ add_line (line ++ part_of (drop from bytes)) (cut_all [] (drop t.next bytes))

-- and where it does not, nothing is behind, no line ends, and the line with what was taken in is left.
abbrev pub TurnLeavesLine : Type 0
TurnLeavesLine =
    (bytes : List ℕ) (from : ℕ) (room : List ℕ) (held : ℕ) (t : Taken) (new : List ℕ) → TakesIn bytes from room held t new
    → t.ended ≡ false
    → (drop t.next bytes ≡ [])
    × ((line : List ℕ) → cut_all line (drop from bytes) ≡ record { lines = []; rest = line ++ part_of (drop from bytes) })
