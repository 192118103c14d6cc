-- What `take_in` promises, and what a room shows of a line (paper 01, "The line program": "A line above 16,384 bytes, its end not counted, prints `long`.";
-- the room is that length, or any other). In order: what of the bytes belongs to the line; a part put behind what is held; the promise; what a room and a
-- count say of a line of any length. Not here: the lines of an input (`Lines`), what follows from the promise (`Claims`). Assumes nothing.
use Rattle.std.specs.Prelude.{Bool, true, false, cond, List, [], ◌∷◌, ◌++◌, ◌≡◌, ℕ, suc, ◌+◌, ◌≤◌, min, max, eqb, ltb, length, take, drop}
use Rattle.rows.specs.Laid.{laid}
use Rattle.lines.specs.Lines.{line_end}
use Rattle.lines.specs.declared.Taken.{Taken}

-- "Byte 10 ends a line": what stands before the first byte 10, or all
abbrev pub part_of : List ℕ → List ℕ
part_of [] = []
part_of (b ∷ bs) = cond (eqb b line_end) [] (b ∷ part_of bs)

-- whether there is a byte 10
abbrev pub ends_in : List ℕ → Bool
ends_in [] = false
ends_in (b ∷ bs) = cond (eqb b line_end) true (ends_in bs)

-- how many bytes are passed: those, and the byte 10 behind them
abbrev pub passed : List ℕ → ℕ
passed bs = length (part_of bs) + cond (ends_in bs) 1 0

-- A PART PUT BEHIND WHAT IS HELD. The count goes up to one more than the room has, which says `long`; one above that stays.
abbrev pub held_by : ℕ → ℕ → ℕ → ℕ
held_by held room n = max held (min (held + n) (suc room))

-- the room has the part laid behind the elements that are held, as far as it goes, and is otherwise as it was
abbrev pub filled : List ℕ → ℕ → List ℕ → List ℕ
filled room held part = take (length room) (take held room ++ laid part (drop held room))

pub record Keeps (room : List ℕ) (held : ℕ) (part : List ℕ) (h : ℕ) (new : List ℕ) : Type 0 where
  pub count : h ≡ held_by held (length room) (length part)
  pub stored : new ≡ filled room held part

-- THE PROMISE of `take_in`, of bytes and a place in them, of a room and how much it holds: the answer, and what the room then has.
pub record TakesIn (bytes : List ℕ) (from : ℕ) (room : List ℕ) (held : ℕ) (t : Taken) (new : List ℕ) : Type 0 where
  pub next : t.next ≡ from + passed (drop from bytes)
  pub ended : t.ended ≡ ends_in (drop from bytes)
  pub keeps : Keeps room held (part_of (drop from bytes)) t.held new

-- What of it a loop over the bytes needs: from a place before the end it goes on, and not past the end; the room is as long as it was.
pub record Moves (bytes : List ℕ) (from : ℕ) (room : List ℕ) (t : Taken) (new : List ℕ) : Type 0 where
  pub on : min (suc from) (length bytes) ≤ t.next
  pub within : t.next ≤ max from (length bytes)
  pub same : length new ≡ length room

-- WHAT A ROOM SHOWS of a line of any length: how long it is, up to one more than the room has, and where it is no longer than the room, the line.
pub record Holds (line room : List ℕ) (held : ℕ) : Type 0 where
  pub count : held ≡ min (length line) (suc (length room))
  pub front : length line ≤ length room → take held room ≡ line

-- "A line above 16,384 bytes .. prints `long`": what `is_long` tells
abbrev pub is_long : List ℕ → ℕ → Bool
is_long room held = ltb (length room) held
