-- The whole answer to a print and to a row (paper 01, "Numbers the desk shows"), each a type with one constructor for each line of the paper's
-- table, in its order. The promises of the programs cite these. Assumes nothing.
use Rattle.std.specs.Prelude.{List, ℕ, ◌≤◌, ◌<◌, length, get_or}
use Rattle.rules.specs.Cells.{Text, Row, last_cell}
use Rattle.rules.specs.Sorts.{Table}
use Rattle.rules.specs.Normal.{normal_of}
use Rattle.rules.specs.Places.{lacks_sign, breaks_pair, outside_form, shares_cells}
use Rattle.rules.specs.Rows.{Reads, FirstFault, Faultless, LeftOpen}
use Rattle.rules.specs.Refusals.{Refusal, too_long, at_fault, needs_room, not_a_cell, no_text, longest_text, longest_row, reported}

-- What is written from the first element on, "all elements after the count are as they were"; or a refusal, which "writes nothing".
pub data Answer : Type 0 where
  gives : List ℕ → Answer
  refuses : Refusal → Answer

-- "For print: 1 first, then the least place among 2 to 5, then 6." Here t is the normalised print.
pub data PrintRefused (tb : Table) (t : Text) (room : ℕ) : Refusal → Type 0 where
  -- 1: "normalised text above 4,096 code points": "that length"
  refused_too_long : longest_text < length t → PrintRefused tb t room (too_long (reported (length t)))
  -- 2: "a code point with no sign": "its place"
  no_sign : (n : ℕ) → length t ≤ longest_text → FirstFault tb t n lacks_sign → PrintRefused tb t room (at_fault lacks_sign n)
  -- 3: "a pair mark against the pair rule": "its place; text length if something is open at the end"
  pair_broken : (n : ℕ) → length t ≤ longest_text → FirstFault tb t n breaks_pair → PrintRefused tb t room (at_fault breaks_pair n)
  left_open : length t ≤ longest_text → Faultless tb t → LeftOpen tb t → PrintRefused tb t room (at_fault breaks_pair (length t))
  -- 4: "º, ª or U+2044 outside the two forms, or after a number with a point or comma inside": "its place"
  refused_outside_form : (n : ℕ) → length t ≤ longest_text → FirstFault tb t n outside_form → PrintRefused tb t room (at_fault outside_form n)
  -- 5: "print that would share its cells": "place as below"
  refused_shares_cells : (n : ℕ) → length t ≤ longest_text → FirstFault tb t n shares_cells → PrintRefused tb t room (at_fault shares_cells n)
  -- 6: "the answer needs more room than lent": "the room needed"
  row_needs_room : (r : Row) → length t ≤ longest_text → Reads tb r t → room < length r → PrintRefused tb t room (needs_room (length r))

pub data PrintAnswer (tb : Table) (p : Text) (room : ℕ) : Answer → Type 0 where
  print_refused : (x : Refusal) → PrintRefused tb (normal_of p) room x → PrintAnswer tb p room (refuses x)
  transcribed : (r : Row) → length (normal_of p) ≤ longest_text → Reads tb r (normal_of p) → length r ≤ room → PrintAnswer tb p room (gives r)

-- a row short enough, whose every byte is a cell
pub record ProperRow (r : Row) : Type 0 where
  pub short : length r ≤ longest_row
  pub cells : (n : ℕ) → n < length r → get_or r n 0 ≤ last_cell

-- "For a row: above 12,288 cells is 1, then 7, 8, then 1 for a long text": what refuses a row, whatever the room.
pub data RowRefused (tb : Table) (r : Row) : Refusal → Type 0 where
  -- 1: "a row above 12,288 cells": "that length"
  long_row : longest_row < length r → RowRefused tb r (too_long (reported (length r)))
  -- 7: "a byte above 63 in a row": "first such place"
  refused_not_a_cell : (n : ℕ) → length r ≤ longest_row → n < length r → last_cell < get_or r n 0 → ((m : ℕ) → m < n → get_or r m 0 ≤ last_cell)
      → RowRefused tb r (not_a_cell n)
  -- 8: "a row that no text of any length has": 0
  refused_no_text : ProperRow r → ((t : Text) → Reads tb r t → ⊥) → RowRefused tb r no_text
  -- 1: "a row that reads as a text above 4,096": "that length"
  long_text : (t : Text) → ProperRow r → Reads tb r t → longest_text < length t → RowRefused tb r (too_long (reported (length t)))

-- the row is accepted: it reads as a text that is short enough
pub record ReadsAs (tb : Table) (r : Row) (t : Text) : Type 0 where
  pub proper : ProperRow r
  pub reads : Reads tb r t
  pub short : length t ≤ longest_text

-- a refusal; "then 6", with the room needed; or the text
pub data RowAnswer (tb : Table) (r : Row) (room : ℕ) : Answer → Type 0 where
  row_refused : (x : Refusal) → RowRefused tb r x → RowAnswer tb r room (refuses x)
  text_needs_room : (t : Text) → ReadsAs tb r t → room < length t → RowAnswer tb r room (refuses (needs_room (length t)))
  read : (t : Text) → ReadsAs tb r t → length t ≤ room → RowAnswer tb r room (gives t)
