-- Refusals (paper 01, "Numbers the desk shows"). In order: the refusals by name; the number and second number of each; the lengths. This is the
-- one place that knows a refusal's number. Assumes nothing.
use Rattle.std.specs.Prelude.{ℕ, min}
use Rattle.rules.specs.Places.{Cause, lacks_sign, breaks_pair, outside_form, shares_cells}

pub data Refusal : Type 0 where
  -- the text or the row is too long: that length
  too_long : ℕ → Refusal
  -- a place of the text is at fault: why, and the place
  at_fault : Cause → ℕ → Refusal
  -- the answer needs more room than lent: the room needed
  needs_room : ℕ → Refusal
  -- a byte of the row is no cell: its place
  not_a_cell : ℕ → Refusal
  -- no text has the row
  no_text : Refusal

-- the column "No."
unfoldable pub number_of : Refusal → ℕ
number_of (too_long n) = 1
number_of (at_fault lacks_sign n) = 2
number_of (at_fault breaks_pair n) = 3
number_of (at_fault outside_form n) = 4
number_of (at_fault shares_cells n) = 5
number_of (needs_room n) = 6
number_of (not_a_cell n) = 7
number_of no_text = 8

-- the column "Second number"
unfoldable pub second_of : Refusal → ℕ
second_of (too_long n) = n
second_of (at_fault c n) = n
second_of (needs_room n) = n
second_of (not_a_cell n) = n
second_of no_text = 0

-- "normalised text above 4,096 code points"
abbrev pub longest_text : ℕ
longest_text = 4096

-- "a row above 12,288 cells"
abbrev pub longest_row : ℕ
longest_row = 12288

-- "A length above 4,294,967,295 is reported as that number."
abbrev pub reported : ℕ → ℕ
reported n = min n 4294967295
