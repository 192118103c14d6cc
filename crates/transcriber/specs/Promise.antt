-- What `transcribe` promises (paper 01, "Numbers the desk shows"; demands 1 and 2). In order: the refusal that each answer is, in the paper's words;
-- its number and second number; the promise. Not here: which answer the rules allow (`Answers.PrintAnswer` of the crate `rules`).
-- Assumes nothing.
use Rattle.std.specs.Prelude.{List, ◌≡◌, ℕ, Ok, Err, length}
use Rattle.std.proofs.Math.Option.{Option, none, some}
use Rattle.rules.specs.Cells.{Text, Row}
use Rattle.rules.specs.Sorts.{Table}
use Rattle.rules.specs.Places.{lacks_sign, breaks_pair, outside_form, shares_cells}
use Rattle.rules.specs.Refusals.{Refusal, too_long, at_fault, needs_room, number_of, second_of}
use Rattle.rules.specs.Answers.{gives, refuses, PrintAnswer}
use Rattle.rows.specs.Laid.{laid}
use Rattle.passes.specs.Passes.{Answer}
use Rattle.passes.specs.declared.Refusal.TheVariants.{TooLong, NoSign, PairBroken, OutsideForm, SharesCells, NeedsRoom}

-- the refusal that an answer is, by the paper's table; `Ok` is none
abbrev pub refusal_of : Answer → Option Refusal
refusal_of (Ok n) = none
refusal_of (Err (TooLong n)) = some (too_long n)
refusal_of (Err (NoSign n)) = some (at_fault lacks_sign n)
refusal_of (Err (PairBroken n)) = some (at_fault breaks_pair n)
refusal_of (Err (OutsideForm n)) = some (at_fault outside_form n)
refusal_of (Err (SharesCells n)) = some (at_fault shares_cells n)
refusal_of (Err (NeedsRoom n)) = some (needs_room n)

-- "On success the answer is the count written": the number 0, which no refusal has, and the count; else the columns "No." and "Second number"
abbrev pub count_in : Answer → ℕ
count_in (Ok n) = n
count_in (Err (TooLong n)) = n
count_in (Err (NoSign n)) = n
count_in (Err (PairBroken n)) = n
count_in (Err (OutsideForm n)) = n
count_in (Err (SharesCells n)) = n
count_in (Err (NeedsRoom n)) = n

abbrev numbers_by : Option Refusal → ℕ → ℕ × ℕ
numbers_by none n = (0, n)
numbers_by (some x) n = (number_of x, second_of x)

unfoldable pub numbers_of : Answer → ℕ × ℕ
numbers_of a = numbers_by (refusal_of a) (count_in a)

-- THE PROMISE, of a print and what the lent row held: the answer, and what the lent row then holds.
pub data Transcribed (tb : Table) (p : Text) (lent : List ℕ) : Answer → List ℕ → Type 0 where
  -- "On success the answer is the count written. Each sign goes straight to its own stretch of the lent row, from the first element on; all
  -- elements after the count are as they were."
  done : (r : Row) → PrintAnswer tb p (length lent) (gives r) → Transcribed tb p lent (Ok (length r)) (laid r lent)
  -- "A refusal writes nothing."
  refused : (a : Answer) (x : Refusal) → refusal_of a ≡ some x → PrintAnswer tb p (length lent) (refuses x) → Transcribed tb p lent a lent
