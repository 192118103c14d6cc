-- What `read` promises (paper 01, "Numbers the desk shows"; demands 1 and 3). In order: the answer; the refusal that it is, in the paper's words; its number and
-- second number; the promise. Not here: which answer the rules allow (`Answers.RowAnswer` of the crate `rules`). Assumes nothing.
use Rattle.std.specs.Prelude.{List, ◌≡◌, ℕ, Result, Ok, Err, length}
use Rattle.std.proofs.Math.Option.{Option, none, some}
use Rattle.rules.specs.Cells.{Text, Row}
use Rattle.rules.specs.Sorts.{Table}
use Rattle.rules.specs.Refusals.{Refusal, too_long, needs_room, not_a_cell, no_text, number_of, second_of}
use Rattle.rules.specs.Answers.{gives, refuses, RowAnswer}
use Rattle.rows.specs.Laid.{laid}
use Rattle.reader.specs.declared.Refusal as declared
use Rattle.reader.specs.declared.Refusal.TheVariants.{TooLong, NotACell, NoText, NeedsRoom}

-- THE ANSWER to a row: the count of code points written, or the refusal
abbrev pub Answer : Type 0
Answer = Result ℕ declared.Refusal

-- the refusal that an answer is, by the paper's table; `Ok` is none
abbrev pub refusal_of : Answer → Option Refusal
refusal_of (Ok n) = none
refusal_of (Err (TooLong n)) = some (too_long n)
refusal_of (Err (NotACell n)) = some (not_a_cell n)
refusal_of (Err NoText) = some no_text
refusal_of (Err (NeedsRoom n)) = some (needs_room n)

-- "On success the answer is the count written": the number 0, which no refusal has, and the count; else the columns "No." and "Second number"
abbrev pub count_in : Answer → ℕ
count_in (Ok n) = n
count_in (Err (TooLong n)) = n
count_in (Err (NotACell n)) = n
count_in (Err NoText) = 0
count_in (Err (NeedsRoom n)) = n

abbrev numbers_by : Option Refusal → ℕ → ℕ × ℕ
numbers_by none n = (0, n)
numbers_by (some x) n = (number_of x, second_of x)

unfoldable pub numbers_of : Answer → ℕ × ℕ
numbers_of a = numbers_by (refusal_of a) (count_in a)

-- THE PROMISE of `read`, of a row and what the lent text held: the answer, and what the lent text then holds.
pub data Read (tb : Table) (r : Row) (lent : List ℕ) : Answer → List ℕ → Type 0 where
  -- "On success the answer is the count written." The text stands "from the first element on; all elements after the count are as they were."
  done : (t : Text) → RowAnswer tb r (length lent) (gives t) → Read tb r lent (Ok (length t)) (laid t lent)
  -- "A refusal writes nothing."
  refused : (a : Answer) (x : Refusal) → refusal_of a ≡ some x → RowAnswer tb r (length lent) (refuses x) → Read tb r lent a lent
