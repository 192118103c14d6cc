-- What the inner functions promise, here and in the crate `stepper`. In order: the first byte that is no cell; how long rows are that are read in one way or another; why a
-- row is refused; what a walk over the whole row found, and the answer that follows. What a walk over a part of the row finds is said in the crate `walks`. Assumes nothing.
use Rattle.std.specs.Prelude.{List, ◌≡◌, ℕ, Result, Ok, Err, ◌≤◌, ◌<◌, length, get_or}
use Rattle.std.proofs.Math.Option.{some}
use Rattle.rules.specs.Cells.{Text, Row, last_cell}
use Rattle.rules.specs.Sorts.{Table}
use Rattle.rules.specs.Refusals.{Refusal}
use Rattle.rules.specs.Answers.{gives, refuses, RowRefused, RowAnswer}
use Rattle.walks.specs.Walks.{a_stand, Goes}
use Rattle.walks.specs.declared.Stand.{Stand}
use Rattle.walks.specs.declared.NoText.{NoText}
use Rattle.reader.specs.Promise.{Answer, refusal_of}
use Rattle.reader.specs.declared.Refusal as declared

-- "a byte above 63 in a row": "first such place", or the row's length
pub record FirstHigh (r : Row) (n : ℕ) : Type 0 where
  pub within : n ≤ length r
  pub below : (m : ℕ) → m < n → get_or r m 0 ≤ last_cell
  pub there : n < length r → last_cell < get_or r n 0

-- of a row that has a longer draft than this it is asked before the row is walked
abbrev pub line_row : ℕ
line_row = 128

-- a refusal of the row, whatever the room
abbrev pub RefusesRow : Table → Row → declared.Refusal → Type 0
RefusesRow tb r a = (x : Refusal) × (refusal_of (Err a) ≡ some x) × RowRefused tb r x

-- at the row's front: nothing is begun, no pair is open, nothing is counted
abbrev pub at_start : Stand
at_start = a_stand 0 0 0 0

-- what a walk over the whole row found, whatever it wrote
abbrev pub Found : Row → Result Stand NoText → Type 0
Found r w = (t : List ℕ) × (t' : List ℕ) × Goes r (length r) at_start t t' w

-- the rules' answer to the row where there is so much room; of what is written nothing is said
pub data Settled (tb : Table) (r : Row) (room : ℕ) : Answer → Type 0 where
  settled_done : (t : Text) → RowAnswer tb r room (gives t) → Settled tb r room (Ok (length t))
  settled_refused : (a : declared.Refusal) (x : Refusal) → refusal_of (Err a) ≡ some x → RowAnswer tb r room (refuses x) → Settled tb r room (Err a)
