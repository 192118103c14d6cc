-- What a walk over a part of a row finds. In order: what is written to a lent text; the signs of a part; what is read where signs follow one another alike; what
-- a walk finds; cells that are only counted. It is told by the signs that the rules' own reader finds (`left` of the crate `readings`); only inner promises name
-- these. Assumes nothing.
use Rattle.std.specs.Prelude.{Some, None, Result, Ok, Err, List, [], ◌∷◌, ◌++◌, true, ◌⊎◌, ◌≡◌, ℕ, ◌+◌, ◌*◌, ◌≤◌, ◌<◌, length, take, drop, get_or}
use Rattle.std.specs.declared.option.Option as std
use Rattle.std.proofs.Math.Option.{Option, none}
use Rattle.rules.specs.Cells.{Text, Row, last_cell}
use Rattle.rules.specs.Signs.{Sign, print_of, cells_of}
use Rattle.rules.specs.Refusals.{longest_row}
use Rattle.pairs.specs.Opened.{open_states}
use Rattle.rows.specs.Laid.{laid}
use Rattle.readings.specs.Modes.{mode_count, number_of, mode_at, free, mixed}
use Rattle.readings.specs.Left.{left, add_sign}
use Rattle.readings.specs.Print.{points}
use Rattle.readings.specs.Readings.{step_at}
use Rattle.readings.specs.declared.Mode.{Mode}
use Rattle.readings.specs.declared.Step.{Step}
use Rattle.signs.specs.Among.{alone_cell}
use Rattle.signs.specs.Runs.{no_run, run_of}
use Rattle.walks.specs.declared.Stand.{Stand}
use Rattle.walks.specs.declared.NoText.{NoText}

-- WHAT IS WRITTEN: a print behind n elements, if there is room for it
abbrev pub Wrote : List ℕ → List ℕ → ℕ → Text → Type 0
Wrote t t' n p = (length t' ≡ length t) × (n + length p ≤ length t → t' ≡ take n t ++ laid p (drop n t))

-- there is room for n code points, and for one more for each cell from `at` on that stands before a place
abbrev pub Room : ℕ → ℕ → ℕ → ℕ → Type 0
Room stop at n room = n + stop ≤ at + room

-- more code points than a row has, whatever it is
abbrev pub most_points : ℕ
most_points = 2 * longest_row

-- THE SIGNS OF A PART of a row, in front of those that are left behind it
abbrev pub add_signs : List Sign → Option (List Sign) → Option (List Sign)
add_signs [] x = x
add_signs (s ∷ ss) x = add_sign s (add_signs ss x)

-- a sign is shown by a code point, and one that goes before it, if there is one
abbrev pub CodedSign : Sign → Type 0
CodedSign s = (l : std.Option ℕ) × (p : ℕ) × (s.shown ≡ points l p)

-- each starts before a place, the first of them at `at`, and has a cell
abbrev pub Starts : ℕ → ℕ → List Sign → Type 0
Starts stop at [] = Unit {0}
Starts stop at (s ∷ ss) = (at < stop) × (1 ≤ length s.taken) × CodedSign s × Starts stop (at + length s.taken) ss

-- every byte from a place up to another is a cell
abbrev pub CellsFrom : Row → ℕ → ℕ → Type 0
CellsFrom row at k = (i : ℕ) → at ≤ i → i < k → get_or row i 0 ≤ last_cell

-- they lead from a place, a mode and the open pairs to others, and are of cells
pub record Leads (row : Row) (stop at m o k n u : ℕ) (ss : List Sign) : Type 0 where
  pub left_is : left m o (drop at row) ≡ add_signs ss (left n u (drop k row))
  pub next_is : k ≡ at + length (cells_of ss)
  pub starts : Starts stop at ss
  pub within : k ≤ length row
  pub cells : CellsFrom row at k
  pub mode : n < mode_count
  pub opens : u < open_states

-- WHERE A WALK IS between two signs, by numbers
abbrev pub a_stand : ℕ → ℕ → ℕ → ℕ → Stand
a_stand at m o n = record { at = at; mode = mode_at m; opened = o; count = n }

-- it stands in a row, which is no longer than one may be, and no more code points are counted than its cells may have
abbrev pub Stands : Row → Stand → Type 0
Stands row w = (length row ≤ longest_row) × (w.at ≤ length row) × (w.opened < open_states) × (w.count ≤ 2 * w.at)

-- the same place, of which nothing is counted
abbrev pub uncounted : Stand → Stand
uncounted w = record { at = w.at; mode = w.mode; opened = w.opened; count = 0 }

-- signs lead from one such place to another
abbrev pub LeadsOn : Row → ℕ → Stand → Stand → List Sign → Type 0
LeadsOn row stop v w ss = Leads row stop v.at (number_of v.mode) v.opened w.at (number_of w.mode) w.opened ss

-- WHAT IS READ where signs follow one another alike, behind those that are counted: so many as are read so
pub record Runs (row : Row) (stop : ℕ) (v : Stand) (t t' : List ℕ) (w : Stand) : Type 0 where
  pub signs : List Sign
  pub leads : LeadsOn row stop v w signs
  pub count : w.count ≡ v.count + length (print_of signs)
  pub wrote : Wrote t t' v.count (print_of signs)

-- and each has a cell for itself, so that there is room as before
abbrev pub RoomLeft : ℕ → ℕ → Stand → Type 0
RoomLeft stop room w = Room stop w.at w.count room

-- WHAT READS THEM: the mode is that in which they began, or one of the same run; and what is read is a quick reading, whose sign leaves such a mode and the pairs as they are
abbrev pub Kin : ℕ → ℕ → Type 0
Kin n m = (run_of n ≡ run_of m) × (run_of m ≡ no_run → n ≡ m)

abbrev pub Alike : Row → ℕ → Mode → Stand → std.Option Step → Type 0
Alike row at m w s =
    (s ≡ None)
    ⊎ ((s ≡ step_at row at (number_of m) w.opened)
    × ((x : Step) × (s ≡ Some x) × (x.lead ≡ None) × (x.opened ≡ w.opened) × Kin (number_of x.mode) (number_of w.mode)))

abbrev pub Reads : (ℕ → Mode → Type 0) → (ℕ → Mode → std.Option Step → Type 0) → Row → Stand → Type 0
Reads pre post row w =
    (at : ℕ) (m : Mode) → at < length row → Kin (number_of m) (number_of w.mode)
    → pre at m × ((s : std.Option Step) → post at m s → Alike row at m w s)

-- WHAT A STRETCH FINDS: signs up to a place, or as far as there is room, but one at least; or that no text has the row
pub data Strides (row : Row) (stop : ℕ) (v : Stand) (t t' : List ℕ) : Result Stand NoText → Type 0 where
  strides_on : (ss : List Sign) (w : Stand) → LeadsOn row stop v w ss → (v.at < stop → v.at < w.at) → w.count ≡ v.count + length (print_of ss)
      → Wrote t t' v.count (print_of ss) → Strides row stop v t t' (Ok w)
  strides_nowhere : (k : ℕ) → k ≤ length row → CellsFrom row v.at k → left (number_of v.mode) v.opened (drop v.at row) ≡ none → length t' ≡ length t
      → Strides row stop v t t' (Err (record { cells = k }))

-- WHAT A WALK FINDS over a part of the row, behind the code points that are counted, and what it writes
pub data Goes (row : Row) (stop : ℕ) (v : Stand) (t t' : List ℕ) : Result Stand NoText → Type 0 where
  goes_on : (ss : List Sign) (w : Stand) → LeadsOn row stop v w ss → stop ≤ w.at → w.count ≡ v.count + length (print_of ss) → Wrote t t' v.count (print_of ss)
      → Goes row stop v t t' (Ok w)
  goes_nowhere : (k : ℕ) → k ≤ length row → CellsFrom row v.at k → left (number_of v.mode) v.opened (drop v.at row) ≡ none → length t' ≡ length t
      → Goes row stop v t t' (Err (record { cells = k }))

-- CELLS THAT ARE ONLY COUNTED: of a row whose every byte is a cell
abbrev pub AllCells : Row → Type 0
AllCells row = (i : ℕ) → i < length row → get_or row i 0 ≤ last_cell

-- small letters and signs of one cell, from a place up to another
pub record Alone (row : Row) (at k : ℕ) : Type 0 where
  pub forward : at ≤ k
  pub within : k ≤ length row
  pub alone : (i : ℕ) → at ≤ i → i < k → alone_cell (get_or row i 0) ≡ true

-- none, but in a mode that reads them so and where there is no room
pub record Tallied (row : Row) (v : Stand) (room k : ℕ) : Type 0 where
  pub are : Alone row v.at k
  pub only : v.at < k → (room ≤ v.count) × ((number_of v.mode ≡ free) ⊎ (number_of v.mode ≡ mixed))
