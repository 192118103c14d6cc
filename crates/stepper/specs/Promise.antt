-- What `step` promises (paper 01, "The proofing screen steps sign by sign .."). Not here: which answer the rules allow (`Screen.Stepped` of the crate `rules`), and
-- which refusal an answer is (`Promise.refusal_of` of the crate `reader`). Assumes nothing.
use Rattle.std.specs.Prelude.{[], ◌≡◌, ℕ, Option, Some, None, Result, Ok, Err}
use Rattle.std.proofs.Math.Option.{some}
use Rattle.rules.specs.Cells.{Row}
use Rattle.rules.specs.Sorts.{Table}
use Rattle.rules.specs.Refusals.{Refusal}
use Rattle.rules.specs.Screen.{shows, stays, Stepped}
use Rattle.readings.specs.Print.{points}
use Rattle.reader.specs.declared.Refusal as reader
use Rattle.reader.specs.Promise.{refusal_of}
use Rattle.stepper.specs.declared.Sign.{Sign}

-- WHAT A STEP SHOWS: the sign that starts at the place, if one does; or why the row is refused
abbrev pub Shown : Type 0
Shown = Result (Option Sign) reader.Refusal

-- THE PROMISE of `step`, of a row and a place: what it shows. (A sign without a lead has one code point, `point`.)
pub data Shows (tb : Table) (r : Row) (place : ℕ) : Shown → Type 0 where
  -- "each step gives the print of the next sign and the place after it"
  sign_there : (s : Sign) → Stepped tb r place (shows (record { points = points s.lead s.point; next = s.next })) → Shows tb r place (Ok (Some s))
  -- "A place at or past the row's end, or one that starts no sign, gives no code point and the same place back."
  no_sign_there : Stepped tb r place (shows (record { points = []; next = place })) → Shows tb r place (Ok None)
  -- "A row that isn't accepted is refused as reading refuses it, but never with 6, and the place stays."
  row_refused : (a : reader.Refusal) (x : Refusal) → refusal_of (Err a) ≡ some x → Stepped tb r place (stays x) → Shows tb r place (Err a)
