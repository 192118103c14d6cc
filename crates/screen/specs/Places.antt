-- The place after what a step showed (paper 01, "The proofing screen steps sign by sign .."). Not here: what a step shows (`Promise.Shows` of the crate
-- `stepper`). Assumes nothing.
use Rattle.std.specs.Prelude.{ℕ, Some, None, Ok, Err}
use Rattle.stepper.specs.Promise.{Shown}

-- "each step gives the print of the next sign and the place after it"; "gives no code point and the same place back"; "is refused .., and the place
-- stays"
abbrev pub place_after : Shown → ℕ → ℕ
place_after (Ok (Some s)) place = s.next
place_after (Ok None) place = place
place_after (Err a) place = place
