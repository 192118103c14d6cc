-- `repeated`: each sign is a turn of the walk (`Runs`), in the mode in which they began or one of the same run, and of one code point, for which there is room. The measure is what
-- is left of the row. Assumes nothing.
use Prim.Native.Nat.{◌-◌}
use lib.ListN.{length}
use Rattle.readings.specs.Modes.{number_of}
use Rattle.walks.specs.Walks.{Runs, Room, Kin}
use Rattle.walks.proofs.repeated.Given as goal

abbrev pub invariant-loop-at : goal.invariant-loop-at
invariant-loop-at g l =
    Runs l.row l.stop l.from l.initial.text l.text (record { at = l.at; mode = l.mode; opened = l.from.opened; count = l.count })
    × Room l.stop l.at l.count (length l.initial.text) × Kin (number_of l.mode) (number_of l.from.mode)

abbrev pub decreases-loop-at : goal.decreases-loop-at
decreases-loop-at g l = length l.row - l.at
