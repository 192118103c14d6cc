-- `stretch`: between two signs, what was read of the part so far, its count and what is written (`Runs`). A sign is a turn, whether it is read as usual or by the
-- inner step. The measure is what is left of the part. Assumes nothing.
use mathlib.Core.Logic.{◌⊎◌}
use Prim.Native.Nat.{◌-◌, ◌≤◌, ◌<◌}
use lib.ListN.{length}
use Rattle.walks.specs.Walks.{Runs, Room}
use Rattle.walks.proofs.stretch.Given as goal

-- there is room for what is read, and something is read
abbrev pub invariant-loop-at : goal.invariant-loop-at
invariant-loop-at l =
    Runs l.row l.stop l.fn.from l.initial.text l.text (record { at = l.at; mode = l.mode; opened = l.opened; count = l.count })
    × (l.limit ≤ l.stop) × Room l.limit l.at l.count (length l.initial.text) × (l.fn.from.at < l.stop → (l.fn.from.at < l.at) ⊎ (l.fn.from.at < l.limit))

abbrev pub decreases-loop-at : goal.decreases-loop-at
decreases-loop-at l = length l.row - l.at
