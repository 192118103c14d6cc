-- `walk`: between two stretches, what was read of the part so far, its count and what is written (`Runs`). A stretch is more signs, whether it is written or only
-- counted (`unwritten_runs`). The measure is what is left of the row. Assumes nothing.
use Prim.Native.Nat.{◌-◌}
use lib.ListN.{length}
use Rattle.walks.specs.Walks.{Runs}
use Rattle.walks.proofs.walk.Given as goal

abbrev pub invariant-loop-at : goal.invariant-loop-at
invariant-loop-at l =
    Runs l.row l.stop l.fn.from l.initial.text l.text (record { at = l.at; mode = l.mode; opened = l.opened; count = l.count })

abbrev pub decreases-loop-at : goal.decreases-loop-at
decreases-loop-at l = length l.row - l.at
