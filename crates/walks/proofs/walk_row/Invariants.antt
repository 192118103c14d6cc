-- `walk_row`: between two parts, what was read of the row so far, its count and what is written (`Runs`). What is only counted and a walk over a part are both more
-- signs. The measure is what is left of the row. Assumes nothing.
use Prim.Native.Nat.{◌-◌}
use lib.ListN.{length}
use Rattle.walks.specs.Walks.{Runs, a_stand}
use Rattle.walks.proofs.walk_row.Given as goal

abbrev pub invariant-loop-now : goal.invariant-loop-now
invariant-loop-now l = Runs l.row (length l.row) (a_stand 0 0 0 0) l.initial.text l.text l.now

abbrev pub decreases-loop-now : goal.decreases-loop-now
decreases-loop-now l = length l.row - l.now.at
