-- `normal::ellipses_in` meets its contract. The loop's invariant: the count is at most the index, so a print that is not longer than the greatest count cannot
-- make it wrap, and the count with that of what is still to come is the whole count. Assumes nothing.
use mathlib.Core.Path.{◌≡◌}
use Prim.Native.Nat.{◌+◌, ◌≤◌}
use lib.ListN.{drop}
use Rattle.normal.specs.Counts.{ellipses_in}
use Rattle.normal.proofs.ellipses_in.Given as goal

abbrev pub invariant-loop-point : goal.invariant-loop-point
invariant-loop-point l = (l.count ≤ l.point-index) × (l.count + ellipses_in (drop l.point-index l.print) ≡ ellipses_in l.print)
