-- `normal::stops_in` meets its contract. The loop's invariant: the count is below `i`, so a print that is not longer than the greatest count cannot make it
-- wrap, and the count with that of what is still to come, behind the code point before `i`, is the whole count. Assumes nothing.
use mathlib.Core.Path.{◌≡◌}
use Prim.Native.Nat.{◌+◌, ◌-◌, ◌≤◌}
use lib.ListN.{drop, get_or}
use Rattle.rules.specs.Normal.{is_digit_point}
use Rattle.normal.specs.Counts.{stops_after, stops_in}
use Rattle.normal.proofs.stops_in.Given as goal

abbrev pub invariant-loop-i : goal.invariant-loop-i
invariant-loop-i l =
    (1 ≤ l.i) × (l.count ≤ l.i) × (l.count + stops_after (is_digit_point (get_or l.print (l.i - 1) 0)) (drop l.i l.print) ≡ stops_in l.print)
