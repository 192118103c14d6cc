-- `put_signs`: the invariant is `Walk`, the measure what is left of the row. Assumes nothing.
use Prim.Native.Nat.{◌-◌}
use lib.ListN.{length}
use Rattle.sign_lines.proofs.Walk.{Walk}
use Rattle.sign_lines.proofs.put_signs.Given as goal

abbrev pub invariant-loop-place : goal.invariant-loop-place
invariant-loop-place l = Walk l.row l.initial.page l.place l.page

abbrev pub decreases-loop-place : goal.decreases-loop-place
decreases-loop-place l = length l.row - l.place
