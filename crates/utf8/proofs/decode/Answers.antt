-- `decode`: the invariant is `Mid`. Assumes nothing.
use mathlib.Core.Path.{ap}
use native.Mathlib.Omega.{arith}
use lib.ListN.{length}
use Rattle.utf8.proofs.Decoding.{mid_room, mid_done}
use Rattle.utf8.proofs.decode.Goals as goal

pub overflow_add-count : goal.overflow_add-count
overflow_add-count c = omega (arith, mid_room _ _ _ _ _ c.loop-point.invariant.2 (omega (arith, ap length c.in-Some.ensures.steps)))

pub returns-clause-decoded : goal.returns-clause-decoded
returns-clause-decoded c = (mid_done _ _ _ _ _ c.loop-point.invariant.2 c.in-None.ensures.steps.0).0

pub returns-clause-upper_bound : goal.returns-clause-upper_bound
returns-clause-upper_bound c = (mid_done _ _ _ _ _ c.loop-point.invariant.2 c.in-None.ensures.steps.0).1
