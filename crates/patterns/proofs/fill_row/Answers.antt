-- `fill_row`: the invariant is `Mid`. Assumes nothing.
use Rattle.patterns.proofs.Patterns.{mid_done}
use Rattle.patterns.proofs.fill_row.Goals as goal

pub returns : goal.returns
returns c = mid_done _ _ _ _ c.loop-i.invariant c.loop-i-test.false c.requires
