-- `behind_alone`: every cell before the place is a small letter or a sign of one cell. Assumes nothing.
use Rattle.walks.specs.Walks.{Alone}
use Rattle.walks.proofs.behind_alone.Given as goal

abbrev pub invariant-loop-at : goal.invariant-loop-at
invariant-loop-at l = Alone l.row l.from l.at
