-- `fill_row`: the invariant is `Mid`. Assumes nothing.
use Rattle.patterns.proofs.Patterns.{Mid}
use Rattle.patterns.proofs.fill_row.Given as goal

abbrev pub invariant-loop-i : goal.invariant-loop-i
invariant-loop-i l = Mid l.text l.initial.row l.row l.i
