-- `take_in`: the loop's invariant is that whatever is taken in from the place on, behind what is then held, is what is taken in from the start.
-- Assumes nothing.
use mathlib.Core.List.{List}
use Prim.Native.Nat.{ℕ, ◌+◌}
use Rattle.lines.specs.Held.{TakesIn}
use Rattle.lines.specs.declared.Taken.{Taken}
use Rattle.lines.proofs.take_in.Given as goal

abbrev pub invariant-loop-passed : goal.invariant-loop-passed
invariant-loop-passed l = (t : Taken) (new : List ℕ) → TakesIn l.bytes (l.from + l.passed) l.line l.count t new → TakesIn l.bytes l.from l.initial.line l.held t new
