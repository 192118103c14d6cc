-- `point`: the invariant is `Mid`. Assumes nothing.
use Prim.Native.Nat.{◌-◌}
use Rattle.sequences.proofs.Joining.{Mid}
use Rattle.sequences.proofs.Lead.point.Given as goal

abbrev pub invariant-loop-byte : goal.invariant-loop-byte
invariant-loop-byte l = Mid l.later l.fn.self.later l.fn.self.least l.fn.self.most (l.fn.first - l.fn.self.mark) l.byte-index l.least l.most l.value
