-- `decode`: the invariant is `Mid`. Assumes nothing.
use Rattle.utf8.proofs.Decoding.{Mid}
use Rattle.utf8.proofs.decode.Given as goal

abbrev pub invariant-loop-point : goal.invariant-loop-point
invariant-loop-point l =
    (goal.iterator-loop-point).can_next l.point-iterator ×
    (goal.iterator-loop-point).is_finite l.point-iterator ×
    Mid l.fn.bytes l.initial.text l.text l.point-iterator.bytes.now l.count
