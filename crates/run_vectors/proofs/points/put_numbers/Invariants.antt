-- `run_vectors::points::put_numbers` is safe. The invariant: no more code points are put than there is room for. Assumes nothing.
use Rattle.std.proofs.Common.{◌≤◌, length}
use Rattle.run_vectors.proofs.points.put_numbers.Given as goal

abbrev pub invariant-loop-number : goal.invariant-loop-number
invariant-loop-number l =
    (goal.iterator-loop-number).can_next l.number-iterator × (goal.iterator-loop-number).is_finite l.number-iterator × (l.count ≤ length l.out)
