-- `run_rows::dots::put_cells` is safe. The invariant: no more cells are put than there is room for. Assumes nothing.
use Rattle.std.proofs.Common.{◌≤◌, length}
use Rattle.run_rows.proofs.dots.put_cells.Given as goal

abbrev pub invariant-loop-dots : goal.invariant-loop-dots
invariant-loop-dots l =
    (goal.iterator-loop-dots).can_next l.dots-iterator × (goal.iterator-loop-dots).is_finite l.dots-iterator × (l.count ≤ length l.row)
