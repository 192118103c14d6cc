-- `run_rows::short_texts::find_signs` is safe. The invariant: no more code points are put than there is room for. Assumes nothing.
use Rattle.std.proofs.Common.{◌≤◌, length}
use Rattle.run_rows.proofs.short_texts.find_signs.Given as goal

abbrev pub invariant-loop-point : goal.invariant-loop-point
invariant-loop-point l = l.count ≤ length l.points
