-- `run_rows::short_rows::of_two_cells` is safe. The invariants: no more rows are counted than pairs of cells are passed. Assumes nothing.
use Rattle.std.proofs.Common.{◌+◌, ◌*◌, ◌<◌, ◌≤◌}
use Rattle.run_rows.proofs.short_rows.of_two_cells.Given as goal

abbrev pub invariant-loop-first : goal.invariant-loop-first
invariant-loop-first g l = l.count ≤ 64 * l.first

abbrev pub invariant-loop-second : goal.invariant-loop-second
invariant-loop-second g l = (l.first < 64) × (l.count ≤ 64 * l.first + l.second)
