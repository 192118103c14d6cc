-- `run_rows::short_rows::of_one_cell` is safe. The invariant: no more rows are counted than cells are passed. Assumes nothing.
use Rattle.std.proofs.Common.{◌≤◌}
use Rattle.run_rows.proofs.short_rows.of_one_cell.Given as goal

abbrev pub invariant-loop-cell : goal.invariant-loop-cell
invariant-loop-cell g l = l.count ≤ l.cell
