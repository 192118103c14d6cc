-- `cell_at`: the cell at a place, and `no_cell` past the end or where the byte is none. Assumes nothing.
use Rattle.signs.proofs.Cases.{cell_low, cell_high, cell_past}
use Rattle.signs.proofs.cell_at.Goals as goal

pub returns-then-cell-le-LAST_CELL : goal.returns-then-cell-le-LAST_CELL
returns-then-cell-le-LAST_CELL c = cell_low c.args.row.now c.args.place c.if-place-row.true c.if-cell-le-LAST_CELL.true

pub returns-else-cell-le-LAST_CELL : goal.returns-else-cell-le-LAST_CELL
returns-else-cell-le-LAST_CELL c = cell_high c.args.row.now c.args.place c.if-place-row.true c.if-cell-le-LAST_CELL.false

pub returns-else-place-row : goal.returns-else-place-row
returns-else-place-row c = cell_past c.args.row.now c.args.place c.if-place-row.false
