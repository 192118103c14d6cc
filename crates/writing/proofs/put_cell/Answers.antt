-- `put_cell`: a store at 0 lays a row of one cell (`laid1`). Assumes nothing.
use Rattle.rows.proofs.Laid.{laid1}
use Rattle.writing.proofs.put_cell.Goals as goal

pub returns : goal.returns
returns c = laid1 c.args.cell c.args.row.now c.requires
