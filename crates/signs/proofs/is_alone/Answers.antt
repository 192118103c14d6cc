-- `is_alone`: its bit tells that a cell is alone. Assumes nothing.
use Rattle.signs.proofs.Cases.{alone_told}
use Rattle.signs.proofs.is_alone.Goals as goal

pub returns : goal.returns
returns c = alone_told c.args.cell c.requires
