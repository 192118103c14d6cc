-- `is_among`: a byte that is no cell is among nothing. Assumes nothing.
use mathlib.Core.Path.{refl}
use native.Mathlib.Omega.{arith}
use Rattle.signs.proofs.Cases.{high_among, low_among}
use Rattle.signs.proofs.is_among.Goals as goal

pub returns-then-cell-gt-LAST_CELL : goal.returns-then-cell-gt-LAST_CELL
returns-then-cell-gt-LAST_CELL c = high_among c.args.these c.args.cell (omega (arith, c.if-cell-gt-LAST_CELL.true))

pub returns : goal.returns
returns c = low_among c.args.these c.args.cell (omega (arith, c.if-cell-gt-LAST_CELL.false)) _ refl
