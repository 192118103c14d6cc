-- `mode_behind`: the bit of a letter tells the mode behind a cell that is alone. Assumes nothing.
use Rattle.signs.proofs.Cases.{behind_letter, behind_sign}
use Rattle.signs.proofs.mode_behind.Goals as goal

pub returns-then-cell-eq1 : goal.returns-then-cell-eq1
returns-then-cell-eq1 c = behind_letter c.args.cell c.requires.0 c.requires.1 c.if-cell-eq1.true

pub returns-else-cell-eq1 : goal.returns-else-cell-eq1
returns-else-cell-eq1 c = behind_sign c.args.cell c.requires.0 c.requires.1 c.if-cell-eq1.false
