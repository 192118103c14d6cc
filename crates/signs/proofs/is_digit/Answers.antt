-- `is_digit`: the cells of the digits are those that have one. Assumes nothing.
use mathlib.Core.Path.{◌∙◌}
use Rattle.signs.proofs.Cases.{digit_told}
use Rattle.signs.proofs.is_digit.Goals as goal

pub returns : goal.returns
returns c = c.is_among.ensures ∙ digit_told c.args.cell
