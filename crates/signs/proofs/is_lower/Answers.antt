-- `is_lower`: the cells of the lower digits are those that have one. Assumes nothing.
use mathlib.Core.Path.{◌∙◌}
use Rattle.signs.proofs.Cases.{lower_told}
use Rattle.signs.proofs.is_lower.Goals as goal

pub returns : goal.returns
returns c = c.is_among.ensures ∙ lower_told c.args.cell
