-- `tally`: each cell that is only counted is a turn (`tallied_runs`), and the last says the mode. Assumes nothing.
use mathlib.Core.Path.{refl}
use Rattle.walks.proofs.Walking.{tallied_runs}
use Rattle.walks.proofs.tally.Goals as goal

pub returns : goal.returns
returns c = tallied_runs c.args.row.now c.requires.1 c.args.from.at c.args.from.opened c.requires.0.2 c.args.from refl refl _ _ c.args.room c.behind_tallied-end.ensures c.if-end-from.false c.mode_behind.ensures
