-- `unwritten`: what the stretch finds, without what is written. Assumes nothing.
use Rattle.walks.proofs.Walking.{strides_unwritten}
use Rattle.walks.proofs.unwritten.Goals as goal

pub returns : goal.returns
returns c = strides_unwritten _ c.stretch.ensures
