-- `hold`: where there is room the byte is stored behind what is held. Assumes nothing.
use Rattle.lines.proofs.Held.{hold_there}
use Rattle.lines.proofs.hold.Goals as goal

pub returns-then-held-line : goal.returns-then-held-line
returns-then-held-line c = hold_there c.args.line.now c.args.held c.args.byte c.if-held-line.true
