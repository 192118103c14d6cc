-- `turned`: the code's bit is the power of two, and the exclusive or with it turns the kind (proofs/Pairing.antt). Assumes nothing.
use Rattle.pairs.proofs.Pairing.{bit_turned}
use Rattle.pairs.proofs.turned.Goals as goal

pub returns : goal.returns
returns c = bit_turned c.args.opened c.args.kind c.requires.0 c.requires.1
