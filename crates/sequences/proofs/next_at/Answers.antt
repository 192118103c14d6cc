-- `next_at`: the sequence there, or one byte outside any. Assumes nothing.
use mathlib.Core.Path.{refl}
use Rattle.sequences.proofs.Sequences.{next_here}
use Rattle.sequences.proofs.next_at.Goals as goal

pub returns : goal.returns
returns c = next_here c.args.bytes.now c.args.at _ c.requires refl c.sequence_at.result _ _ c.sequence_at.ensures c.unwrap_or.ensures (refl, refl)
