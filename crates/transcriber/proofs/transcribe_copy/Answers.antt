-- `transcribe_copy`: a code point becomes three at most (`normal_length`), so either array has room for a text that is not too long. Assumes nothing.
use native.Mathlib.Omega.{arith}
use Rattle.rules.proofs.Normal.{normal_length}
use Rattle.transcriber.proofs.transcribe_copy.Goals as goal

pub transcribe_with-requires : goal.transcribe_with-requires
transcribe_with-requires c = (λ l. omega (arith, normal_length c.args.print.now), omega arith)
