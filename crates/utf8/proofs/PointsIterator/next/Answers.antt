-- `next`: the code point at the front, and the bytes behind it. Assumes nothing.
use mathlib.Core.Path.{ap}
use native.Mathlib.Omega.{arith}
use lib.ListN.{length}
use Rattle.utf8.proofs.Decoding.{first_decoded}
use Rattle.utf8.proofs.PointsIterator.next.Goals as goal

pub returns-clause-steps : goal.returns-clause-steps
returns-clause-steps c = first_decoded c.args.self.now.bytes.now c.next_at-found.result c.next_at-found.ensures (omega arith)

pub returns-clause-goes : goal.returns-clause-goes
returns-clause-goes c =
    let one = first_decoded c.args.self.now.bytes.now c.next_at-found.result c.next_at-found.ensures (omega arith) in
    record { on = λ h. (tt, tt, omega (arith, ap length one)); keeps = tt; rests = λ h. tt }
