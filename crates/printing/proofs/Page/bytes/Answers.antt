-- `Page::bytes`: what is still to come makes the whole. Assumes nothing.
use Rattle.printing.proofs.Printed.{mid_on, mid_done, rest_on, rest_none}
use Rattle.printing.proofs.Page.bytes.Goals as goal

pub loop-byte-preserved : goal.loop-byte-preserved
loop-byte-preserved c =
    mid_on c.args.self.now c.args.bytes.now _ _ c.loop-byte.invariant _ _ _ (rest_on c.args.bytes.now c.loop-byte.byte-index 0 c.loop-byte-test.true) c.byte.ensures

pub returns : goal.returns
returns c = mid_done c.args.self.now c.args.bytes.now _ _ c.loop-byte.invariant (rest_none c.args.bytes.now c.loop-byte.byte-index c.loop-byte-test.false)
