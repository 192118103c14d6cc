-- `take_in`: the loop's invariant is that whatever is taken in from the place on, behind what is then held, is what is taken in from the start.
-- Assumes nothing.
use Rattle.lines.proofs.Held.{takes_none, takes_end, takes_byte}
use Rattle.lines.proofs.take_in.Goals as goal

pub returns-then-byte-eq-LINE_END-clause-takes : goal.returns-then-byte-eq-LINE_END-clause-takes
returns-then-byte-eq-LINE_END-clause-takes c =
    c.loop-passed.invariant _ _ (takes_end _ _ _ _ c.get.ensures.lookup c.unwrap_or_default-rest.ensures _ _ _ c.loop-passed-test.true c.if-byte-eq-LINE_END.true)

pub loop-passed-preserved : goal.loop-passed-preserved
loop-passed-preserved c = λ t new p.
    c.loop-passed.invariant t new
    (takes_byte _ _ _ _ c.get.ensures.lookup c.unwrap_or_default-rest.ensures _ _ _ c.loop-passed-test.true c.if-byte-eq-LINE_END.false _ _ c.hold-count.ensures t new p)

pub returns-clause-takes : goal.returns-clause-takes
returns-clause-takes c =
    c.loop-passed.invariant _ _ (takes_none _ _ _ _ c.get.ensures.lookup c.unwrap_or_default-rest.ensures _ _ _ c.loop-passed-test.false c.loop-passed.auto.passed-end)
