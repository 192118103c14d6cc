-- `point`: the invariant is `Mid`. Assumes nothing.
use native.Mathlib.Omega.{arith}
use Rattle.sequences.proofs.Joining.{mid_start, mid_done, mid_below, mid_above, mid_on}
use Rattle.sequences.proofs.Lead.point.Goals as goal
use Rattle.sequences.proofs.Lead.point.Goals.{then-byte-least-via-then-byte-least, then-byte-least-via-else-byte-least+then-most-byte}

pub loop-byte-init : goal.loop-byte-init
loop-byte-init c = rw c.from-value.ensures (mid_start _ _ _ _ _ c.requires.begun.fitting)

pub returns-then-byte-least : goal.returns-then-byte-least
returns-then-byte-least c =
    elim c.then-byte-least.branch [
      | then-byte-least-via-then-byte-least w ↦ mid_below _ _ _ _ _ _ _ _ _ c.loop-byte.invariant c.loop-byte-test.true c.requires.whole w.if-byte-least.true
      | then-byte-least-via-else-byte-least+then-most-byte w ↦ mid_above _ _ _ _ _ _ _ _ _ c.loop-byte.invariant c.loop-byte-test.true c.requires.whole w.if-most-byte.true
    ]

pub loop-byte-preserved : goal.loop-byte-preserved
loop-byte-preserved c =
    rw c.from.ensures (mid_on _ _ _ _ _ _ _ _ _ c.loop-byte.invariant c.loop-byte-test.true c.requires.whole c.if-byte-least.false c.if-most-byte.false)

pub returns : goal.returns
returns c = mid_done _ _ _ _ _ _ _ _ _ c.loop-byte.invariant (omega (arith, c.loop-byte-test.false, c.requires.whole))
