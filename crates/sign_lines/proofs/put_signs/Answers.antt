-- `put_signs`: the invariant is `Walk`, the measure what is left of the row. `turn`: the sign that the step shows is printed, and the walk goes on behind it. Assumes nothing.
use native.Mathlib.Omega.{arith}
use Rattle.sign_lines.proofs.Walk.{walk_start, walk_on, walk_done}
use Rattle.sign_lines.proofs.put_signs.Goals as goal

pub loop-place-init : goal.loop-place-init
loop-place-init c = walk_start c.args.row.now c.args.page.now c.requires

pub loop-place-smaller : goal.loop-place-smaller
loop-place-smaller c =
    let turn = walk_on c.args.row.now c.args.page.now c.loop-place.place c.loop-place.page c.loop-place.invariant c.loop-place-test.true c.desk_step-sign.result c.desk_step-sign.ensures _ c.put_sign.ensures in
    omega (arith, turn.1, turn.2, c.loop-place-test.true)

pub loop-place-preserved : goal.loop-place-preserved
loop-place-preserved c =
    (walk_on c.args.row.now c.args.page.now c.loop-place.place c.loop-place.page c.loop-place.invariant c.loop-place-test.true c.desk_step-sign.result c.desk_step-sign.ensures _ c.put_sign.ensures).0

pub returns-clause-same : goal.returns-clause-same
returns-clause-same c = (walk_done c.args.row.now c.args.page.now c.loop-place.place c.loop-place.page c.loop-place.invariant c.loop-place-test.false).0

pub returns-clause-signs : goal.returns-clause-signs
returns-clause-signs c = (walk_done c.args.row.now c.args.page.now c.loop-place.place c.loop-place.page c.loop-place.invariant c.loop-place-test.false).1
