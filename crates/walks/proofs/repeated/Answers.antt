-- `repeated`: each sign is a turn of the walk, in a mode of the same run, of one code point, for which there is room. Assumes nothing.
use mathlib.Core.Path.{refl}
use native.Mathlib.Omega.{arith}
use Rattle.walks.proofs.Walking.{runs_put, again_turn, runs_again}
use Rattle.walks.proofs.repeated.Goals as goal

pub put-count-requires : goal.put-count-requires
put-count-requires g c = runs_put c.loop-at.invariant.0 c.requires.0 c.args.stop c.loop-at.invariant.1 c.loop-at-test.true

pub loop-at-smaller : goal.loop-at-smaller
loop-at-smaller g c = let t = again_turn c.loop-at.invariant.0 c.loop-at-test.true c.requires.1 refl c.loop-at.invariant.2 c.requires.3 c.next.ensures c.in-Some.step c.in-Some.is in omega (arith, t.0.forward, t.0.within)

pub loop-at-preserved : goal.loop-at-preserved
loop-at-preserved g c = runs_again c.loop-at.invariant.0 c.loop-at-test.true c.requires.1 refl c.loop-at.invariant.2 c.requires.3 c.next.ensures c.in-Some.step c.in-Some.is _ c.loop-at.invariant.1 c.put-count.ensures
