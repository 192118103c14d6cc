-- `walk_row`: what is only counted and a walk over a part are both more signs. Assumes nothing.
use mathlib.Core.Path.{refl, ◌∙◌}
use mathlib.Core.Logic.{⊎_elim}
use Prim.Native.Nat.{zero-le}
use native.Mathlib.Omega.{arith}
use lib.ListN.{length}
use Rattle.rules.proofs.Finite.{le_or_lt}
use Rattle.walks.specs.Walks.{goes_on, goes_nowhere}
use Rattle.walks.proofs.Walking.{leads_nowhere, runs_stands, runs_forward, runs_join, runs_wider, goes_runs, goes_lost}
use Rattle.walks.proofs.walk_row.Goals as goal

pub tally-near-requires : goal.tally-near-requires
tally-near-requires c = (runs_stands c.loop-now.invariant (c.requires.0, zero-le, omega arith, zero-le), c.requires.1)

pub walk-requires : goal.walk-requires
walk-requires c = (runs_stands (runs_join c.loop-now.invariant (c.tally-near.ensures c.loop-now.text refl)) (c.requires.0, zero-le, omega arith, zero-le), c.part_end-stop.ensures.0, omega (arith, c.loop-now.invariant.wrote.0, c.requires.2))

pub returns-in_default : goal.returns-in_default
returns-in_default c =
    let near = runs_join c.loop-now.invariant (c.tally-near.ensures c.loop-now.text refl) in
    let h = goes_lost c.in_default.ensures in
    goes_nowhere (length c.args.row.now) (omega arith) (λ i a b. c.requires.1 i b) (leads_nowhere near.leads h.0) (h.1 ∙ c.loop-now.invariant.wrote.0)

pub loop-now-smaller : goal.loop-now-smaller
loop-now-smaller c =
    let near = runs_forward (c.tally-near.ensures c.loop-now.text refl) in
    let m = goes_runs c.in-Ok.ensures in
    ⊎_elim (λ h. omega (arith, near, runs_forward m.0, h, c.loop-now-test.true))
    (λ h. omega (arith, near, c.part_end-stop.ensures.2 h, m.1, c.loop-now-test.true)) (le_or_lt (length c.args.row.now) c.tally-near.result.at)

pub loop-now-preserved : goal.loop-now-preserved
loop-now-preserved c = runs_join (runs_join c.loop-now.invariant (c.tally-near.ensures c.loop-now.text refl)) (runs_wider (goes_runs c.in-Ok.ensures).0 c.part_end-stop.ensures.0)

pub returns : goal.returns
returns c = goes_on c.loop-now.invariant.signs _ c.loop-now.invariant.leads c.loop-now-test.false c.loop-now.invariant.count c.loop-now.invariant.wrote
