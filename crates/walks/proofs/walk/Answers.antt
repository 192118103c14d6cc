-- `walk`: a stretch is more signs, whether it is written or only counted. Assumes nothing.
use Prim.Native.Nat.{zero-le}
use native.Mathlib.Omega.{arith}
use Rattle.std.proofs.lemmas.Result.{err_from_is_err_and}
use Rattle.walks.specs.Walks.{goes_on}
use Rattle.walks.proofs.Walking.{runs_few, runs_stands, runs_strayed, runs_uncounted, runs_join, strides_runs, unwritten_runs}
use Rattle.walks.proofs.walk.Goals as goal

pub stretch-requires : goal.stretch-requires
stretch-requires c = (runs_stands c.loop-at.invariant c.requires.0, c.requires.1, omega (arith, c.loop-at.invariant.wrote.0, c.requires.2), c.if-count-text.true)

pub returns-in_err-next : goal.returns-in_err-next
returns-in_err-next c =
    let p = err_from_is_err_and c.from_residual.result c.from_residual.ensures.1 in
    rw (p.1, p.2) (runs_strayed c.loop-at.invariant c.in_err-next.ensures)

pub unwritten-requires : goal.unwritten-requires
unwritten-requires c = let h = runs_stands c.loop-at.invariant c.requires.0 in ((h.0, h.1, h.2, zero-le), c.requires.1)

pub returns-in_err-read : goal.returns-in_err-read
returns-in_err-read c =
    let p = err_from_is_err_and c.from_residual-in_err-read.result c.from_residual-in_err-read.ensures.1 in
    rw (p.1, p.2) (runs_uncounted c.loop-at.invariant c.in_err-read.ensures)

pub overflow_add-next : goal.overflow_add-next
overflow_add-next c =
    let m = runs_join c.loop-at.invariant (unwritten_runs (record { at = c.loop-at.at; mode = c.loop-at.mode; opened = c.loop-at.opened; count = c.loop-at.count }) c.in_ok-read.read c.loop-at.text c.if-count-text.false c.in_ok-read.ensures).0 in
    omega (arith, runs_few m c.requires.0.3, m.leads.within, c.requires.0.0)

pub loop-at-preserved-in_ok-next : goal.loop-at-preserved-in_ok-next
loop-at-preserved-in_ok-next c = (runs_join c.loop-at.invariant (strides_runs c.in_ok-next.ensures).0)

pub loop-at-preserved : goal.loop-at-preserved
loop-at-preserved c =
    runs_join c.loop-at.invariant
    (unwritten_runs (record { at = c.loop-at.at; mode = c.loop-at.mode; opened = c.loop-at.opened; count = c.loop-at.count }) c.in_ok-read.read c.loop-at.text c.if-count-text.false c.in_ok-read.ensures).0

pub returns : goal.returns
returns c = goes_on c.loop-at.invariant.signs _ c.loop-at.invariant.leads c.loop-at-test.false c.loop-at.invariant.count c.loop-at.invariant.wrote
