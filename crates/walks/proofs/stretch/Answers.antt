-- `stretch`: a sign is a turn, whether it is read as usual or by the inner step, and what follows alike is more of them. Assumes nothing.
use mathlib.Core.Path.{sym, ap, ◌∙◌}
use mathlib.Core.Logic.{inl, ⊎_elim}
use Prim.Native.Nat.{ℕ}
use native.Mathlib.Omega.{arith}
use lib.ListN.{length}
use Rattle.std.specs.declared.option.Option.{Option}
use Rattle.readings.specs.Print.{points}
use Rattle.readings.proofs.Print.{points_width}
use Rattle.walks.specs.Walks.{strides_on}
use Rattle.walks.proofs.Walking.{runs_stands, runs_forward, runs_join, runs_wider, inside_here, turn_here, put_here, word_here, kind_here, usual_here, astray_here}
use Rattle.walks.proofs.stretch.Goals as goal

pub usual-step-requires : goal.usual-step-requires
usual-step-requires c = (omega (arith, inside_here c.loop-at.invariant.0 c.loop-at-test.true c.loop-at.invariant.1 c.requires.1, c.requires.0.0), c.loop-at.invariant.0.leads.opens, kind_here c.loop-at.invariant.0 c.loop-at-test.true c.loop-at.invariant.1 c.requires.1 c.word_of-word.result c.word_of-word.ensures (sym c.is_usual.ensures ∙ c.if-is_usual.true))

pub loop-at-preserved-then-is_usual : goal.loop-at-preserved-then-is_usual
loop-at-preserved-then-is_usual c =
    let u = usual_here c.loop-at.invariant.0 c.loop-at-test.true c.loop-at.invariant.1 c.requires.1 c.word_of-word.result c.word_of-word.ensures (sym c.is_usual.ensures ∙ c.if-is_usual.true) c.usual-step.result c.usual-step.ensures in
    let t = turn_here c.loop-at.invariant.0 c.loop-at-test.true c.loop-at.invariant.1 c.requires.1 c.usual-step.result u.0 in (
      put_here c.loop-at.invariant.0 c.loop-at-test.true c.loop-at.invariant.1 c.requires.1 c.usual-step.result u.0 c.put-count.ensures,
      c.loop-at.invariant.1,
      omega (arith, c.loop-at.invariant.2, t.forward, c.put-count.ensures.0, u.1),
      λ h. inl (omega (arith, runs_forward c.loop-at.invariant.0, t.forward)),
    )

pub sign_at-requires : goal.sign_at-requires
sign_at-requires c = (c.requires.0.0, inside_here c.loop-at.invariant.0 c.loop-at-test.true c.loop-at.invariant.1 c.requires.1, c.loop-at.invariant.0.leads.opens, word_here c.loop-at.invariant.0 c.loop-at-test.true c.loop-at.invariant.1 c.requires.1 c.word_of-word.result c.word_of-word.ensures, sym c.is_usual.ensures ∙ c.if-is_usual.false)

pub returns-in_default : goal.returns-in_default
returns-in_default c = astray_here c.loop-at.invariant.0 c.loop-at-test.true c.loop-at.invariant.1 c.requires.1 (sym c.sign_at.ensures ∙ c.in_default.is)

pub limit_behind-limit-requires : goal.limit_behind-limit-requires
limit_behind-limit-requires c =
    let t = turn_here c.loop-at.invariant.0 c.loop-at-test.true c.loop-at.invariant.1 c.requires.1 c.in-Some.step (sym c.sign_at.ensures ∙ c.in-Some.is) in
    let m = put_here c.loop-at.invariant.0 c.loop-at-test.true c.loop-at.invariant.1 c.requires.1 c.in-Some.step (sym c.sign_at.ensures ∙ c.in-Some.is) c.put-count-else-is_usual.ensures in
    let e = c.put-count-else-is_usual.ensures.0 in (
      c.loop-at.invariant.1,
      omega (arith, c.loop-at.invariant.2, c.loop-at-test.true, t.forward, e, (points_width c.in-Some.step.lead c.in-Some.step.point).1, m.wrote.0),
      omega (arith, t.within, c.requires.0.0),
      omega (arith, m.wrote.0, c.requires.2),
      λ h. omega (arith, c.loop-at.invariant.2, t.forward, e, ap (λ (l : Option ℕ). length (points l c.in-Some.step.point)) h, m.wrote.0),
    )

pub alike-last-requires : goal.alike-last-requires
alike-last-requires c =
    let m = put_here c.loop-at.invariant.0 c.loop-at-test.true c.loop-at.invariant.1 c.requires.1 c.in-Some.step (sym c.sign_at.ensures ∙ c.in-Some.is) c.put-count-else-is_usual.ensures in
    (runs_stands m c.requires.0, omega (arith, c.limit_behind-limit.ensures.0, c.requires.1), c.limit_behind-limit.ensures.1)

pub loop-at-smaller-then-goes_on : goal.loop-at-smaller-then-goes_on
loop-at-smaller-then-goes_on c =
    let t = turn_here c.loop-at.invariant.0 c.loop-at-test.true c.loop-at.invariant.1 c.requires.1 c.in-Some.step (sym c.sign_at.ensures ∙ c.in-Some.is) in
    omega (arith, t.forward, runs_forward c.alike-last.ensures.0, c.alike-last.ensures.0.leads.within)

pub loop-at-preserved-then-goes_on : goal.loop-at-preserved-then-goes_on
loop-at-preserved-then-goes_on c =
    let t = turn_here c.loop-at.invariant.0 c.loop-at-test.true c.loop-at.invariant.1 c.requires.1 c.in-Some.step (sym c.sign_at.ensures ∙ c.in-Some.is) in
    let m = put_here c.loop-at.invariant.0 c.loop-at-test.true c.loop-at.invariant.1 c.requires.1 c.in-Some.step (sym c.sign_at.ensures ∙ c.in-Some.is) c.put-count-else-is_usual.ensures in
    let e = c.limit_behind-limit.ensures in (
      runs_join m (runs_wider c.alike-last.ensures.0 e.0),
      e.0,
      omega (arith, c.alike-last.ensures.1, m.wrote.0),
      λ h. inl (omega (arith, runs_forward c.loop-at.invariant.0, t.forward, runs_forward c.alike-last.ensures.0)),
    )

pub loop-at-smaller : goal.loop-at-smaller
loop-at-smaller c =
    let t = turn_here c.loop-at.invariant.0 c.loop-at-test.true c.loop-at.invariant.1 c.requires.1 c.in-Some.step (sym c.sign_at.ensures ∙ c.in-Some.is) in omega (arith, t.forward, t.within)

pub loop-at-preserved : goal.loop-at-preserved
loop-at-preserved c =
    let t = turn_here c.loop-at.invariant.0 c.loop-at-test.true c.loop-at.invariant.1 c.requires.1 c.in-Some.step (sym c.sign_at.ensures ∙ c.in-Some.is) in
    let m = put_here c.loop-at.invariant.0 c.loop-at-test.true c.loop-at.invariant.1 c.requires.1 c.in-Some.step (sym c.sign_at.ensures ∙ c.in-Some.is) c.put-count-else-is_usual.ensures in
    let e = c.limit_behind-limit.ensures in
    (m, e.0, omega (arith, e.1, m.wrote.0), λ h. inl (omega (arith, runs_forward c.loop-at.invariant.0, t.forward)))

pub returns : goal.returns
returns c =
    let m = c.loop-at.invariant.0 in
    strides_on m.signs _ m.leads (λ h. ⊎_elim (λ k. k) (λ k. omega (arith, k, c.loop-at-test.false)) (c.loop-at.invariant.3 h)) m.count m.wrote
