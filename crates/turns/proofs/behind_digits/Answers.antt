-- `behind_digits`: what is asked of the first place is asked of each place that is reached, since a digit leaves it open, and past the end no form goes on.
-- Assumes nothing.
use mathlib.Core.Path.{sym, ◌∙◌}
use native.Mathlib.Omega.{arith}
use Rattle.rules.specs.Castilian.{castilian}
use Rattle.turns.proofs.Ahead.{zero_unlisted, form_on, form_at, form_past}
use Rattle.turns.proofs.behind_digits.Goals as goal

pub returns-then-not-is_digit : goal.returns-then-not-is_digit
returns-then-not-is_digit c =
    c.loop-place.invariant ∙ form_at castilian zero_unlisted c.args.text.now c.loop-place.place (sym c.is_digit.ensures ∙ c.if-not-is_digit.true)

pub loop-place-preserved : goal.loop-place-preserved
loop-place-preserved c =
    c.loop-place.invariant ∙ form_on castilian zero_unlisted c.args.text.now c.loop-place.place (sym c.is_digit.ensures ∙ c.if-not-is_digit.false)

pub returns : goal.returns
returns c =
    c.loop-place.invariant ∙ form_past castilian zero_unlisted c.args.text.now c.loop-place.place (omega (arith, c.loop-place-test.false))
