-- `behind_digits`: what is asked of the first place is asked of each place that is reached, since a digit leaves it open. Assumes nothing.
use mathlib.Core.Path.{◌≡◌}
use Rattle.rules.specs.Castilian.{castilian}
use Rattle.rules.proofs.Sides.{form_next}
use Rattle.turns.specs.Ahead.{future_at}
use Rattle.turns.proofs.behind_digits.Given as goal

abbrev pub invariant-loop-place : goal.invariant-loop-place
invariant-loop-place l = form_next (future_at castilian l.text l.from) ≡ form_next (future_at castilian l.text l.place)
