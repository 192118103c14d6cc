-- `digit_follows`: what stands directly at a place is told by its code point (`digit_at`). Assumes nothing.
use mathlib.Core.Path.{sym, ap, ◌∙◌}
use Prim.Native.Nat.{ℕ}
use Rattle.rules.specs.Castilian.{castilian}
use Rattle.rules.specs.Sorts.{class, is_digit}
use Rattle.rules.specs.Rows.{sort_in}
use Rattle.turns.proofs.Ahead.{zero_unlisted, digit_at}
use Rattle.turns.proofs.digit_follows.Goals as goal

pub returns : goal.returns
returns c =
    c.before.is_digit.ensures
    ∙ ap (λ (n : ℕ). is_digit (class (sort_in castilian n))) c.before.before.point_at.ensures
    ∙ sym (digit_at castilian zero_unlisted c.before.before.before.before.args.text.now c.before.before.before.before.args.place)
