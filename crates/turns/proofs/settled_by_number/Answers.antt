-- `settled_by_number`: a number that is no question's stays as it is. Assumes nothing.
use mathlib.Core.Logic.{inl}
use Rattle.rules.specs.Castilian.{castilian}
use Rattle.deeds.proofs.Machine.{settled_else}
use Rattle.turns.specs.Ahead.{future_at}
use Rattle.turns.proofs.settled_by_number.Goals as goal

pub returns-in_default : goal.returns-in_default
returns-in_default c =
    let none = c.in_default.in_default-own.rest in
    inl (settled_else c.args.deed (future_at castilian c.args.text.now c.args.next) none.0.0.0.1 none.0.0.1 none.0.1 none.1)
