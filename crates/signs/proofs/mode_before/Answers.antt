-- `mode_before`: past the modes Lone for Owing (`before_owing`), and any other for itself (`before_other`). Assumes nothing.
use mathlib.Core.Path.{sym, ap, ◌∙◌}
use Prim.Native.Nat.{ℕ}
use native.Mathlib.Omega.{arith}
use Rattle.readings.specs.Modes.{number_of, mode_at}
use Rattle.readings.specs.Readings.{capital_by}
use Rattle.readings.proofs.Numbers.{number_back, mode_back}
use Rattle.signs.proofs.Cases.{before_owing, before_other}
use Rattle.signs.proofs.mode_before.Goals as goal

pub returns-then-number-lt-MODE_PLACES : goal.returns-then-number-lt-MODE_PLACES
returns-then-number-lt-MODE_PLACES c y z =
    ap (λ (n : ℕ). capital_by n y z) (ap number_of c.mode_at.ensures ∙ number_back c.args.number c.if-number-lt-MODE_PLACES.true)

pub returns-in-Owing : goal.returns-in-Owing
returns-in-Owing c y z = before_owing c.args.number c.mode_at-2.result c.mode_at-2.ensures (omega (arith, c.if-number-lt-MODE_PLACES.false)) y z (ap number_of c.in-Owing.is)

pub returns-in_default : goal.returns-in_default
returns-in_default c y z =
    before_other c.args.number c.mode_at-2.result c.mode_at-2.ensures (omega (arith, c.if-number-lt-MODE_PLACES.false)) y z
    (λ e. c.in_default.not-Owing (sym (mode_back c.mode_at-2.result) ∙ ap mode_at e))
