-- `sign`: the mode is that of its number. Assumes nothing.
use mathlib.Core.Path.{sym, ap}
use Rattle.std.specs.Prelude.{None}
use Rattle.readings.specs.declared.Mode.{Mode}
use Rattle.readings.proofs.Numbers.{mode_back}
use Rattle.signs.proofs.sign.Goals as goal

pub returns : goal.returns
returns c = ap (λ (m : Mode). record { lead = None; point = c.args.point; next = c.args.next; mode = m; opened = c.args.opened }) (sym (mode_back c.args.mode))
