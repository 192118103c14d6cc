-- `encode`: a scalar value by its own bytes, any other number by those of U+FFFD. Assumes nothing.
use mathlib.Core.Path.{sym, ◌∙◌}
use Rattle.encoding.proofs.Encoding.{encoded, scalar_is, other_is, scalar_small}
use Rattle.encoding.proofs.encode.Goals as goal

pub put_bytes-requires : goal.put_bytes-requires
put_bytes-requires c = scalar_small c.args.point (sym c.is_scalar.ensures ∙ c.if-is_scalar.true)

pub returns-then-is_scalar : goal.returns-then-is_scalar
returns-then-is_scalar c =
    let e = encoded c.args.point _ c.args.bytes.now _ _ (scalar_is c.args.point (sym c.is_scalar.ensures ∙ c.if-is_scalar.true)) c.put_bytes.ensures in
    record { encoded = e.0; upper_bound = e.1 }

pub returns : goal.returns
returns c =
    let e = encoded c.args.point _ c.args.bytes.now _ _ (other_is c.args.point (sym c.is_scalar.ensures ∙ c.if-is_scalar.false)) c.put_bytes-2.ensures in
    record { encoded = e.0; upper_bound = e.1 }
