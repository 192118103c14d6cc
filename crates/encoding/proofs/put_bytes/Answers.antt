-- `put_bytes`: by how many bytes it takes; four of them one store behind another. Assumes nothing.
use mathlib.Core.Path.{refl}
use native.Mathlib.Omega.{arith}
use Rattle.encoding.proofs.Encoding.{one_byte, two_bytes, three_bytes, four_bytes, wrote_as, wrote_four}
use Rattle.encoding.proofs.put_bytes.Goals as goal

pub returns-in-0-to-127 : goal.returns-in-0-to-127
returns-in-0-to-127 c = wrote_as (one_byte c.args.point (omega arith)) c.put.ensures

pub returns-in-0-to-2047 : goal.returns-in-0-to-2047
returns-in-0-to-2047 c = wrote_as (rw c.later_byte.ensures (two_bytes c.args.point (omega arith) (omega arith))) c.put-in-0-to-2047.ensures

pub returns-in-0-to-65535 : goal.returns-in-0-to-65535
returns-in-0-to-65535 c =
    wrote_as (rw (c.later_byte-in-0-to-65535.ensures, c.later_byte-in-0-to-65535-2.ensures) (three_bytes c.args.point (omega arith) (omega arith))) c.put-in-0-to-65535.ensures

pub returns-in_default : goal.returns-in_default
returns-in_default c =
    rw c.put-in_default.ensures.count
    (wrote_four _ c.args.bytes.now _ _ _ _ _ _ _ _ refl refl refl c.put-in_default.ensures.stored
    (rw (c.later_byte-in_default.ensures, c.later_byte-in_default-2.ensures, c.later_byte-in_default-3.ensures) (four_bytes c.args.point (omega arith))))
