-- `put_sign`: four or five parts, each behind the one before. Assumes nothing.
use native.Mathlib.Omega.{arith}
use Rattle.sign_lines.proofs.Signs.{sign_one, sign_two}
use Rattle.sign_lines.proofs.put_sign.Goals as goal

pub returns-then-sign-ge2 : goal.returns-then-sign-ge2
returns-then-sign-ge2 c =
    sign_two c.args.place c.args.sign c.args.page.now _ _ _ _ c.byte.ensures c.number.ensures c.byte-2.ensures c.point.ensures (omega (arith, c.if-sign-ge2.true)) _ c.point-then-sign-ge2.ensures

pub returns-else-sign-ge2 : goal.returns-else-sign-ge2
returns-else-sign-ge2 c = sign_one c.args.place c.args.sign c.args.page.now _ _ _ _ c.byte.ensures c.number.ensures c.byte-2.ensures c.point.ensures (omega (arith, c.if-sign-ge2.false))
