-- `normal::put_points` meets its contract: what is stored from the front on is what the code point becomes (`stop_before`, `three_stops`, `no_stop`), and there is
-- room for it. Assumes nothing.
use mathlib.Core.Path.{refl, ap, ◌∙◌}
use Prim.Native.Nat.{◌≤◌}
use native.Mathlib.Omega.{arith}
use lib.ListN.{length, length-set}
use Rattle.rows.proofs.Laid.{laid1, laid2, laid3}
use Rattle.normal.proofs.Becoming.{stop_before, no_stop, three_stops, one}
use Rattle.normal.proofs.put_points.Goals as goal

pub returns-then-gets_stop : goal.returns-then-gets_stop
returns-then-gets_stop c =
    let are = stop_before c.args.after_digit c.args.point _ c.gets_stop.ensures c.if-gets_stop.true in
    let room : 2 ≤ length c.args.text.now = omega (arith, ap length are) in
    rw are (refl, laid2 _ _ c.args.text.now room)

pub bounds-text-0-then-point-eq-ELLIPSIS : goal.bounds-text-0-then-point-eq-ELLIPSIS
bounds-text-0-then-point-eq-ELLIPSIS c =
    omega (arith, ap length (three_stops c.args.after_digit c.args.point _ c.gets_stop.ensures c.if-gets_stop.false c.if-point-eq-ELLIPSIS.true))

pub bounds-text-1-then-point-eq-ELLIPSIS : goal.bounds-text-1-then-point-eq-ELLIPSIS
bounds-text-1-then-point-eq-ELLIPSIS c =
    simp length-set
    (omega (arith, ap length (three_stops c.args.after_digit c.args.point _ c.gets_stop.ensures c.if-gets_stop.false c.if-point-eq-ELLIPSIS.true)))

pub bounds-text-2 : goal.bounds-text-2
bounds-text-2 c =
    simp length-set
    (omega (arith, ap length (three_stops c.args.after_digit c.args.point _ c.gets_stop.ensures c.if-gets_stop.false c.if-point-eq-ELLIPSIS.true)))

pub returns-then-point-eq-ELLIPSIS : goal.returns-then-point-eq-ELLIPSIS
returns-then-point-eq-ELLIPSIS c =
    let are = three_stops c.args.after_digit c.args.point _ c.gets_stop.ensures c.if-gets_stop.false c.if-point-eq-ELLIPSIS.true in
    let room : 3 ≤ length c.args.text.now = omega (arith, ap length are) in
    rw are (refl, laid3 _ _ _ c.args.text.now room)

pub replacement-requires : goal.replacement-requires
replacement-requires c = one c.args.point c.if-point-eq-ELLIPSIS.false

pub returns-else-point-eq-ELLIPSIS : goal.returns-else-point-eq-ELLIPSIS
returns-else-point-eq-ELLIPSIS c =
    let are = no_stop c.args.after_digit c.args.point _ c.gets_stop.ensures c.if-gets_stop.false ∙ c.replacement.ensures in
    let room : 1 ≤ length c.args.text.now = omega (arith, ap length are) in
    rw are (refl, laid1 _ c.args.text.now room)
