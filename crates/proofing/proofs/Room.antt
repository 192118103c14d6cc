-- How long a printed line is. In order: the signs: 22 bytes for each and four for each code point, and a sign has one or two; a line. Assumes nothing.
use mathlib.Core.List.{List, [], ◌∷◌, ◌++◌}
use mathlib.Core.Path.{ap}
use Prim.Native.Nat.{ℕ, ◌+◌, ◌*◌, ◌≤◌}
use native.Mathlib.Omega.{arith}
use lib.ListN.{length, length-append}
use Rattle.rules.specs.Cells.{Text, Row, print}
use Rattle.rules.specs.Castilian.{castilian}
use Rattle.rules.specs.Signs.{Sign, print_of}
use Rattle.rules.specs.Rows.{signs_of}
use Rattle.rules.specs.Answers.{ReadsAs}
use Rattle.rules.proofs.Castilian.{sane}
use Rattle.rules.proofs.Demands.{signs_join, cell_for_each_sign}
use Rattle.readings.proofs.Print.{points_width}
use Rattle.stepper.proofs.Visiting.{Coded, coded_text}
use Rattle.printing.specs.Printed.{decimal_of, bytes_of_text}
use Rattle.printing.proofs.Lengths.{decimal_few, text_few}
use Rattle.replies.specs.Replies.{line_end, blank}
use Rattle.sign_lines.specs.Signs.{colon, sign_line, sign_lines}
use Rattle.proofing.specs.Claims.{room_for_steps}

-- THE SIGNS
line_few : (place : ℕ) (t : Text) → length (sign_line place t) ≤ 22 + 4 * length t
line_few place t = omega (arith, length-append (blank ∷ decimal_of place) (colon ∷ bytes_of_text t), decimal_few place, text_few t)

lines_few : (place : ℕ) (ss : List Sign) → length (sign_lines place ss) ≤ 22 * length ss + 4 * length (print_of ss)
lines_few place [] = omega arith
lines_few place (s ∷ ss) =
    let next : ℕ = place + length s.taken in
    omega (
      arith,
      length-append (sign_line place s.shown) (sign_lines next ss),
      line_few place s.shown,
      lines_few next ss,
      length-append s.shown (print_of ss),
    )

one_or_two : (ss : List Sign) → Coded ss → (length ss ≤ length (print_of ss)) × (length (print_of ss) ≤ 2 * length ss)
one_or_two [] c = (omega arith, omega arith)
one_or_two (s ∷ ss) c =
    let r = one_or_two ss c.1 in
    let w = points_width c.0.0 c.0.1 in
    let e = ap length c.0.2 in
    let j = length-append s.shown (print_of ss) in
    (omega (arith, r.0, w.0, e, j), omega (arith, r.1, w.1, e, j))

-- A LINE
pub signs_room : (r : Row) (t : Text) → ReadsAs castilian r t
    → let p = print "ok" ++ sign_lines 0 (signs_of castilian t) ++ line_end ∷ [] in (length p ≤ 45 + 30 * length r) × (length p ≤ room_for_steps)
signs_room r t h =
    let ss : List Sign = signs_of castilian t in
    let joins = ap length (signs_join t r h.reads).0 in
    let each = one_or_two ss (coded_text castilian sane t r h.reads) in
    let whole = length-append (print "ok" ++ sign_lines 0 ss) (line_end ∷ []) in
    let front = length-append (print "ok") (sign_lines 0 ss) in
    let few = lines_few 0 ss in
    (omega (arith, few, each.1, whole, front, cell_for_each_sign t r h.reads), omega (arith, few, each.0, joins, whole, front, h.short))
