-- `read_cell`: the look-up says what the cell is alone, and so whether the row has a text (`one_none`, `one_alone`). Assumes nothing.
use mathlib.Core.Path.{◌≡◌, refl, sym, ap, ◌∙◌}
use mathlib.Core.List.{List, [], ◌∷◌}
use Prim.Native.Nat.{ℕ, ◌<◌}
use native.Mathlib.Omega.{arith}
use mathlib.Core.Bool.{false}
use lib.Dec.{eqb}
use lib.ListN.{length, set}
use borrow.Author.Tests.{eqb-true, eqb-false}
use Rattle.rules.specs.Cells.{Text}
use Rattle.rules.specs.Signs.{print_of}
use Rattle.rows.specs.Laid.{laid}
use Rattle.reader.proofs.OneCell.{none_shown, alone_shown, lone_print, lone_told}
use Rattle.reader.proofs.Answering.{unread_from_front, accepted, settle_cramped, read_not_settled, read_text}
use Rattle.reader.proofs.read_cell.Goals as goal

-- the cell is nothing alone
pub unread-requires : goal.unread-requires
unread-requires c =
    unread_from_front c.args.row.now (omega (arith, c.requires))
    (none_shown c.args.row.now c.requires (sym c.point_of.ensures ∙ c.in_default.is))

-- it is something
pub returns-then-is_empty : goal.returns-then-is_empty
returns-then-is_empty c =
    let l = alone_shown c.args.row.now c.requires (sym c.point_of.ensures ∙ c.in-Some.is) in
    read_not_settled c.args.row.now _ c.args.text.now
    (settle_cramped c.args.row.now (omega (arith, c.requires)) (lone_told l) (length c.args.text.now) (omega arith) (omega (arith, eqb-true (length c.args.text.now) 0 (sym c.if-is_empty.ensures))))

-- the first element is written
filled : (t : List ℕ) → eqb (length t) 0 ≡ false → 0 < length t
filled t e = omega (arith, eqb-false (length t) 0 e)

first-laid : (p : ℕ) (t : List ℕ) → 0 < length t → set t 0 p ≡ laid (p ∷ []) t
first-laid p [] h = absurd (omega arith)
first-laid p (x ∷ t) h = refl

pub returns : goal.returns
returns c =
    let l = alone_shown c.args.row.now c.requires (sym c.point_of.ensures ∙ c.in-Some.is) in
    let t = lone_told l in
    read_text c.args.row.now (print_of t.signs) t.count (accepted c.args.row.now (omega (arith, c.requires)) t (omega arith)) c.args.text.now _
    (first-laid c.in-Some.point c.args.text.now (filled c.args.text.now (sym c.if-is_empty.ensures)) ∙ ap (λ (x : Text). laid x c.args.text.now) (sym (lone_print l)))
    (omega (arith, t.count, filled c.args.text.now (sym c.if-is_empty.ensures)))
