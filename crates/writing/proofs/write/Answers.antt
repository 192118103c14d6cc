-- `write`: between two turns the lent row, with the cells of the signs still to come laid behind what is written, is the row that it will be (`Wid`). A turn
-- lends the rest of the row to the writer of one sign (`wid_on`), and where the sign has one cell, that cell is all (`own_one`). Assumes nothing.
use mathlib.Core.Path.{sym, ap, ◌∙◌}
use native.Mathlib.Omega.{arith}
use lib.ListN.{length, take, drop, get_or}
use Prim.Native.Nat.{ℕ, ◌-◌, ◌≤◌}
use mathlib.Core.List.{List}
use Rattle.rules.specs.Cells.{Row}
use Rattle.rows.specs.Laid.{laid}
use Rattle.entries.specs.SignWords.{cells_in}
use Rattle.entries.proofs.SignWords.{own_one, cells_length}
use Rattle.writing.proofs.Writing.{wid_room, wid_on}
use Rattle.writing.proofs.write.Goals as goal
use Rattle.writing.proofs.write.Goals.{then-count-eq1, else-count-eq1}

pub put_cell-requires : goal.put_cell-requires
put_cell-requires c =
    let l = c.loop-sign in
    let sign : ℕ = get_or c.args.signs.now l.sign-index 0 in
    let room : length (cells_in sign) ≤ length (take (length l.row - l.n) (drop l.n l.row)) =
    wid_room c.args.signs.now c.args.row.now l.row l.n l.sign-index l.invariant c.requires c.loop-sign-test.true in
    omega (arith, cells_length sign)

pub loop-sign-preserved : goal.loop-sign-preserved
loop-sign-preserved c =
    let l = c.loop-sign in
    let sign : ℕ = get_or c.args.signs.now l.sign-index 0 in
    let lent : List ℕ = take (length l.row - l.n) (drop l.n l.row) in
    let counted = c.count_of-count.ensures.0 ∙ sym (cells_length sign) in
    elim c.if-count-eq1.branch [
      | then-count-eq1 w ↦
          let one = own_one sign _ w.first_of-cell.ensures (sym c.count_of-count.ensures.0 ∙ w.if-count-eq1.true) in
          wid_on c.args.signs.now c.args.row.now l.row l.n l.sign-index l.invariant c.requires c.loop-sign-test.true _ _ _ counted
          (w.put_cell.ensures ∙ ap (λ (r : Row). laid r lent) (sym one)) w.row-is
      | else-count-eq1 w ↦
          wid_on c.args.signs.now c.args.row.now l.row l.n l.sign-index l.invariant c.requires c.loop-sign-test.true _ _ _ counted w.put_cells.ensures w.row-is
    ]
