-- `put_cells`: each arm stores as many cells as the count says (`cells_length`), and they are those of the sign. Assumes nothing.
use mathlib.Core.Path.{◌≡◌, sym, ◌∙◌}
use native.Mathlib.Omega.{arith}
use lib.ListN.{length-set}
use Rattle.entries.specs.SignWords.{count_of, cells_in}
use Rattle.entries.proofs.SignWords.{own_none, own_one, own_two, own_three, cells_length}
use Rattle.rows.proofs.Laid.{wrote_none, wrote_one, wrote_two, wrote_three}
use Rattle.writing.proofs.put_cells.Goals as goal

pub bounds-row-0 : goal.bounds-row-0
bounds-row-0 c = omega (arith, cells_length c.args.sign)

pub returns-in-0 : goal.returns-in-0
returns-in-0 c = wrote_none (cells_in c.args.sign) c.args.row.now (own_none c.args.sign (sym c.count_of.ensures.0 ∙ c.in-0.is))

pub returns-in-1 : goal.returns-in-1
returns-in-1 c =
    wrote_one (cells_in c.args.sign) c.args.row.now c.requires _ (own_one c.args.sign _ c.first_of.ensures (sym c.count_of.ensures.0 ∙ c.in-1.is))

pub bounds-row-0-in_default : goal.bounds-row-0-in_default
bounds-row-0-in_default c = omega (arith, cells_length c.args.sign)

pub bounds-row-1 : goal.bounds-row-1
bounds-row-1 c = simp length-set (omega (arith, cells_length c.args.sign))

pub bounds-row-2 : goal.bounds-row-2
bounds-row-2 c = simp length-set (omega (arith, cells_length c.args.sign))

pub returns-then-count-eq3 : goal.returns-then-count-eq3
returns-then-count-eq3 c =
    let three : count_of c.args.sign ≡ 3 = omega arith in
    wrote_three (cells_in c.args.sign) c.args.row.now c.requires _ _ _
    (own_three c.args.sign _ _ _ c.first_of-in_default.ensures c.second_of.ensures c.third_of.ensures three)

pub returns-else-count-eq3 : goal.returns-else-count-eq3
returns-else-count-eq3 c =
    let two : count_of c.args.sign ≡ 2 = omega arith in
    wrote_two (cells_in c.args.sign) c.args.row.now c.requires _ _ (own_two c.args.sign _ _ c.first_of-in_default.ensures c.second_of.ensures two)
