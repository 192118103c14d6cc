-- `steps_line`: the row of the line, what the first step tells of it, and the two ends. Assumes nothing.
use borrow.Author.Rules.{rules}
use Rattle.proofing.proofs.Steps.{accepted_by_lem, ends_refused, ends_accepted_page}
use Rattle.proofing.proofs.steps_line.Goals as goal

pub returns-then-first-ne-DONE : goal.returns-then-first-ne-DONE
returns-then-first-ne-DONE c =
    let printed = ends_refused c.args.line.now c.args.points.now c.args.row.now c.args.out.now _ _ _ c.row_of-cells.ensures.shows_row c.desk_step-first.result c.desk_step-first.ensures
    c.if-first-ne-DONE.true _ _ c.refusal_line.ensures in
    record { steps_line = printed.0; upper_bound = printed.1 }

pub put_signs-requires : goal.put_signs-requires
put_signs-requires c = accepted_by_lem _ 0 c.desk_step-first.result c.desk_step-first.ensures c.if-first-ne-DONE.false

pub returns : goal.returns
returns c =
    let printed = ends_accepted_page c.args.line.now c.args.points.now c.args.row.now c.args.out.now _ _ _ c.row_of-cells.ensures.shows_row c.new-page.result c.bytes.new.self c.put_signs.new.page
    c.byte.new.self _ c.new-page.ensures.lent c.new-page.ensures.front (search rules) c.bytes.ensures c.put_signs.ensures.same c.put_signs.ensures.signs c.byte.ensures in
    record { steps_line = printed.0; upper_bound = printed.1 }
