-- `read_line`: the row that the line shows, what the desk shows of it, and the printed line that these numbers tell. Assumes nothing.
use Rattle.answers.proofs.Lines.{text_told, ends_text_replied}
use Rattle.answers.proofs.read_line.Goals as goal

pub reply-requires : goal.reply-requires
reply-requires c = text_told c.args.line.now c.args.points.now c.args.row.now c.args.text.now _ _ _ _ _ c.row_of-cells.ensures.shows_row c.desk_read-shown.ensures

pub returns : goal.returns
returns c =
    let printed = ends_text_replied c.args.line.now c.args.points.now c.args.row.now c.args.text.now _ _ _ _ _ c.row_of-cells.ensures.shows_row c.desk_read-shown.ensures
    c.args.out.now _ _ c.reply.ensures in
    record { reads_line = printed.0; upper_bound = printed.1 }
