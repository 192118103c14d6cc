-- `transcribe_line`: the code points of the line, what the desk shows of them, and the printed line that these numbers tell. Assumes nothing.
use Rattle.answers.proofs.Lines.{cells_told, ends_row_replied}
use Rattle.answers.proofs.transcribe_line.Goals as goal

pub reply-requires : goal.reply-requires
reply-requires c =
    cells_told c.args.line.now c.args.points.now c.args.row.now _ _ _ _ c.requires c.decode-count.ensures.decoded c.decode-count.ensures.upper_bound c.desk_transcribe-shown.ensures

pub returns : goal.returns
returns c =
    let printed = ends_row_replied c.args.line.now c.args.points.now c.args.row.now _ _ _ _ c.requires c.decode-count.ensures.decoded c.decode-count.ensures.upper_bound
    c.desk_transcribe-shown.ensures c.args.out.now _ _ c.reply.ensures in
    record { transcribes_line = printed.0; upper_bound = printed.1 }
