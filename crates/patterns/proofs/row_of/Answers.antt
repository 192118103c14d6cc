-- `row_of`: what `decode` and `fill_row` promise, put together by the laws of proofs/Patterns.antt. Assumes nothing.
use Rattle.patterns.proofs.Patterns.{shows_row}
use Rattle.patterns.proofs.row_of.Goals as goal

pub returns : goal.returns
returns c =
    let shown = shows_row c.args.line.now c.args.points.now c.decode-count.result c.decode-count.new.text c.requires.line_in_bounds c.decode-count.ensures.decoded c.decode-count.ensures.upper_bound
    c.args.row.now c.fill_row.new.row c.requires.line_in_bounds_2 c.fill_row.ensures in
    record { shows_row = shown.0; upper_bound = shown.1 }
