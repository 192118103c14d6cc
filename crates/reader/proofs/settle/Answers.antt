-- `settle`: the walk says whether the row has a text, and how long that is. Assumes nothing.
use mathlib.Core.Path.{sym, ◌∙◌}
use Rattle.reader.proofs.Whole.{left_none}
use Rattle.reader.proofs.Parts.{went, lost, not_to_end, proper_whole, told_whole}
use Rattle.reader.proofs.Answering.{row_no_text, row_long_text, settle_cramped, settle_done, settle_refused}
use Rattle.reader.proofs.settle.Goals as goal

-- no text has the row, and up to where its bytes are cells
pub unread-requires : goal.unread-requires
unread-requires c = let l = lost c.requires.1.2 c.in-Err.is in (c.requires.0, l.within, l.cells, left_none c.args.row.now l.none_left)

-- it came to the row's end, and something is open there: the row is of cells
pub returns-then-not-ends : goal.returns-then-not-ends
returns-then-not-ends c =
    let g = (went c.requires.1.2 c.in-Ok.is).0 in
    settle_refused c.args.row.now _
    (row_no_text c.args.row.now (proper_whole g c.requires.0) (left_none c.args.row.now (not_to_end g (sym c.ends.ensures ∙ c.if-not-ends.true)))) _

-- the row has a text
pub returns-then-end-gt-LONGEST_TEXT : goal.returns-then-end-gt-LONGEST_TEXT
returns-then-end-gt-LONGEST_TEXT c =
    let g = (went c.requires.1.2 c.in-Ok.is).0 in
    settle_refused c.args.row.now _
    (row_long_text c.args.row.now c.requires.0 (told_whole g (sym c.ends.ensures ∙ c.if-not-ends.false)) c.if-end-gt-LONGEST_TEXT.true) _

pub returns-then-room-end : goal.returns-then-room-end
returns-then-room-end c =
    let g = (went c.requires.1.2 c.in-Ok.is).0 in
    settle_cramped c.args.row.now c.requires.0 (told_whole g (sym c.ends.ensures ∙ c.if-not-ends.false)) _ c.if-end-gt-LONGEST_TEXT.false c.if-room-end.true

pub returns : goal.returns
returns c =
    let g = (went c.requires.1.2 c.in-Ok.is).0 in
    settle_done c.args.row.now c.requires.0 (told_whole g (sym c.ends.ensures ∙ c.if-not-ends.false)) _ c.if-end-gt-LONGEST_TEXT.false c.if-room-end.false
