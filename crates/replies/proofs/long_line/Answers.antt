-- `long_line`: the word, and the line's end behind it. Assumes nothing.
use borrow.Author.Rules.{rules}
use Rattle.printing.proofs.Printed.{page_first, page_last}
use Rattle.replies.proofs.Replies.{line_long}
use Rattle.replies.proofs.long_line.Goals as goal

pub returns : goal.returns
returns c =
    line_long c.args.out.now _ _ _ _
    (page_first c.args.out.now c.new-page.result _ c.bytes.new.self c.new-page.ensures.lent c.new-page.ensures.front c.bytes.ensures)
    (page_last _ _ c.byte.new.self _ (search rules) c.byte.ensures)
