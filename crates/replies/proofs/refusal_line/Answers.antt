-- `refusal_line`: the six parts of the line, each behind the one before. Assumes nothing.
use borrow.Author.Rules.{rules}
use Rattle.printing.proofs.Printed.{page_first, page_last}
use Rattle.replies.proofs.Replies.{line_refusal}
use Rattle.replies.proofs.refusal_line.Goals as goal

pub returns : goal.returns
returns c =
    line_refusal c.args.number c.args.second c.args.out.now _ _ _ _ _ _ _ _ _ _ _ _
    (page_first c.args.out.now c.new-page.result _ c.bytes.new.self c.new-page.ensures.lent c.new-page.ensures.front c.bytes.ensures) c.byte.ensures.prints c.number.ensures.prints
    c.byte-2.ensures.prints c.number-2.ensures.prints (page_last _ _ c.byte-3.new.self _ (search rules) c.byte-3.ensures)
