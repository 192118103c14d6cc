-- `ok_line`: `ok`, a blank, the characters and the line's end, each behind the one before. Assumes nothing.
use borrow.Author.Rules.{rules}
use Rattle.printing.specs.Printed.{character_bytes}
use Rattle.printing.proofs.Printed.{page_first, page_last}
use Rattle.replies.proofs.Replies.{line_ok}
use Rattle.replies.proofs.ok_line.Goals as goal

pub returns : goal.returns
returns g c =
    line_ok (character_bytes g.T.Character.shown c.args.items.now) c.args.out.now _ _ _ _ _ _ _ _
    (page_first c.args.out.now c.new-page.result _ c.bytes.new.self c.new-page.ensures.lent c.new-page.ensures.front c.bytes.ensures) c.byte.ensures.prints c.characters.ensures.prints
    (page_last _ _ c.byte-2.new.self _ (search rules) c.byte-2.ensures)
