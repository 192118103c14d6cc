-- `normal::normalise` meets its contract: the length decides (`refused`), and what is written is the copy (`copied`). Assumes nothing.
use Rattle.normal.proofs.Lengths.{refused, copied}
use Rattle.normal.proofs.normalise.Goals as goal

pub returns-then-length-gt-LONGEST_TEXT : goal.returns-then-length-gt-LONGEST_TEXT
returns-then-length-gt-LONGEST_TEXT c =
    refused c.args.print.now c.args.text.now c.normal_length-length.result c.normal_length-length.ensures c.then-length-gt-LONGEST_TEXT.either

pub returns : goal.returns
returns c =
    copied c.args.print.now c.args.text.now c.normal_length-length.result c.normal_length-length.ensures c.if-length-gt-LONGEST_TEXT.false c.if-text-length.false _ _
    c.copy.ensures.0 c.copy.ensures.1
