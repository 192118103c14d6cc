-- `read`: an empty row has the empty text; one of one cell is looked up (`read_cell`); a row that is too long is refused, and so is a longer one
-- with a byte that is no cell; any other is read by way of a draft that has room: a code point a cell, or the longest text. Assumes nothing.
use mathlib.Core.Path.{sym}
use lib.ListN.{length}
use borrow.Author.Tests.{eqb-true}
use Rattle.reader.proofs.Answering.{read_empty}
use Rattle.reader.proofs.read.Goals as goal

-- no cell
pub returns-then-is_empty : goal.returns-then-is_empty
returns-then-is_empty c = read_empty c.args.row.now (eqb-true (length c.args.row.now) 0 (sym c.if-is_empty.ensures)) c.args.text.now
