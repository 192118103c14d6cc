-- `write`: between two turns the lent row, with the cells of the signs still to come laid behind what is written, is the row that it will be (`Wid`). A turn
-- lends the rest of the row to the writer of one sign (`wid_on`), and where the sign has one cell, that cell is all (`own_one`). Assumes nothing.
use Rattle.writing.proofs.Writing.{Wid}
use Rattle.writing.proofs.write.Given as goal

abbrev pub invariant-loop-sign : goal.invariant-loop-sign
invariant-loop-sign l = Wid l.signs l.initial.row l.row l.n l.sign-index
