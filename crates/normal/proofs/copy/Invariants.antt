-- `normal::copy` meets its contract: between two turns the text, with the normalised print of the rest laid behind what is written, is the text as it is to be in the
-- end (`Copying`). A turn lends the rest of the text to the writer of one code point (`copying_on`). Assumes nothing.
use Rattle.normal.proofs.Turns.{Copying}
use Rattle.normal.proofs.copy.Given as goal

abbrev pub invariant-loop-point : goal.invariant-loop-point
invariant-loop-point l = Copying l.print l.initial.text l.text l.after_digit l.n l.point-index
