-- `draw`: between two turns the signs drawn, with what is still to come, give the whole answer (`Mid`), or do so once a run that was supposed to be of capitals only
-- is found not to be (`Supposing`). A turn is the pair rule (`passed`) and the sign; where a code point is written as usual its word says both. The measure is how much of the
-- text is left, and that a run may have to be drawn anew. Assumes nothing.
use lib.ListN.{length}
use Rattle.rules.specs.Castilian.{castilian}
use Rattle.rules.proofs.Plain.{plainly}
use Rattle.entries.specs.Numbers.{state_number}
use Rattle.passes.specs.Middle.{Supposing}
use Rattle.passes.proofs.Supposing.{left}
use Rattle.passes.proofs.draw.Given as goal

abbrev pub invariant-loop-i : goal.invariant-loop-i
invariant-loop-i l = Supposing castilian (plainly l.text) l.initial.signs l.signs l.opened (state_number l.state) l.n l.i

abbrev pub decreases-loop-i : goal.decreases-loop-i
decreases-loop-i l = left (length l.text) l.i (state_number l.state)
