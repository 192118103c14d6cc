-- `draw_usual`: between two turns the pass has come on from where it began, whatever pairs are open (`Under`). Assumes nothing.
use Rattle.rules.specs.Castilian.{castilian}
use Rattle.rules.proofs.Plain.{plainly}
use Rattle.entries.specs.Numbers.{state_number}
use Rattle.passes.proofs.Carrying.{Under}
use Rattle.passes.proofs.draw_usual.Given as goal

abbrev pub invariant-loop-i : goal.invariant-loop-i
invariant-loop-i l = Under castilian (plainly l.text) l.initial.signs l.signs (state_number l.initial.state) l.counted l.from (state_number l.state) l.n l.i
