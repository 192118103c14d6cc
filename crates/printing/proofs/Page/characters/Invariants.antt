-- `Page::characters`: what is still to come makes the whole. Assumes nothing.
use lib.ListN.{drop}
use Rattle.printing.specs.Printed.{character_bytes}
use Rattle.printing.proofs.Printed.{Mid}
use Rattle.printing.proofs.Page.characters.Given as goal

abbrev pub invariant-loop-item : goal.invariant-loop-item
invariant-loop-item g l = Mid l.initial.self (character_bytes g.T.Character.shown l.items) (character_bytes g.T.Character.shown (drop l.item-index l.items)) l.self
