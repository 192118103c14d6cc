-- `Page::bytes`: what is still to come makes the whole. Assumes nothing.
use lib.ListN.{drop}
use Rattle.printing.proofs.Printed.{Mid}
use Rattle.printing.proofs.Page.bytes.Given as goal

abbrev pub invariant-loop-byte : goal.invariant-loop-byte
invariant-loop-byte l = Mid l.initial.self l.bytes (drop l.byte-index l.bytes) l.self
