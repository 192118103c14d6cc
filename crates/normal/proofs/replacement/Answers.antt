-- `normal::replacement` meets its contract: each arm is a line of the list of replacements, and what is in no arm is kept. Assumes nothing.
use Rattle.rules.specs.Normal.{replacements, replaced_by}
use Rattle.normal.proofs.Becoming.{rest_same}
use Rattle.normal.proofs.replacement.Goals as goal
use Rattle.normal.proofs.replacement.Lts as lts
use Rattle.normal.proofs.replacement.Reads as reads

pub returns-in-8220 : goal.returns-in-8220
unfolding replacements replaced_by
returns-in-8220 c = rw (lts.walk_of-At-match-keys1 reads.Pre reads.Post c).in-8220-1.keys1

pub returns-in-8221 : goal.returns-in-8221
unfolding replacements replaced_by
returns-in-8221 c = rw (lts.walk_of-At-match-keys2 reads.Pre reads.Post c).in-8221-1.keys2

pub returns-in-8249 : goal.returns-in-8249
unfolding replacements replaced_by
returns-in-8249 c = rw (lts.walk_of-At-match-keys3 reads.Pre reads.Post c).in-8249-1.keys3

pub returns-in-8250 : goal.returns-in-8250
unfolding replacements replaced_by
returns-in-8250 c = rw (lts.walk_of-At-match-keys4 reads.Pre reads.Post c).in-8250-1.keys4

pub returns-in_default : goal.returns-in_default
unfolding replacements
returns-in_default c = rest_same _ (lts.walk_of-At-match-rest reads.Pre reads.Post c).before.requires (lts.walk_of-At-match-rest reads.Pre reads.Post c).in_default-1.rest
