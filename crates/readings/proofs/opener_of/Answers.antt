-- `opener_of`: the table has the opener of each kind. Assumes nothing.
use Prim.Native.Nat.{◌%◌}
use native.Mathlib.Omega.{arith}
use lib.ListN.{get_or}
use Rattle.readings.specs.declared.TheConstants.{OPENERS}
use Rattle.readings.specs.Readings.{no_point, openers, opener_of}
use Rattle.readings.proofs.Words.{table_told}
use Rattle.readings.proofs.opener_of.Goals as goal

pub returns : goal.returns
unfolding opener_of
returns c = table_told OPENERS (λ k. get_or openers k no_point) 8 tt (c.args.kind % 8) (omega arith)
