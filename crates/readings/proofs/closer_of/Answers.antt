-- `closer_of`: the table has the closer of each kind. Assumes nothing.
use Prim.Native.Nat.{◌%◌}
use native.Mathlib.Omega.{arith}
use lib.ListN.{get_or}
use Rattle.readings.specs.declared.TheConstants.{CLOSERS}
use Rattle.readings.specs.Readings.{no_point, closers, closer_of}
use Rattle.readings.proofs.Words.{table_told}
use Rattle.readings.proofs.closer_of.Goals as goal

pub returns : goal.returns
unfolding closer_of
returns c = table_told CLOSERS (λ k. get_or closers k no_point) 8 tt (c.args.kind % 8) (omega arith)
