-- `class_in`: the last arm is that of the one class that is left (`one_left`). Assumes nothing.
use Rattle.std.proofs.Common.{rules, sym}
use Prim.Native.Nat.{◌/◌, ◌%◌}
use native.Mathlib.Omega.{arith}
use Rattle.entries.proofs.Places.{upto}
use Rattle.readings.specs.Fields.{prefix, class_at}
use Rattle.readings.proofs.Words.{one_left}
use Rattle.readings.proofs.class_in.Goals as goal

pub returns-in_default : goal.returns-in_default
unfolding upto
returns-in_default c = sym (one_left 16 prefix (upto prefix) tt (c.args.word / class_at % 16) (omega arith) (search rules))
