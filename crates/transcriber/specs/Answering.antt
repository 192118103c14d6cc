-- What `accepts` promises: whether an answer is to a text that the rules accept. Assumes nothing.
use Rattle.std.specs.Prelude.{Bool, true, false, Ok, Err}
use Rattle.passes.specs.Passes.{Answer}
use Rattle.passes.specs.declared.Refusal.TheVariants.{TooLong, NoSign, PairBroken, OutsideForm, SharesCells, NeedsRoom}

abbrev pub accepted_by : Answer → Bool
accepted_by (Ok n) = true
accepted_by (Err (TooLong n)) = false
accepted_by (Err (NoSign n)) = false
accepted_by (Err (PairBroken n)) = false
accepted_by (Err (OutsideForm n)) = false
accepted_by (Err (SharesCells n)) = false
accepted_by (Err (NeedsRoom n)) = true
