-- How long an answer is (`most_bytes_lem`). Assumes nothing.
use mathlib.Core.List.{List}
use Prim.Native.Nat.{ℕ, ◌≤◌}
use native.Mathlib.Omega.{arith}
use lib.ListN.{length}
use Rattle.printouts.proofs.Claims as printouts
use Rattle.proofing.proofs.Claims as proofing
use Rattle.limits.specs.declared.Program.{Program}
use Rattle.limits.specs.declared.Program.TheVariants.{Transcribe, Read, Steps}
use Rattle.limits.specs.Limits.{most_bytes}
use Rattle.programs.specs.Answers.{Answered, too_long, answered}
use Rattle.programs.specs.Claims.{MostBytes}

answer_room : (p : Program) (line x : List ℕ) → Answered p line x → length x ≤ most_bytes
answer_room Transcribe line x a = omega (arith, (printouts.room_enough).0 line x a)
answer_room Read line x a = omega (arith, (printouts.room_enough).1 line x a)
answer_room Steps line x a = (proofing.room_enough line x a).1

pub most_bytes_lem : MostBytes
most_bytes_lem p line x (too_long h) = omega arith
most_bytes_lem p line x (answered y h a) = answer_room p line x a
