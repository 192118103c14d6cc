-- `greatest`: no byte between the first place and the place is above it. Assumes nothing.
use Prim.Native.Nat.{ℕ, ◌+◌, ◌≤◌, ◌<◌}
use lib.ListN.{get_or}
use Rattle.reader.proofs.greatest.Given as goal

abbrev pub invariant-loop-byte : goal.invariant-loop-byte
invariant-loop-byte l = (m : ℕ) → l.from ≤ m → m < l.from + l.byte-index → get_or l.row m 0 ≤ l.most
