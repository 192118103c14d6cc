-- The numbers of refusals: none is 0, the number of a success. Assumes nothing.
use Prim.Native.Nat.{◌<◌}
use native.Mathlib.Omega.{arith}
use Rattle.rules.specs.Places.{lacks_sign, breaks_pair, outside_form, shares_cells}
use Rattle.rules.specs.Refusals.{Refusal, too_long, at_fault, needs_room, not_a_cell, no_text, number_of}

pub refusal_not_0 : (x : Refusal) → 0 < number_of x
unfolding number_of
refusal_not_0 (too_long n) = omega arith
refusal_not_0 (at_fault lacks_sign n) = omega arith
refusal_not_0 (at_fault breaks_pair n) = omega arith
refusal_not_0 (at_fault outside_form n) = omega arith
refusal_not_0 (at_fault shares_cells n) = omega arith
refusal_not_0 (needs_room n) = omega arith
refusal_not_0 (not_a_cell n) = omega arith
refusal_not_0 no_text = omega arith
