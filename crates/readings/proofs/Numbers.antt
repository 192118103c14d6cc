-- A mode of the code and its number. Assumes nothing.
use mathlib.Core.Path.{◌≡◌, refl}
use Prim.Native.Nat.{ℕ, ◌<◌}
use native.Mathlib.Omega.{arith}
use lib.Dec.{T, eqb, eqb→eq}
use Rattle.rules.proofs.Finite.{below, at_below}
use Rattle.readings.specs.Modes.{mode_count, number_of, mode_at}
use Rattle.readings.specs.declared.Mode.{Mode}
use Rattle.readings.specs.declared.Mode.TheVariants as a

numbers_right : T (below (λ n. eqb (number_of (mode_at n)) n) mode_count)
numbers_right = tt

pub number_back : (n : ℕ) → n < mode_count → number_of (mode_at n) ≡ n
number_back n l = eqb→eq (number_of (mode_at n)) n (at_below (λ n. eqb (number_of (mode_at n)) n) mode_count numbers_right n l)

pub number_small : (m : Mode) → number_of m < mode_count
number_small a.Free = omega arith
number_small a.Lone = omega arith
number_small a.Mixed = omega arith
number_small a.Whole1 = omega arith
number_small a.Under1 = omega arith
number_small a.End = omega arith
number_small a.Hyphen = omega arith
number_small a.Fem = omega arith
number_small a.Percent = omega arith
number_small a.Owing = omega arith
number_small a.Dash = omega arith
number_small a.Whole2 = omega arith
number_small a.Num = omega arith
number_small a.Low = omega arith
number_small a.Under = omega arith
number_small a.Mid = omega arith

pub mode_back : (m : Mode) → mode_at (number_of m) ≡ m
mode_back a.Free = refl
mode_back a.Lone = refl
mode_back a.Mixed = refl
mode_back a.Whole1 = refl
mode_back a.Under1 = refl
mode_back a.End = refl
mode_back a.Hyphen = refl
mode_back a.Fem = refl
mode_back a.Percent = refl
mode_back a.Owing = refl
mode_back a.Dash = refl
mode_back a.Whole2 = refl
mode_back a.Num = refl
mode_back a.Low = refl
mode_back a.Under = refl
mode_back a.Mid = refl
