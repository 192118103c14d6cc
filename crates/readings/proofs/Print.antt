-- The print of a sign, from what a step has of it: one code point where there is no lead, and else two. So both are known by
-- the print (`points_inj`). Assumes nothing.
use mathlib.Core.Path.{◌≡◌, refl, ap}
use Prim.Native.Nat.{ℕ, ◌≤◌}
use native.Mathlib.Omega.{arith}
use lib.ListN.{length}
use Rattle.std.specs.Prelude.{Option, Some, None}
use Rattle.readings.specs.Print.{points}

pub points_width : (l : Option ℕ) (p : ℕ) → (1 ≤ length (points l p)) × (length (points l p) ≤ 2)
points_width None p = (omega arith, omega arith)
points_width (Some l) p = (omega arith, omega arith)

pub points_inj : (l : Option ℕ) (p : ℕ) (k : Option ℕ) (q : ℕ) → points l p ≡ points k q → (l ≡ k) × (p ≡ q)
points_inj None p None q e = (refl, cc)
points_inj None p (Some k) q e = absurd (omega (arith, ap length e))
points_inj (Some l) p None q e = absurd (omega (arith, ap length e))
points_inj (Some l) p (Some k) q e = let z : l ≡ k = cc in (ap Some z, cc)
