-- `deed_by_number`: the deed of a state and a class is that of their numbers; and where there is no such state or class the table has no sign, by one computed
-- test (`outside`). Assumes nothing.
use mathlib.Core.Path.{◌≡◌, refl, sym, ap, ◌∙◌}
use mathlib.Core.Logic.{◌⊎◌, inl, inr}
use mathlib.Core.Bool.{Bool, ◌&&◌, ◌||◌}
use Prim.Native.Nat.{ℕ, ◌+◌, ◌*◌, ◌%◌, ◌≤◌}
use native.Mathlib.Omega.{arith}
use lib.Dec.{T, eqb, ltb, eqb→eq}
use lib.ListN.{get_or}
use borrow.Author.Tests.{le-ltb}
use Rattle.rules.proofs.Finite.{and_false, below, at_below}
use Rattle.entries.specs.States.{states}
use Rattle.entries.specs.Entries.{classes}
use Rattle.entries.specs.Numbers.{class_index}
use Rattle.deeds.specs.Acts.{no_sign}
use Rattle.deeds.specs.Deeds.{deeds}
use Rattle.deeds.specs.Stages.{deed_of}
use Rattle.deeds.proofs.numbers.deed_by_number.Goals as goal

-- at the place of no state or of no class stands no sign
outside : ℕ → ℕ → Bool
outside s c = (ltb s states && ltb c classes) || eqb (get_or deeds (s * 16 + c) no_sign) no_sign

all_outside : T (below (λ s. below (outside s) 16) 16)
unfolding outside deeds
all_outside = tt

outside_at : (s c : ℕ) → T (outside (s % 16) (c % 16))
outside_at s c = at_below (outside (s % 16)) 16 (at_below (λ s. below (outside s) 16) 16 all_outside (s % 16) (omega arith)) (c % 16) (omega arith)

without : (s c : ℕ) → (states ≤ s % 16) ⊎ (classes ≤ c % 16) → no_sign ≡ deed_of s c
unfolding outside deed_of
without s c (inl l) = sym (eqb→eq (deed_of s c) no_sign (rw (le-ltb (s % 16) states l) at (outside_at s c)))
without s c (inr l) = sym (eqb→eq (deed_of s c) no_sign (rw (le-ltb (c % 16) classes l, and_false (ltb (s % 16) states)) at (outside_at s c)))

-- a remainder is its own
again : (s c : ℕ) → deed_of (s % 16) (c % 16) ≡ deed_of s c
unfolding deed_of
again s c = let e : s % 16 % 16 * 16 + c % 16 % 16 ≡ s % 16 * 16 + c % 16 = omega arith in ap (λ (n : ℕ). get_or deeds n no_sign) e

pub returns-in-Some-Some : goal.returns-in-Some-Some
returns-in-Some-Some c =
    c.number.ensures ∙ c.deed_of.ensures
    ∙ ap (λ (n : ℕ). deed_of n (class_index c.in-Some-Some.class)) c.in-Some-Some.ensures.some
    ∙ ap (deed_of (c.args.state % 16)) c.in-Some-Some.ensures'.some
    ∙ again c.args.state c.args.class

pub returns-in_default : goal.returns-in_default
returns-in_default c = without c.args.state c.args.class (inr (c.in_default.ensures'.none refl))

pub returns-in_default-2 : goal.returns-in_default-2
returns-in_default-2 c = without c.args.state c.args.class (inl (c.state_of.ensures.none (rw c.in_default.is-0 refl)))
