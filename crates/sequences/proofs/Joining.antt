-- The later bytes of a sequence, one by one. Between two of them it is known (`Mid`): whatever the bytes from here on give, behind the value so far, is what all
-- of them give. In order: the room for the bits; a byte taken; the ends. Assumes nothing.
use mathlib.Core.List.{List, ◌∷◌}
use mathlib.Core.Path.{◌≡◌, refl, subst}
use Prim.Native.Nat.{ℕ, zero, suc, ◌+◌, ◌-◌, ◌*◌, ◌≤◌, ◌<◌}
use native.Mathlib.Numerals.{add-one}
use native.Mathlib.Omega.{arith}
use lib.Dec.{leb}
use lib.ListN.{length, get_or, drop, drop_of_length-le}
use lib.Seq.{drop-cons}
use borrow.Author.Tests.{le-leb, lt-leb}
use Rattle.std.specs.Prelude.{Option, Some, None}
use Rattle.rules.proofs.Finite.{and_false}
use Rattle.sequences.specs.Leads.{later_form, room_of, Fitting, JoinedIs}

-- bits that leave room for one byte more
pub room_for : (n v : ℕ) → n ≤ 3 → 0 < n → v < room_of n → v < 0x8000
room_for zero v h k r = absurd (omega (arith, k))
room_for (suc zero) v h k r = r
room_for (suc (suc zero)) v h k r = omega (arith, r)
room_for (suc (suc (suc n))) v h k r = omega (arith, r)

room_on : (n v k : ℕ) → suc n ≤ 3 → v < room_of (suc n) → k < 64 → v * 64 + k < room_of n
room_on zero v k h r l = omega (arith, r, l)
room_on (suc zero) v k h r l = omega (arith, r, l)
room_on (suc (suc zero)) v k h r l = omega (arith, r, l)
room_on (suc (suc (suc n))) v k h r l = absurd (omega (arith, h))

-- one byte more, at the front of the rest
taken : (n low high v b : ℕ) (bs : List ℕ) → low ≤ b → b ≤ high → (r : Option ℕ)
    → JoinedIs (later_form n 0x80 0xbf) (v * 64 + (b - 0x80)) bs r → JoinedIs (later_form (suc n) low high) v (b ∷ bs) r
taken n low high v b bs l h (Some w) j = (rw (le-leb low b l, le-leb b high h) j.0, j.1)
taken n low high v b bs l h None j = rw (le-leb low b l, le-leb b high h) j

pub record Mid (bytes : List ℕ) (n least most bits at low high value : ℕ) : Type 0 where
  pub fitting : Fitting (n - at) low high value
  pub whole : (r : Option ℕ) → JoinedIs (later_form (n - at) low high) value (drop at bytes) r → JoinedIs (later_form n least most) bits bytes r

module _ (bytes : List ℕ) (n least most bits : ℕ) where
  pub mid_start : Fitting n least most bits → Mid bytes n least most bits 0 least most bits
  mid_start f = let all : n - 0 ≡ n = omega arith in record { fitting = rw all f; whole = λ r j. rw all at j }

  module _ (at low high value : ℕ) (m : Mid bytes n least most bits at low high value) where
    -- all bytes have been taken
    pub mid_done : n ≤ at → JoinedIs (later_form n least most) bits bytes (Some value)
    mid_done h = let none : n - at ≡ 0 = omega (arith, h) in m.whole (Some value) (rw none (refl, refl))

    -- there is no byte where one is asked for
    pub mid_ended : (k : ℕ) → n - at ≡ suc k → length bytes ≤ at → JoinedIs (later_form n least most) bits bytes None
    mid_ended k more h = m.whole None (rw (more, drop_of_length-le bytes {i = at} h) refl)

    module _ (there : at < length bytes) (all : length bytes ≡ n) where
      more : n - at ≡ suc (n - (at + 1))
      more = omega (arith, there, all)

      rest_is : drop at bytes ≡ get_or bytes at 0 ∷ drop (at + 1) bytes
      rest_is = rw (add-one, drop-cons bytes at 0)

      pub room : value < 0x8000
      room = room_for (n - at) value m.fitting.few (omega (arith, more)) m.fitting.room

      pub mid_below : get_or bytes at 0 < low → JoinedIs (later_form n least most) bits bytes None
      mid_below h = m.whole None (rw (more, rest_is, lt-leb low (get_or bytes at 0) h) refl)

      pub mid_above : high < get_or bytes at 0 → JoinedIs (later_form n least most) bits bytes None
      mid_above h = m.whole None (rw (more, rest_is, lt-leb (get_or bytes at 0) high h, and_false (leb low (get_or bytes at 0))) refl)

      pub mid_on : low ≤ get_or bytes at 0 → get_or bytes at 0 ≤ high → Mid bytes n least most bits (at + 1) 0x80 0xbf (value * 64 + (get_or bytes at 0 - 0x80))
      mid_on l h =
          let b : ℕ = get_or bytes at 0 in
          let f = m.fitting in
          let few : suc (n - (at + 1)) ≤ 3 = omega (arith, f.few, more) in
          let below : value < room_of (suc (n - (at + 1))) = subst (λ (k : ℕ). value < room_of k) more f.room in record {
            fitting = record {
              few = omega (arith, few);
              lowest = omega arith;
              highest = omega arith;
              room = room_on (n - (at + 1)) value (b - 0x80) few below (omega (arith, l, h, f.lowest, f.highest));
            };
            whole = λ r j. m.whole r (rw (more, rest_is) (taken (n - (at + 1)) low high value b (drop (at + 1) bytes) l h r j));
          }
