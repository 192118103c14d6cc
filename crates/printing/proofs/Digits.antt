-- Decimal digits: those that `io::decimal` promises, the fewest that hold the number, are the number in decimal. By induction on how many there are: with one the
-- number is below 10; with more it is not, and what they are without the last are those of the number without its last. Assumes nothing.
use mathlib.Core.List.{List, [], ◌∷◌, ◌++◌}
use mathlib.Core.Logic.{⊎_elim}
use mathlib.Core.Path.{◌≡◌, refl, ap, subst, ◌∙◌}
use Prim.Native.Nat.{ℕ, zero, suc, ◌+◌, ◌-◌, ◌*◌, ◌/◌, ◌%◌, ◌^◌, ◌≤◌, ◌<◌}
use native.Mathlib.Omega.{arith}
use native.Mathlib.Nat.{pow-suc, one-le-pow, pow-le-pow_right}
use Rattle.rules.proofs.Finite.{le_or_lt}
use borrow.Author.Tests.{lt-ltb, le-ltb}
use Rattle.io.specs.Digits.{hex_digit_ascii, last_digits, IsDigitCount}
use Rattle.printing.specs.Printed.{digits_of, decimal_of}

-- a digit below 10 is written by its own byte
digit_is : (d : ℕ) → d < 10 → hex_digit_ascii d ≡ 48 + d
digit_is d h = rw (lt-ltb d 10 h) refl

pub fewest_are : (fuel k n : ℕ) → k ≤ fuel → IsDigitCount 10 1 n k → last_digits 10 k n ≡ digits_of fuel n
fewest_are fuel zero n h f = absurd (omega (arith, f.0))
fewest_are zero (suc k) n h f = absurd (omega (arith, h))
fewest_are (suc fuel) (suc zero) n h f =
    let below : n < 10 = omega (arith, f.1) in
    let last : n % 10 ≡ n = omega (arith, below) in
    rw (lt-ltb n 10 below, last) (ap (λ (d : ℕ). d ∷ []) (digit_is n below))
fewest_are (suc fuel) (suc (suc j)) n h f =
    let one_less : suc (suc j) - 1 ≡ suc j = omega arith in
    let least : 10 ^ suc j ≤ n = subst (λ (i : ℕ). 10 ^ i ≤ n) one_less (f.2 (omega arith)) in
    let some : 1 ≤ 10 ^ j = one-le-pow j 10 (omega arith) in
    let above : 10 ≤ n = omega (arith, least, some, pow-suc 10 j) in
    let most : n < 10 ^ suc j * 10 = omega (arith, f.1, pow-suc 10 (suc j)) in
    let back : suc j - 1 ≡ j = omega arith in
    let low : 10 ^ (suc j - 1) ≤ n / 10 = rw back (omega (arith, least, pow-suc 10 j)) in
    let less : IsDigitCount 10 1 (n / 10) (suc j) = (omega arith, omega (arith, most), λ l. low) in
    rw (le-ltb n 10 above)
    (ap (λ (x : List ℕ). x ++ hex_digit_ascii (n % 10) ∷ []) (fewest_are fuel (suc j) (n / 10) (omega (arith, h)) less)
    ∙ ap (λ (d : ℕ). digits_of fuel (n / 10) ++ d ∷ []) (digit_is (n % 10) (omega arith)))

-- a number of the machine has at most 20: 10 ^ 20 is above 2 ^ 64
few_enough : (n k : ℕ) → n < 0x10000000000000000 → IsDigitCount 10 1 n k → k ≤ 20
few_enough n k h f = ⊎_elim (λ p. p) many (le_or_lt k 20)
  where
    many : 20 < k → k ≤ 20
    many p =
        let least : 10 ^ (k - 1) ≤ n = f.2 (omega (arith, p)) in
        let above : 10 ^ 20 ≤ 10 ^ (k - 1) = pow-le-pow_right {n = 10} (omega arith) {i = 20} {j = k - 1} (omega (arith, p)) in
        absurd (omega (arith, least, above, h))

pub decimal_is : (n k : ℕ) → n < 0x10000000000000000 → IsDigitCount 10 1 n k → last_digits 10 k n ≡ decimal_of n
decimal_is n k h f = fewest_are 20 k n (few_enough n k h f) f
