-- How long what is printed is. In order: a number has at most 20 digits; a code point has at most four bytes; a text. Assumes nothing.
use mathlib.Core.Bool.{Bool, true, false, cond}
use mathlib.Core.List.{[], ◌∷◌, ◌++◌}
use Prim.Native.Nat.{ℕ, zero, suc, ◌+◌, ◌*◌, ◌/◌, ◌%◌, ◌≤◌}
use native.Mathlib.Omega.{arith}
use lib.Dec.{ltb}
use lib.ListN.{length, length-append}
use Rattle.rules.specs.Cells.{Text}
use Rattle.encoding.specs.Encoding.{is_scalar, bytes_of, replacement, encoded_of}
use Rattle.printing.specs.Printed.{digits_of, decimal_of, bytes_of_text}

-- DIGITS
digits_few : (fuel n : ℕ) → length (digits_of fuel n) ≤ fuel
digits_few zero n = omega arith
digits_few (suc fuel) n = go (ltb n 10) (digits_few fuel (n / 10))
  where
    go : (b : Bool) → length (digits_of fuel (n / 10)) ≤ fuel
        → length (cond b ((48 + n) ∷ []) (digits_of fuel (n / 10) ++ (48 + n % 10) ∷ [])) ≤ suc fuel
    go true h = omega arith
    go false h = simp length-append (omega (arith, h))

pub decimal_few : (n : ℕ) → length (decimal_of n) ≤ 20
decimal_few n = digits_few 20 n

-- A CODE POINT has at most four bytes
bytes_few : (c : ℕ) → length (bytes_of c) ≤ 4
unfolding bytes_of
bytes_few c = go (ltb c 0x80) (ltb c 0x800) (ltb c 0x10000)
  where
    go : (x y z : Bool)
        → length
        (cond x (c ∷ [])
        (cond y ((0xc0 + c / 0x40) ∷ (0x80 + c % 0x40) ∷ [])
        (cond z ((0xe0 + c / 0x1000) ∷ (0x80 + c / 0x40 % 0x40) ∷ (0x80 + c % 0x40) ∷ [])
        ((0xf0 + c / 0x40000) ∷ (0x80 + c / 0x1000 % 0x40) ∷ (0x80 + c / 0x40 % 0x40) ∷ (0x80 + c % 0x40) ∷ []))))
        ≤ 4
    go true y z = omega arith
    go false true z = omega arith
    go false false true = omega arith
    go false false false = omega arith

pub encoded_few : (c : ℕ) → length (encoded_of c) ≤ 4
unfolding encoded_of
encoded_few c = go (is_scalar c) (bytes_few c) (bytes_few replacement)
  where
    go : (b : Bool) → length (bytes_of c) ≤ 4 → length (bytes_of replacement) ≤ 4 → length (cond b (bytes_of c) (bytes_of replacement)) ≤ 4
    go true h k = h
    go false h k = k

pub text_few : (t : Text) → length (bytes_of_text t) ≤ 4 * length t
text_few [] = omega arith
text_few (c ∷ t) = rw (length-append (encoded_of c) (bytes_of_text t)) (omega (arith, encoded_few c, text_few t))
