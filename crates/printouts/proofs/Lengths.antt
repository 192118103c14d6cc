-- How long a row's characters are, and what they show. In order: a pattern character has three bytes, and they show its cell; the cells of a row that the rules give are cells.
-- Assumes nothing.
use mathlib.Core.Bool.{true}
use mathlib.Core.List.{List, [], ◌∷◌, map}
use mathlib.Core.Path.{◌≡◌, refl, ap, ◌∙◌}
use Prim.Native.Nat.{ℕ, suc, ◌+◌, ◌*◌, ◌-◌, ◌≤◌, ◌<◌}
use native.Mathlib.Omega.{arith}
use lib.ListN.{length, get_or, length-append}
use borrow.Author.Tests.{lt-ltb, le-leb}
use Rattle.rules.specs.Cells.{Text, Row}
use Rattle.rules.specs.Castilian.{castilian}
use Rattle.rules.specs.Normal.{normal_of}
use Rattle.rules.specs.Answers.{gives, PrintAnswer, RowAnswer, read}
use Rattle.rules.proofs.Demands.{reads_back}
use Rattle.encoding.specs.Encoding.{is_scalar, encoded_of}
use Rattle.encoding.proofs.Encoding.{scalar_is, three_bytes}
use Rattle.utf8.proofs.Claims.{decoded_encoded}
use Rattle.printing.specs.Printed.{characters_of}
use Rattle.patterns.specs.Patterns.{byte_of, row_of}

-- A PATTERN CHARACTER has three bytes, and they show its byte
module _ (c : ℕ) (small : c ≤ 255) where
  pattern_scalar : is_scalar (0x2800 + c) ≡ true
  unfolding is_scalar
  pattern_scalar = rw (lt-ltb (0x2800 + c) 0xd800 (omega (arith, small))) refl

  pattern_three : length (encoded_of (0x2800 + c)) ≡ 3
  pattern_three = ap length (scalar_is (0x2800 + c) pattern_scalar ∙ three_bytes (0x2800 + c) (omega arith) (omega (arith, small)))

  pattern_byte : byte_of (0x2800 + c) ≡ c
  pattern_byte =
      let back : 0x2800 + c - 0x2800 ≡ c = omega arith in
      rw (le-leb 0x2800 (0x2800 + c) (omega arith), le-leb (0x2800 + c) 0x28ff (omega (arith, small))) back

abbrev Bytes : Row → Type 0
Bytes r = (n : ℕ) → n < length r → get_or r n 0 ≤ 255

first_small : (c : ℕ) (r : Row) → Bytes (c ∷ r) → c ≤ 255
first_small c r h = h 0 (omega arith)

rest_small : (c : ℕ) (r : Row) → Bytes (c ∷ r) → Bytes r
rest_small c r h n k = h (suc n) (omega (arith, k))

pub characters_three : (r : Row) → ((n : ℕ) → n < length r → get_or r n 0 ≤ 255) → length (characters_of r) ≡ 3 * length r
characters_three [] h = omega arith
characters_three (c ∷ r) h =
    omega (arith, length-append (encoded_of (0x2800 + c)) (characters_of r), pattern_three c (first_small c r h), characters_three r (rest_small c r h))

pub characters_back : (r : Row) → ((n : ℕ) → n < length r → get_or r n 0 ≤ 255) → row_of (characters_of r) ≡ r
characters_back [] h = refl
characters_back (c ∷ r) h =
    let small : c ≤ 255 = first_small c r h in
    ap (λ (t : List ℕ). map byte_of t) (decoded_encoded (0x2800 + c) (characters_of r) (pattern_scalar c small))
    ∙ ap (λ (b : ℕ). b ∷ row_of (characters_of r)) (pattern_byte c small)
    ∙ ap (λ (t : List ℕ). c ∷ t) (characters_back r (rest_small c r h))

-- THE CELLS of a row that the rules give are cells: it is read back, and so proper
proper_cells : (r : Row) (room : ℕ) (t : Text) → RowAnswer castilian r room (gives t) → (n : ℕ) → n < length r → get_or r n 0 ≤ 63
proper_cells r room t (read u h k) = h.proper.cells

pub given_bytes : (p : Text) (room : ℕ) (r : Row) → PrintAnswer castilian p room (gives r) → (n : ℕ) → n < length r → get_or r n 0 ≤ 255
given_bytes p room r g n h =
    let back = reads_back p room r g (length (normal_of p)) (omega arith) in
    omega (arith, proper_cells r (length (normal_of p)) (normal_of p) back n h)
