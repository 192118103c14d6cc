-- The bytes of a code point. In order: which numbers are scalar values; which bytes one has, by how many; what `put` stores; the ends of `encode`. Assumes nothing.
use mathlib.Core.Bool.{Bool, true, false, ◌&&◌, ◌||◌}
use mathlib.Core.List.{List, [], ◌∷◌, ◌++◌}
use mathlib.Core.Logic.{inl, inr}
use mathlib.Core.Path.{◌≡◌, refl, sym, ap, ◌∙◌}
use Prim.Native.Nat.{ℕ, ◌+◌, ◌/◌, ◌%◌, ◌≤◌, ◌<◌, min}
use native.Mathlib.Omega.{arith}
use lib.ListN.{length, take, drop, set, length-take}
use lib.Seq.{sets}
use lib.Dec.{leb, ltb}
use borrow.Author.Tests.{lt-ltb, le-ltb, lt-leb, le-leb, ltb-true, leb-true}
use Rattle.std.specs.Prelude.{Option, Some, None, MatchOption, is_some}
use Rattle.std.specs.Char.{InScalarRange, OutOfScalarRange}
use Rattle.std.proofs.lemmas.List.{take_min}
use Rattle.rows.specs.Laid.{laid}
use Rattle.rows.proofs.Stored.{stored_is}
use Rattle.encoding.specs.Encoding.{is_scalar, bytes_of, replacement, encoded_of, Encoded, Wrote}

false_true : false ≡ true → ⊥
false_true e = let z : ◌≡◌ {A = ℕ} 0 1 = cc in absurd (omega (arith, z))

-- a number of which std makes a `char`
pub is_char : (c : ℕ) (r : Option ℕ) → MatchOption r (OutOfScalarRange c) (λ _. InScalarRange c) → is_some r ≡ is_scalar c
unfolding is_scalar
is_char c None (inl o) = rw (le-ltb c 0xd800 o.0, lt-leb 0xe000 c (omega (arith, o.1))) refl
is_char c None (inr o) = rw (le-ltb c 0xd800 (omega (arith, o)), le-leb 0xe000 c (omega (arith, o)), lt-leb c 0x10ffff o) refl
is_char c (Some x) (inl h) = rw (lt-ltb c 0xd800 h) refl
is_char c (Some x) (inr h) = rw (le-ltb c 0xd800 (omega (arith, h.0)), le-leb 0xe000 c h.0, le-leb c 0x10ffff h.1) refl

module _ (c : ℕ) where
  pub one_byte : c < 0x80 → bytes_of c ≡ c ∷ []
  unfolding bytes_of
  one_byte h = rw (lt-ltb c 0x80 h) refl

  pub two_bytes : 0x80 ≤ c → c < 0x800 → bytes_of c ≡ (0xc0 + c / 0x40) ∷ (0x80 + c % 0x40) ∷ []
  unfolding bytes_of
  two_bytes l h = rw (le-ltb c 0x80 l, lt-ltb c 0x800 h) refl

  pub three_bytes : 0x800 ≤ c → c < 0x10000 → bytes_of c ≡ (0xe0 + c / 0x1000) ∷ (0x80 + c / 0x40 % 0x40) ∷ (0x80 + c % 0x40) ∷ []
  unfolding bytes_of
  three_bytes l h = rw (le-ltb c 0x80 (omega (arith, l)), le-ltb c 0x800 l, lt-ltb c 0x10000 h) refl

  pub four_bytes : 0x10000 ≤ c → bytes_of c ≡ (0xf0 + c / 0x40000) ∷ (0x80 + c / 0x1000 % 0x40) ∷ (0x80 + c / 0x40 % 0x40) ∷ (0x80 + c % 0x40) ∷ []
  unfolding bytes_of
  four_bytes l = rw (le-ltb c 0x80 (omega (arith, l)), le-ltb c 0x800 (omega (arith, l)), le-ltb c 0x10000 l) refl

-- WHAT IS PUT: `front` is as much of a row as there is room for
pub put_is : (row l front : List ℕ) (fits : ℕ) → fits ≡ min (length l) (length row) → front ≡ take fits row → front ++ drop fits l ≡ sets l 0 row
put_is row l front fits e f = rw (f, e, take_min (length l) row, sym (length-take (length l) row)) (sym (stored_is row l))

-- a row that is another
pub wrote_as : {row same l : List ℕ} {r : ℕ} {m : List ℕ} → row ≡ same → Wrote same l r m → Wrote row l r m
wrote_as e w = rw e w

-- what is stored one behind another, four bytes at most, is written so too
pub wrote_four : (row l m n o q : List ℕ) (a b c d : ℕ) → m ≡ set l 0 a → n ≡ set m 1 b → o ≡ set n 2 c → q ≡ set o 3 d → row ≡ a ∷ b ∷ c ∷ d ∷ [] → Wrote row l 4 q
wrote_four row l m n o q a b c d e f g h is = rw (is, h, g, f, e) (record { count = refl; few = omega arith; stored = refl })

-- THE ENDS OF `encode`
pub encoded : (c : ℕ) (row l : List ℕ) (r : ℕ) (new : List ℕ) → encoded_of c ≡ row → Wrote row l r new → Encoded c l r new × (r ≤ 4)
encoded c row l r new e w = (
  record { count = w.count ∙ sym (ap length e); bytes = w.stored ∙ stored_is row l ∙ sym (ap (λ (x : List ℕ). laid (take (length l) x) l) e) },
  w.few,
)

pub scalar_is : (c : ℕ) → is_scalar c ≡ true → encoded_of c ≡ bytes_of c
unfolding encoded_of
scalar_is c e = rw e refl

pub other_is : (c : ℕ) → is_scalar c ≡ false → encoded_of c ≡ bytes_of replacement
unfolding encoded_of
other_is c e = rw e refl

pub scalar_small : (c : ℕ) → is_scalar c ≡ true → c < 0x110000
unfolding is_scalar
scalar_small c e = go (ltb c 0xd800) refl (leb 0xe000 c) (leb c 0x10ffff) refl e
  where
    go : (x : Bool) → ltb c 0xd800 ≡ x → (y z : Bool) → leb c 0x10ffff ≡ z → x || (y && z) ≡ true → c < 0x110000
    go true l y z h t = omega (arith, ltb-true c 0xd800 l)
    go false l true true h t = omega (arith, leb-true c 0x10ffff h)
    go false l true false h t = absurd (false_true t)
    go false l false z h t = absurd (false_true t)
