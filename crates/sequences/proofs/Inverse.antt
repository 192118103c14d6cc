-- Tables 3-6 and 3-7 are each other's inverse (specs/Claims.antt). A scalar value has a line of table 3-7 by its size; the bytes of a line give back a number of that line's range.
-- In order: a form, byte by byte; from a scalar value to its sequence; from a sequence to its scalar value. Assumes nothing.
use mathlib.Core.Bool.{Bool, true, false, ◌&&◌, ◌||◌}
use mathlib.Core.List.{List, [], ◌∷◌}
use mathlib.Core.Logic.{◌⊎◌, inl, inr, ⊎_elim}
use mathlib.Core.Path.{◌≡◌, refl, ◌∙◌}
use Prim.Native.Nat.{ℕ, zero, suc, ◌+◌, ◌-◌, ◌*◌, ◌/◌, ◌%◌, ◌≤◌, ◌<◌}
use native.Mathlib.Omega.{arith}
use lib.Dec.{T, leb, ltb, leb→le}
use lib.ListN.{length, get_or}
use borrow.Author.Tests.{lt-ltb, le-ltb, le-leb, ltb-true, leb-true}
use Rattle.rules.proofs.Finite.{and_left, and_right, le_or_lt}
use Rattle.sequences.specs.Forms.{Form, forms, ◌to◌, within, begin, WellFormed, point_of}
use Rattle.encoding.specs.Encoding.{is_scalar, bytes_of, encoded_of}
use Rattle.sequences.specs.Claims.{EncodedWellFormed, WellFormedEncoded}
use Rattle.encoding.proofs.Encoding.{one_byte, two_bytes, three_bytes, four_bytes, scalar_is, scalar_small}

-- six bits behind the mark of a later byte are in its range
later_low : (n : ℕ) → leb 0x80 (0x80 + n % 0x40) ≡ true
later_low n = le-leb 0x80 (0x80 + n % 0x40) (omega arith)

later_high : (n : ℕ) → leb (0x80 + n % 0x40) 0xbf ≡ true
later_high n = le-leb (0x80 + n % 0x40) 0xbf (omega arith)

-- what a sequence is by its bytes
abbrev Spells : ℕ → List ℕ → Type 0
Spells c s = WellFormed s × (point_of s ≡ c)

module _ (c : ℕ) where
  spells_one : c < 0x80 → Spells c (c ∷ [])
  spells_one h = (record { line = 0; there = omega arith; whole = refl; fits = rw (le-leb 0x00 c (omega arith), le-leb c 0x7f (omega (arith, h))) tt }, omega arith)

  -- three bytes: the line, and the ranges of its first and second byte
  module _ (k low high lower higher : ℕ) (form : get_or forms k [] ≡ low to high ∷ lower to higher ∷ 0x80 to 0xbf ∷ []) (there : k < 9) where
    spells_three : low ≤ 0xe0 + c / 0x1000 → 0xe0 + c / 0x1000 ≤ high → lower ≤ 0x80 + c / 0x40 % 0x40 → 0x80 + c / 0x40 % 0x40 ≤ higher
        → Spells c ((0xe0 + c / 0x1000) ∷ (0x80 + c / 0x40 % 0x40) ∷ (0x80 + c % 0x40) ∷ [])
    spells_three a b d e = (
      record {
        line = k;
        there = there;
        whole = rw form refl;
        fits = rw (form, le-leb low _ a, le-leb _ high b, le-leb lower _ d, le-leb _ higher e, later_low c, later_high c) tt;
      },
      omega arith,
    )

  module _ (k low high lower higher : ℕ) (form : get_or forms k [] ≡ low to high ∷ lower to higher ∷ 0x80 to 0xbf ∷ 0x80 to 0xbf ∷ []) (there : k < 9) where
    spells_four : low ≤ 0xf0 + c / 0x40000 → 0xf0 + c / 0x40000 ≤ high → lower ≤ 0x80 + c / 0x1000 % 0x40 → 0x80 + c / 0x1000 % 0x40 ≤ higher
        → Spells c ((0xf0 + c / 0x40000) ∷ (0x80 + c / 0x1000 % 0x40) ∷ (0x80 + c / 0x40 % 0x40) ∷ (0x80 + c % 0x40) ∷ [])
    spells_four a b d e = (
      record {
        line = k;
        there = there;
        whole = rw form refl;
        fits =
            rw (form, le-leb low _ a, le-leb _ high b, le-leb lower _ d, le-leb _ higher e, later_low (c / 0x40), later_high (c / 0x40), later_low c, later_high c)
            tt;
      },
      let upper : c / 0x40000 * 64 + c / 0x1000 % 0x40 ≡ c / 0x1000 = omega arith in
          let middle : c / 0x1000 * 64 + c / 0x40 % 0x40 ≡ c / 0x40 = omega arith in
          omega (arith, upper, middle),
    )

  spells_two : 0x80 ≤ c → c < 0x800 → Spells c ((0xc0 + c / 0x40) ∷ (0x80 + c % 0x40) ∷ [])
  spells_two l h = (
    record {
      line = 1;
      there = omega arith;
      whole = refl;
      fits = rw (le-leb 0xc2 (0xc0 + c / 0x40) (omega (arith, l)), le-leb (0xc0 + c / 0x40) 0xdf (omega (arith, h)), later_low c, later_high c) tt;
    },
    omega arith,
  )

  -- below a number, or not
  by : {A : Type 0} (n : ℕ) → (c < n → A) → (n ≤ c → A) → A
  by n f g = ⊎_elim g f (le_or_lt n c)

  -- by the lines of table 3-7
  spells : c < 0x110000 → (c < 0xd800) ⊎ (0xe000 ≤ c) → Spells c (bytes_of c)
  spells most apart =
      by 0x80 (λ h. rw (one_byte c h) (spells_one h)) (λ l.
      by 0x800 (λ h. rw (two_bytes c l h) (spells_two l h)) (λ m.
      by 0x10000
      (λ h.
      rw (three_bytes c m h)
      (by 0x1000 (λ k. spells_three 2 0xe0 0xe0 0xa0 0xbf refl (omega arith) (omega arith) (omega (arith, k)) (omega (arith, m, k)) (omega arith)) (λ n.
      by 0xd000 (λ k. spells_three 3 0xe1 0xec 0x80 0xbf refl (omega arith) (omega (arith, n)) (omega (arith, k)) (omega arith) (omega arith)) (λ o.
      by 0xe000
      (λ k.
      let low : c < 0xd800 = ⊎_elim (λ q. q) (λ q. absurd (omega (arith, q, k))) apart in
      spells_three 4 0xed 0xed 0x80 0x9f refl (omega arith) (omega (arith, o)) (omega (arith, k)) (omega arith) (omega (arith, o, low)))
      (λ k. spells_three 5 0xee 0xef 0x80 0xbf refl (omega arith) (omega (arith, k)) (omega (arith, h)) (omega arith) (omega arith))))))
      (λ n.
      rw (four_bytes c n)
      (by 0x40000 (λ k. spells_four 6 0xf0 0xf0 0x90 0xbf refl (omega arith) (omega arith) (omega (arith, k)) (omega (arith, n, k)) (omega arith)) (λ o.
      by 0x100000 (λ k. spells_four 7 0xf1 0xf3 0x80 0xbf refl (omega arith) (omega (arith, o)) (omega (arith, k)) (omega arith) (omega arith)) (λ k.
      spells_four 8 0xf4 0xf4 0x80 0x8f refl (omega arith) (omega (arith, k)) (omega (arith, most)) (omega arith) (omega (arith, k, most))))))))

-- a scalar value is below the surrogates or above them
scalar_apart : (c : ℕ) → is_scalar c ≡ true → (c < 0xd800) ⊎ (0xe000 ≤ c)
unfolding is_scalar
scalar_apart c e = go (ltb c 0xd800) refl (leb 0xe000 c) refl e
  where
    go : (x : Bool) → ltb c 0xd800 ≡ x → (y : Bool) → leb 0xe000 c ≡ y → x || (y && leb c 0x10ffff) ≡ true → (c < 0xd800) ⊎ (0xe000 ≤ c)
    go true l y h t = inl (ltb-true c 0xd800 l)
    go false l true h t = inr (leb-true 0xe000 c h)
    go false l false h t = absurd (let z : ◌≡◌ {A = ℕ} 0 1 = cc in omega (arith, z))

pub encoded_well_formed : EncodedWellFormed
encoded_well_formed c e = rw (scalar_is c e) (spells c (scalar_small c e) (scalar_apart c e))

-- FROM A SEQUENCE TO ITS SCALAR VALUE
front : (low high b : ℕ) (f : Form) (s : List ℕ) → T (begin (low to high ∷ f) (b ∷ s)) → (low ≤ b) × (b ≤ high) × T (begin f s)
front low high b f s t =
    let inside = and_left (within (low to high) b) (begin f s) t in
    (leb→le low b (and_left (leb low b) (leb b high) inside), leb→le b high (and_right (leb low b) (leb b high) inside), and_right (within (low to high) b) (begin f s) t)

-- a number that is no surrogate
scalar_low : (c : ℕ) → c < 0xd800 → is_scalar c ≡ true
unfolding is_scalar
scalar_low c h = rw (lt-ltb c 0xd800 h) refl

scalar_high : (c : ℕ) → 0xe000 ≤ c → c < 0x110000 → is_scalar c ≡ true
unfolding is_scalar
scalar_high c l h = rw (le-ltb c 0xd800 (omega (arith, l)), le-leb 0xe000 c l, le-leb c 0x10ffff (omega (arith, h))) refl

abbrev Back : List ℕ → ℕ → Type 0
Back s c = (is_scalar c ≡ true) × (encoded_of c ≡ s)

back : (s : List ℕ) (c : ℕ) → is_scalar c ≡ true → bytes_of c ≡ s → Back s c
back s c i e = (i, scalar_is c i ∙ e)

-- one byte; two
back_one : (a : ℕ) → T (begin (0x00 to 0x7f ∷ []) (a ∷ [])) → Back (a ∷ []) (point_of (a ∷ []))
back_one a t =
    let p = front 0x00 0x7f a [] [] t in
    let same : a - 0 ≡ a = omega arith in
    rw same (back (a ∷ []) a (scalar_low a (omega (arith, p.1))) (one_byte a (omega (arith, p.1))))

back_two : (a b : ℕ) → T (begin (0xc2 to 0xdf ∷ 0x80 to 0xbf ∷ []) (a ∷ b ∷ [])) → Back (a ∷ b ∷ []) (point_of (a ∷ b ∷ []))
back_two a b t =
    let p = front 0xc2 0xdf a (0x80 to 0xbf ∷ []) (b ∷ []) t in
    let q = front 0x80 0xbf b [] [] p.2 in
    let c : ℕ = (a - 0xc0) * 64 + (b - 0x80) in
    let first : 0xc0 + c / 0x40 ≡ a = omega (arith, p.0, q.0, q.1) in
    let second : 0x80 + c % 0x40 ≡ b = omega (arith, p.0, q.0, q.1) in
    back (a ∷ b ∷ []) c (scalar_low c (omega (arith, p.1, q.1))) (two_bytes c (omega (arith, p.0)) (omega (arith, p.1, q.1)) ∙ rw (first, second) refl)

-- three: a line of which is known that its numbers are at least 800, and no surrogates
module _ (low high lower higher : ℕ) (low_is : 0xe0 ≤ low) (high_is : high ≤ 0xef) (lower_is : 0x80 ≤ lower) (higher_is : higher ≤ 0xbf)
    (apart : (a b : ℕ) → low ≤ a → a ≤ high → lower ≤ b → b ≤ higher → (d : ℕ) → d < 64 → (0x800 ≤ ((a - 0xe0) * 64 + (b - 0x80)) * 64 + d)
    × ((((a - 0xe0) * 64 + (b - 0x80)) * 64 + d < 0xd800) ⊎ (0xe000 ≤ ((a - 0xe0) * 64 + (b - 0x80)) * 64 + d))) where
  back_three : (a b e : ℕ) → T (begin (low to high ∷ lower to higher ∷ 0x80 to 0xbf ∷ []) (a ∷ b ∷ e ∷ [])) → Back (a ∷ b ∷ e ∷ []) (point_of (a ∷ b ∷ e ∷ []))
  back_three a b e t =
      let p = front low high a (lower to higher ∷ 0x80 to 0xbf ∷ []) (b ∷ e ∷ []) t in
      let q = front lower higher b (0x80 to 0xbf ∷ []) (e ∷ []) p.2 in
      let r = front 0x80 0xbf e [] [] q.2 in
      let c : ℕ = ((a - 0xe0) * 64 + (b - 0x80)) * 64 + (e - 0x80) in
      let facts = apart a b p.0 p.1 q.0 q.1 (e - 0x80) (omega (arith, r.1)) in
      let most : c < 0x10000 = omega (arith, p.1, high_is, q.1, higher_is, r.1) in
      let first : 0xe0 + c / 0x1000 ≡ a = omega (arith, p.0, low_is, q.1, higher_is, r.1) in
      let second : 0x80 + c / 0x40 % 0x40 ≡ b = omega (arith, q.0, lower_is, q.1, higher_is, r.1) in
      let third : 0x80 + c % 0x40 ≡ e = omega (arith, r.0, r.1) in
      let scalar : is_scalar c ≡ true = ⊎_elim (λ h. scalar_low c h) (λ h. scalar_high c h (omega (arith, most))) facts.1 in
      back (a ∷ b ∷ e ∷ []) c scalar (three_bytes c facts.0 most ∙ rw (first, second, third) refl)

-- four: a line of which is known that its numbers are at least 10000 and at most 10FFFF
module _ (low high lower higher : ℕ) (low_is : 0xf0 ≤ low) (high_is : high ≤ 0xf4) (lower_is : 0x80 ≤ lower) (higher_is : higher ≤ 0xbf)
    (apart : (a b : ℕ) → low ≤ a → a ≤ high → lower ≤ b → b ≤ higher → (0x10 ≤ (a - 0xf0) * 64 + (b - 0x80)) × ((a - 0xf0) * 64 + (b - 0x80) < 0x110)) where
  back_four : (a b e g : ℕ) → T (begin (low to high ∷ lower to higher ∷ 0x80 to 0xbf ∷ 0x80 to 0xbf ∷ []) (a ∷ b ∷ e ∷ g ∷ []))
      → Back (a ∷ b ∷ e ∷ g ∷ []) (point_of (a ∷ b ∷ e ∷ g ∷ []))
  back_four a b e g t =
      let p = front low high a (lower to higher ∷ 0x80 to 0xbf ∷ 0x80 to 0xbf ∷ []) (b ∷ e ∷ g ∷ []) t in
      let q = front lower higher b (0x80 to 0xbf ∷ 0x80 to 0xbf ∷ []) (e ∷ g ∷ []) p.2 in
      let r = front 0x80 0xbf e (0x80 to 0xbf ∷ []) (g ∷ []) q.2 in
      let o = front 0x80 0xbf g [] [] r.2 in
      let u : ℕ = (a - 0xf0) * 64 + (b - 0x80) in
      let v : ℕ = u * 64 + (e - 0x80) in
      let c : ℕ = v * 64 + (g - 0x80) in
      let facts = apart a b p.0 p.1 q.0 q.1 in
      let upper : c / 0x1000 ≡ u = omega (arith, r.1, o.1) in
      let middle : c / 0x40 ≡ v = omega (arith, o.1) in
      let first : 0xf0 + c / 0x40000 ≡ a = omega (arith, upper, p.0, low_is, q.1, higher_is) in
      let second : 0x80 + c / 0x1000 % 0x40 ≡ b = rw upper (omega (arith, q.0, lower_is, q.1, higher_is)) in
      let third : 0x80 + c / 0x40 % 0x40 ≡ e = rw middle (omega (arith, r.0, r.1)) in
      let fourth : 0x80 + c % 0x40 ≡ g = omega (arith, o.0, o.1) in
      let least : 0x10000 ≤ c = omega (arith, facts.0) in
      let most : c < 0x110000 = omega (arith, facts.1, r.1, o.1) in
      back (a ∷ b ∷ e ∷ g ∷ []) c (scalar_high c (omega (arith, least)) most) (four_bytes c least ∙ rw (first, second, third, fourth) refl)

-- A sequence by its length
module _ (f : Form) where
  of_one : ((a : ℕ) → T (begin f (a ∷ [])) → Back (a ∷ []) (point_of (a ∷ []))) → (s : List ℕ) → length s ≡ 1 → T (begin f s) → Back s (point_of s)
  of_one g [] e t = absurd (omega (arith, e))
  of_one g (a ∷ []) e t = g a t
  of_one g (a ∷ b ∷ s) e t = absurd (omega (arith, e))

  of_two : ((a b : ℕ) → T (begin f (a ∷ b ∷ [])) → Back (a ∷ b ∷ []) (point_of (a ∷ b ∷ []))) → (s : List ℕ) → length s ≡ 2 → T (begin f s) → Back s (point_of s)
  of_two g [] e t = absurd (omega (arith, e))
  of_two g (a ∷ []) e t = absurd (omega (arith, e))
  of_two g (a ∷ b ∷ []) e t = g a b t
  of_two g (a ∷ b ∷ d ∷ s) e t = absurd (omega (arith, e))

  of_three : ((a b d : ℕ) → T (begin f (a ∷ b ∷ d ∷ [])) → Back (a ∷ b ∷ d ∷ []) (point_of (a ∷ b ∷ d ∷ []))) → (s : List ℕ) → length s ≡ 3 → T (begin f s)
      → Back s (point_of s)
  of_three g [] e t = absurd (omega (arith, e))
  of_three g (a ∷ []) e t = absurd (omega (arith, e))
  of_three g (a ∷ b ∷ []) e t = absurd (omega (arith, e))
  of_three g (a ∷ b ∷ d ∷ []) e t = g a b d t
  of_three g (a ∷ b ∷ d ∷ h ∷ s) e t = absurd (omega (arith, e))

  of_four : ((a b d h : ℕ) → T (begin f (a ∷ b ∷ d ∷ h ∷ [])) → Back (a ∷ b ∷ d ∷ h ∷ []) (point_of (a ∷ b ∷ d ∷ h ∷ []))) → (s : List ℕ) → length s ≡ 4
      → T (begin f s) → Back s (point_of s)
  of_four g [] e t = absurd (omega (arith, e))
  of_four g (a ∷ []) e t = absurd (omega (arith, e))
  of_four g (a ∷ b ∷ []) e t = absurd (omega (arith, e))
  of_four g (a ∷ b ∷ d ∷ []) e t = absurd (omega (arith, e))
  of_four g (a ∷ b ∷ d ∷ h ∷ []) e t = g a b d h t
  of_four g (a ∷ b ∷ d ∷ h ∷ i ∷ s) e t = absurd (omega (arith, e))

-- and by its line
by_line : (k : ℕ) → k < 9 → (s : List ℕ) → length s ≡ length (get_or forms k []) → T (begin (get_or forms k []) s) → Back s (point_of s)
by_line zero h s e t = of_one (get_or forms 0 []) back_one s e t
by_line (suc zero) h s e t = of_two (get_or forms 1 []) back_two s e t
by_line (suc (suc zero)) h s e t = of_three (get_or forms 2 [])
    (back_three 0xe0 0xe0 0xa0 0xbf (omega arith) (omega arith) (omega arith) (omega arith)
    (λ a b l h m n d o. (omega (arith, l, h, m, n, o), inl (omega (arith, l, h, m, n, o))))) s e t
by_line (suc (suc (suc zero))) h s e t = of_three (get_or forms 3 [])
    (back_three 0xe1 0xec 0x80 0xbf (omega arith) (omega arith) (omega arith) (omega arith)
    (λ a b l h m n d o. (omega (arith, l, h, m, n, o), inl (omega (arith, l, h, m, n, o))))) s e t
by_line (suc (suc (suc (suc zero)))) h s e t = of_three (get_or forms 4 [])
    (back_three 0xed 0xed 0x80 0x9f (omega arith) (omega arith) (omega arith) (omega arith)
    (λ a b l h m n d o. (omega (arith, l, h, m, n, o), inl (omega (arith, l, h, m, n, o))))) s e t
by_line (suc (suc (suc (suc (suc zero))))) h s e t = of_three (get_or forms 5 [])
    (back_three 0xee 0xef 0x80 0xbf (omega arith) (omega arith) (omega arith) (omega arith)
    (λ a b l h m n d o. (omega (arith, l, h, m, n, o), inr (omega (arith, l, h, m, n, o))))) s e t
by_line (suc (suc (suc (suc (suc (suc zero)))))) h s e t = of_four (get_or forms 6 [])
    (back_four 0xf0 0xf0 0x90 0xbf (omega arith) (omega arith) (omega arith) (omega arith)
    (λ a b l h m n. (omega (arith, l, h, m, n), omega (arith, l, h, m, n)))) s e t
by_line (suc (suc (suc (suc (suc (suc (suc zero))))))) h s e t = of_four (get_or forms 7 [])
    (back_four 0xf1 0xf3 0x80 0xbf (omega arith) (omega arith) (omega arith) (omega arith)
    (λ a b l h m n. (omega (arith, l, h, m, n), omega (arith, l, h, m, n)))) s e t
by_line (suc (suc (suc (suc (suc (suc (suc (suc zero)))))))) h s e t = of_four (get_or forms 8 [])
    (back_four 0xf4 0xf4 0x80 0x8f (omega arith) (omega arith) (omega arith) (omega arith)
    (λ a b l h m n. (omega (arith, l, h, m, n), omega (arith, l, h, m, n)))) s e t
by_line (suc (suc (suc (suc (suc (suc (suc (suc (suc k))))))))) h s e t = absurd (omega (arith, h))

pub well_formed_encoded : WellFormedEncoded
well_formed_encoded s w = by_line w.line w.there s w.whole w.fits
