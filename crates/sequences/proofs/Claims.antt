-- The claims (specs/Claims.antt) but for those of `Inverse`. A first byte is in no later byte's range (one computed test): so no sequence begins inside another. Assumes nothing.
use mathlib.Core.Bool.{Bool, true, false, ◌&&◌, ◌||◌}
use mathlib.Core.List.{List, [], ◌∷◌}
use mathlib.Core.Logic.{⊎_elim}
use mathlib.Core.Path.{◌≡◌, refl, sym, ap, ◌∙◌}
use Prim.Native.Nat.{ℕ, zero, suc, ◌+◌, ◌-◌, ◌≤◌, ◌<◌}
use native.Mathlib.Omega.{arith}
use lib.Dec.{T, leb, ltb, leb→le, ltb→lt}
use lib.ListN.{length, get_or, drop}
use lib.Seq.{get_or-take, get_or-drop}
use Rattle.rules.proofs.Finite.{every, below, at_below, and_left, and_right, le_or_lt}
use Rattle.sequences.specs.Forms.{Range, Form, forms, within, begin, WellFormed}
use Rattle.sequences.specs.Claims.{StandsAt, SequencesApart, OneNext}
use Rattle.sequences.proofs.Fronts.{T_of}

-- NO TWO OVERLAP: the ranges of later bytes, and those of first bytes
abbrev later : Range → Bool
later r = leb 0x80 r.0 && leb r.1 0xbf

abbrev first : Range → Bool
first r = ltb r.1 0x80 || ltb 0xbf r.0

abbrev well_made : Form → Bool
well_made [] = false
well_made (r ∷ f) = first r && every later f

well_made_lem : T (below (λ k. well_made (get_or forms k [])) 9)
well_made_lem = tt

-- a later byte of a sequence
later_byte : (f : Form) (s : List ℕ) (k : ℕ) → T (every later f) → T (begin f s) → k < length f → (0x80 ≤ get_or s k 0) × (get_or s k 0 ≤ 0xbf)
later_byte [] s k l t h = absurd (omega (arith, h))
later_byte (r ∷ f) [] k l t h = absurd t
later_byte (r ∷ f) (b ∷ s) zero l t h =
    let inside = and_left (within r b) (begin f s) t in
    let bounds = and_left (later r) (every later f) l in (
      omega (arith, leb→le 0x80 r.0 (and_left (leb 0x80 r.0) (leb r.1 0xbf) bounds), leb→le r.0 b (and_left (leb r.0 b) (leb b r.1) inside)),
      omega (arith, leb→le r.1 0xbf (and_right (leb 0x80 r.0) (leb r.1 0xbf) bounds), leb→le b r.1 (and_right (leb r.0 b) (leb b r.1) inside)),
    )
later_byte (r ∷ f) (b ∷ s) (suc k) l t h = later_byte f s k (and_right (later r) (every later f) l) (and_right (within r b) (begin f s) t) (omega (arith, h))

-- so is every byte of a sequence but the first
inner_byte : (f : Form) (s : List ℕ) (k : ℕ) → T (well_made f) → T (begin f s) → suc k < length f → (0x80 ≤ get_or s (suc k) 0) × (get_or s (suc k) 0 ≤ 0xbf)
inner_byte [] s k m t h = absurd m
inner_byte (r ∷ f) [] k m t h = absurd t
inner_byte (r ∷ f) (b ∷ s) k m t h = later_byte f s k (and_right (first r) (every later f) m) (and_right (within r b) (begin f s) t) (omega (arith, h))

-- and the first is none such
first_byte : (f : Form) (s : List ℕ) → T (well_made f) → T (begin f s) → 0x80 ≤ get_or s 0 0 → get_or s 0 0 ≤ 0xbf → ⊥
first_byte [] s m t l h = m
first_byte (r ∷ f) [] m t l h = t
first_byte (r ∷ f) (b ∷ s) m t l h =
    let inside = and_left (within r b) (begin f s) t in
    let low = leb→le r.0 b (and_left (leb r.0 b) (leb b r.1) inside) in
    let high = leb→le b r.1 (and_right (leb r.0 b) (leb b r.1) inside) in
    go (ltb r.1 0x80) refl (and_left (first r) (every later f) m) low high
  where
    go : (x : Bool) → ltb r.1 0x80 ≡ x → T (x || ltb 0xbf r.0) → r.0 ≤ b → b ≤ r.1 → ⊥
    go true e u low high = omega (arith, ltb→lt r.1 0x80 (T_of (ltb r.1 0x80) e), high, l)
    go false e u low high = omega (arith, ltb→lt 0xbf r.0 u, low, h)

made : (s : List ℕ) (w : WellFormed s) → T (well_made (get_or forms w.line []))
made s w = at_below (λ k. well_made (get_or forms k [])) 9 well_made_lem w.line w.there

-- a byte of what stands at a place
byte_there : (bytes : List ℕ) (i : ℕ) (s : List ℕ) (k : ℕ) → StandsAt bytes i s → k < length s → get_or s k 0 ≡ get_or bytes (i + k) 0
byte_there bytes i s k e h = sym (ap (λ (x : List ℕ). get_or x k 0) e) ∙ get_or-take (length s) (drop i bytes) k 0 h ∙ get_or-drop i bytes k 0

some_byte : (s : List ℕ) → WellFormed s → 0 < length s
some_byte s w = go (get_or forms w.line []) w.whole (made s w)
  where
    go : (f : Form) → length s ≡ length f → T (well_made f) → 0 < length s
    go [] e m = absurd m
    go (r ∷ f) e m = omega (arith, e)

pub sequences_apart : SequencesApart
sequences_apart bytes i j s u v w at_i at_j h = ⊎_elim (λ q. q) (λ q. absurd (clash q)) (le_or_lt (i + length s) j)
  where
    clash : j < i + length s → ⊥
    clash q =
        let k : ℕ = j - suc i in
        let place : i + suc k ≡ j = omega (arith, h) in
        let here : suc k < length s = omega (arith, q, place) in
        let same : get_or s (suc k) 0 ≡ get_or u 0 0 =
        byte_there bytes i s (suc k) at_i here ∙ ap (λ (n : ℕ). get_or bytes n 0) (omega (arith, place)) ∙ sym (byte_there bytes j u 0 at_j (some_byte u w)) in
        let inner = inner_byte (get_or forms v.line []) s k (made s v) v.fits (omega (arith, here, v.whole)) in
        first_byte (get_or forms w.line []) u (made u w) w.fits (omega (arith, inner.0, same)) (omega (arith, inner.1, same))

pub one_next : OneNext
one_next bytes rest at r q a b i = record { point = (a.point ∙ sym b.point) i; next = (a.next ∙ sym b.next) i }
