-- The sequence with which some bytes begin. The lines of table 3-7 stand in the order of their first bytes (one computed test): so a sequence is found by its own line. In order: a sequence, whatever
-- follows; where none is found. Assumes nothing.
use mathlib.Core.Bool.{Bool, true, false, ◌&&◌, cond}
use mathlib.Core.List.{List, [], ◌∷◌, ◌++◌}
use mathlib.Core.Logic.{◌⊎◌, inl, inr}
use mathlib.Core.Path.{◌≡◌, refl, sym, ap, ◌∙◌}
use Prim.Native.Nat.{ℕ, suc, ◌≤◌, ◌<◌}
use native.Mathlib.Omega.{arith}
use lib.Dec.{T, leb, leb→le}
use lib.ListN.{length, get_or, take, drop}
use lib.Seq.{split_at, length-take-le}
use Rattle.rules.proofs.Finite.{every, below, at_below, and_left, and_right}
use Rattle.sequences.specs.Forms.{Form, forms, within, begin, WellFormed}
use Rattle.sequences.specs.Points.{length_in, length_at}
use Rattle.sequences.proofs.Table.{ends_below, starts_above, line_is}
use Rattle.sequences.proofs.Sequences.{begin_room, begin_take}

true_of : (b : Bool) → T b → b ≡ true
true_of true t = refl
true_of false t = absurd t

pub T_of : (b : Bool) → b ≡ true → T b
T_of true e = tt
T_of false e = absurd (let z : ◌≡◌ {A = ℕ} 0 1 = cc in omega (arith, z))

-- THE LINES STAND IN ORDER
abbrev in_order : List Form → Form → List Form → Bool
in_order fs [] gs = false
in_order fs (r ∷ f) gs = every (ends_below r.0) fs && every (starts_above r.1) gs

ordered : T (below (λ k. in_order (take k forms) (get_or forms k []) (drop (suc k) forms)) 9)
ordered = tt

-- what begins with a form still does with more behind it
begin_more : (f : Form) (s bs : List ℕ) → T (begin f s) → begin f (s ++ bs) ≡ true
begin_more [] s bs t = refl
begin_more (r ∷ f) [] bs t = absurd t
begin_more (r ∷ f) (b ∷ s) bs t = rw (true_of (within r b) (and_left (within r b) (begin f s) t)) (begin_more f s bs (and_right (within r b) (begin f s) t))

length_by : (fs gs : List Form) (f : Form) (s bs : List ℕ) → T (in_order fs f gs) → length s ≡ length f → T (begin f s) → length_in (fs ++ f ∷ gs) (s ++ bs) ≡ length s
length_by fs gs [] s bs o e t = absurd o
length_by fs gs (r ∷ f) [] bs o e t = absurd t
length_by fs gs (r ∷ f) (b ∷ s) bs o e t =
    let inside = and_left (within r b) (begin f s) t in
    let low : r.0 ≤ b = leb→le r.0 b (and_left (leb r.0 b) (leb b r.1) inside) in
    let high : b ≤ r.1 = leb→le b r.1 (and_right (leb r.0 b) (leb b r.1) inside) in
    line_is fs gs f r.0 r.1 b (s ++ bs)
    (and_left (every (ends_below r.0) fs) (every (starts_above r.1) gs) o)
    (and_right (every (ends_below r.0) fs) (every (starts_above r.1) gs) o) low high
    ∙ rw (begin_more f s bs (and_right (within r b) (begin f s) t)) (sym e)

pub sequence_length : (s bs : List ℕ) → WellFormed s → length_at (s ++ bs) ≡ length s
sequence_length s bs w =
    let k = w.line in
    let f : Form = get_or forms k [] in
    ap (λ (x : List Form). length_in x (s ++ bs)) (split_at forms k [] w.there)
    ∙ length_by (take k forms) (drop (suc k) forms) f s bs (at_below (λ i. in_order (take i forms) (get_or forms i []) (drop (suc i) forms)) 9 ordered k w.there) w.whole w.fits

-- no sequence is empty
pub none_empty : WellFormed [] → ⊥
none_empty w = no_form (get_or forms w.line []) (at_below (λ i. in_order (take i forms) (get_or forms i []) (drop (suc i) forms)) 9 ordered w.line w.there) w.fits
  where
    no_form : (f : Form) → T (in_order (take w.line forms) f (drop (suc w.line) forms)) → T (begin f []) → ⊥
    no_form [] o t = o
    no_form (r ∷ f) o t = t

-- A BYTE OUTSIDE: where the front is none of the table's, no line is found
found : (fs : List Form) (bs : List ℕ) → (length_in fs bs ≡ 0) ⊎ ((k : ℕ) × (k < length fs) × T (begin (get_or fs k []) bs))
found [] bs = inl refl
found (f ∷ fs) bs = go (begin f bs) refl (found fs bs)
  where
    go : (x : Bool) → begin f bs ≡ x → (length_in fs bs ≡ 0) ⊎ ((k : ℕ) × (k < length fs) × T (begin (get_or fs k []) bs))
        → (cond x (length f) (length_in fs bs) ≡ 0) ⊎ ((k : ℕ) × (k < suc (length fs)) × T (begin (get_or (f ∷ fs) k []) bs))
    go true e h = inr (0, omega arith, T_of (begin f bs) e)
    go false e (inl h) = inl h
    go false e (inr h) = inr (suc h.0, omega (arith, h.1), h.2)

pub none_found : (bs : List ℕ) → ((n : ℕ) → WellFormed (take n bs) → ⊥) → length_at bs ≡ 0
none_found bs none = go (found forms bs)
  where
    none_there : (k : ℕ) → k < length forms → T (begin (get_or forms k []) bs) → ⊥
    none_there k h t =
        let f : Form = get_or forms k [] in
        none (length f) (record {
          line = k;
          there = h;
          whole = length-take-le (length f) bs (begin_room f bs (true_of (begin f bs) t));
          fits = rw (begin_take f bs) t;
        })

    go : (length_at bs ≡ 0) ⊎ ((k : ℕ) × (k < length forms) × T (begin (get_or forms k []) bs)) → length_at bs ≡ 0
    go (inl e) = e
    go (inr h) = absurd (none_there h.0 h.1 h.2)
