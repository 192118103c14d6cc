-- The code point at a place of some bytes. In order: how many bytes a form looks at; a byte outside any sequence; a sequence that is cut; a
-- whole sequence; the same where the later bytes are a slice. Assumes nothing.
use mathlib.Core.Bool.{Bool, true, false, ◌&&◌, cond}
use mathlib.Core.List.{List, [], ◌∷◌}
use mathlib.Core.Path.{◌≡◌, refl, sym, ap, subst, ◌∙◌}
use Prim.Native.Nat.{ℕ, suc, ◌+◌, ◌-◌, ◌≤◌, ◌<◌, zero-le}
use native.Mathlib.Omega.{arith}
use lib.Dec.{eqb-suc-zero}
use lib.ListN.{length, get_or, take, drop, length-drop}
use lib.Seq.{drop-cons, length-take-le, take-take}
use Rattle.rules.proofs.Finite.{and_false}
use Rattle.std.specs.Prelude.{Option, Some, None, slice_range}
use Rattle.std.specs.Option.{unwrap_or}
use Rattle.sequences.specs.Forms.{Form, within, begin, mark_of, joined, point_of}
use Rattle.sequences.specs.Points.{length_at, point_at, point_by}
use Rattle.sequences.specs.Leads.{later_form, Begun, JoinedIs, SequenceIs, NextIs}
use Rattle.encoding.specs.Encoding.{replacement}
use Rattle.sequences.specs.declared.Lead.{Lead}
use Rattle.sequences.specs.declared.Next.{Next}
use Rattle.sequences.proofs.Table.{length_later}

-- what begins with a form is as long
pub begin_room : (f : Form) (bs : List ℕ) → begin f bs ≡ true → length f ≤ length bs
begin_room [] bs e = zero-le
begin_room (r ∷ f) [] e = absurd (no_true e)
  where
    no_true : false ≡ true → ⊥
    no_true e = let z : ◌≡◌ {A = ℕ} 0 1 = cc in absurd (omega (arith, z))
begin_room (r ∷ f) (b ∷ bs) e = omega (arith, begin_room f bs (go (within r b) e))
  where
    go : (x : Bool) → x && begin f bs ≡ true → begin f bs ≡ true
    go true h = h
    go false h = absurd (let z : ◌≡◌ {A = ℕ} 0 1 = cc in omega (arith, z))

-- what has fewer bytes than a form does not begin with it
begin_short : (f : Form) (bs : List ℕ) → length bs < length f → begin f bs ≡ false
begin_short [] bs h = absurd (omega (arith, h))
begin_short (r ∷ f) [] h = refl
begin_short (r ∷ f) (b ∷ bs) h = rw (begin_short f bs (omega (arith, h))) (and_false (within r b))

-- only as many bytes as a form has are looked at
pub begin_take : (f : Form) (bs : List ℕ) → begin f (take (length f) bs) ≡ begin f bs
begin_take [] bs = refl
begin_take (r ∷ f) [] = refl
begin_take (r ∷ f) (b ∷ bs) = ap (λ (x : Bool). within r b && x) (begin_take f bs)

module _ (bytes : List ℕ) (at b : ℕ) (there : at < length bytes) (byte : b ≡ get_or bytes at 0) where
  pub rest_is : drop at bytes ≡ b ∷ drop (at + 1) bytes
  rest_is =
      let one_on : at + 1 ≡ suc at = omega arith in
      rw (byte, one_on) (drop-cons bytes at 0 there)

  -- no well-formed sequence begins here
  pub next_outside : length_at (b ∷ drop (at + 1) bytes) ≡ 0 → (r : Next) → (r.point ≡ replacement) × (r.next ≡ at + 1) → NextIs bytes (drop at bytes) at r
  next_outside e r h =
      let none : length_at (drop at bytes) ≡ 0 = ap length_at rest_is ∙ e in record {
        point = h.0 ∙ sym (ap (λ (n : ℕ). point_by n (drop at bytes)) none);
        next = h.1 ∙ sym (ap (λ (n : ℕ). at + suc (n - 1)) none);
        inside = omega (arith, h.1, there);
      }

  -- the sequence that begins here; or none does
  pub next_here : (found : Option Next) (other r : Next) → SequenceIs bytes at found → r ≡ unwrap_or found other
      → (other.point ≡ replacement) × (other.next ≡ at + 1) → NextIs bytes (drop at bytes) at r
  next_here None other r s e h = subst (NextIs bytes (drop at bytes) at) (sym e) (next_outside (sym (ap length_at rest_is) ∙ s) other h)
  next_here (Some next) other r s e h = subst (NextIs bytes (drop at bytes) at) (sym e) s

  module _ (n low high mark : ℕ) (begun : Begun b n low high mark) where
    -- the later bytes are not those of the sequence
    pub cut : JoinedIs (later_form n low high) (b - mark) (drop (at + 1) bytes) None → length_at (b ∷ drop (at + 1) bytes) ≡ 0
    cut j = begun.sequence (drop (at + 1) bytes) ∙ ap (λ (x : Bool). cond x (suc n) 0) j

    module _ (v : ℕ) (j : JoinedIs (later_form n low high) (b - mark) (drop (at + 1) bytes) (Some v)) where
      -- the later bytes are there
      pub later_there : n ≤ length bytes - (at + 1)
      later_there = subst (λ (k : ℕ). n ≤ k) (length-drop (at + 1) bytes)
          (subst (λ (k : ℕ). k ≤ length (drop (at + 1) bytes)) (length_later n low high) (begin_room (later_form n low high) (drop (at + 1) bytes) j.0))

      pub next_whole : (r : Next) → r.point ≡ v → r.next ≡ at + 1 + n → NextIs bytes (drop at bytes) at r
      next_whole r e f =
          let rest : List ℕ = drop (at + 1) bytes in
          let whole : length_at (b ∷ rest) ≡ suc n = begun.sequence rest ∙ ap (λ (x : Bool). cond x (suc n) 0) j.0 in
          let width : length (take n rest) ≡ n = length-take-le n rest (rw length-drop later_there) in
          let value : joined (b - mark) (take n rest) ≡ point_of (b ∷ take n rest) =
          ap (λ (k : ℕ). joined (b - k) (take n rest)) (begun.marked ∙ sym (ap (λ (k : ℕ). mark_of (suc k)) width)) in
          let there_is : point_by (suc n) (b ∷ rest) ≡ point_of (b ∷ take n rest) = rw (eqb-suc-zero n) refl in
          let point_is : v ≡ point_at (b ∷ rest) =
          j.1 ∙ ap (λ (k : ℕ). joined (b - mark) (take k rest)) (length_later n low high) ∙ value ∙ sym there_is
          ∙ sym (ap (λ (k : ℕ). point_by k (b ∷ rest)) whole) in
          let length_is : length_at (drop at bytes) ≡ suc n = ap length_at rest_is ∙ whole in record {
            point = e ∙ point_is ∙ sym (ap point_at rest_is);
            next = f ∙ (omega (arith, length_is));
            inside = omega (arith, f, later_there, there);
          }

-- THE LATER BYTES AS A SLICE of so many as the first byte asks for
module _ (bytes : List ℕ) (at : ℕ) (there : at < length bytes) (l : Lead) (begun : Begun (get_or bytes at 0) l.later l.least l.most l.mark) where
  none_there : length_at (get_or bytes at 0 ∷ drop (at + 1) bytes) ≡ 0 → length_at (drop at bytes) ≡ 0
  none_there e = ap length_at (rest_is bytes at (get_or bytes at 0) there refl) ∙ e

  -- there are fewer
  pub too_few : length bytes < at + 1 + l.later → length_at (drop at bytes) ≡ 0
  too_few h =
      none_there (cut bytes at (get_or bytes at 0) there refl l.later l.least l.most l.mark begun
      (begin_short (later_form l.later l.least l.most) (drop (at + 1) bytes) (omega (arith, h, length-drop (at + 1) bytes, length_later l.later l.least l.most))))

  module _ (later : List ℕ) (between : later ≡ slice_range bytes (at + 1) (at + 1 + l.later)) where
    -- what it gives, all the bytes behind the first give
    all_joined : (r : Option ℕ) → JoinedIs (later_form l.later l.least l.most) (get_or bytes at 0 - l.mark) later r
        → JoinedIs (later_form l.later l.least l.most) (get_or bytes at 0 - l.mark) (drop (at + 1) bytes) r
    all_joined r j =
        let form : Form = later_form l.later l.least l.most in
        let rest : List ℕ = drop (at + 1) bytes in
        let width : at + 1 + l.later - (at + 1) ≡ l.later = omega arith in
        let is : later ≡ take (length form) rest = between ∙ ap (λ (k : ℕ). take k rest) (width ∙ sym (length_later l.later l.least l.most)) in
        go form rest r (subst (λ (bs : List ℕ). JoinedIs form (get_or bytes at 0 - l.mark) bs r) is j)
      where
        go : (f : Form) (rest : List ℕ) (r : Option ℕ) → JoinedIs f (get_or bytes at 0 - l.mark) (take (length f) rest) r → JoinedIs f (get_or bytes at 0 - l.mark) rest r
        go f rest None j = sym (begin_take f rest) ∙ j
        go f rest (Some v) j = (sym (begin_take f rest) ∙ j.0, j.1 ∙ ap (joined (get_or bytes at 0 - l.mark)) (take-take (length f) (length f) rest (omega arith)))

    pub none_joined : JoinedIs (later_form l.later l.least l.most) (get_or bytes at 0 - l.mark) later None → length_at (drop at bytes) ≡ 0
    none_joined j = none_there (cut bytes at (get_or bytes at 0) there refl l.later l.least l.most l.mark begun (all_joined None j))

    pub whole_joined : (v : ℕ) → JoinedIs (later_form l.later l.least l.most) (get_or bytes at 0 - l.mark) later (Some v)
        → NextIs bytes (drop at bytes) at (record { point = v; next = at + 1 + l.later })
    whole_joined v j = next_whole bytes at (get_or bytes at 0) there refl l.later l.least l.most l.mark begun v (all_joined (Some v) j) _ refl refl
