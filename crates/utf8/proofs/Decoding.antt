-- All code points of some bytes. In order: one sequence and then the rest; between two sequences (`Mid`): the code points
-- still to come, stored behind those that are, make the whole; with room for all of them. Assumes nothing.
use mathlib.Core.List.{List, [], ◌∷◌}
use mathlib.Core.Path.{◌≡◌, refl, sym, ap, ◌∙◌}
use Prim.Native.Nat.{ℕ, zero, suc, ◌+◌, ◌-◌, ◌≤◌, ◌<◌}
use native.Mathlib.Omega.{arith}
use native.Mathlib.Nat.{not-suc-le-zero, zero-add}
use lib.ListN.{length, take, drop, set, length-drop}
use lib.Seq.{drop-drop, take_all, sets}
use Rattle.rows.specs.Laid.{laid}
use Rattle.rows.proofs.Laid.{front}
use Rattle.rows.proofs.Stored.{stored_is}
use Rattle.sequences.specs.Points.{length_at, point_at}
use Rattle.sequences.specs.Leads.{NextIs}
use Rattle.sequences.specs.declared.Next.{Next}
use Rattle.utf8.specs.Decoding.{decoded_from, decoded, Decoded}

-- ONE SEQUENCE, and then the rest
pub behind : (k : ℕ) (bs : List ℕ) → decoded_from k bs ≡ decoded (drop k bs)
behind zero bs = refl
behind (suc k) [] = refl
behind (suc k) (b ∷ bs) = behind k bs

first_on : (bs : List ℕ) → 0 < length bs → decoded bs ≡ point_at bs ∷ decoded (drop (suc (length_at bs - 1)) bs)
first_on [] h = absurd (not-suc-le-zero h)
first_on (b ∷ bs) h = ap (λ (t : List ℕ). point_at (b ∷ bs) ∷ t) (behind (length_at (b ∷ bs) - 1) bs)

-- the same at a place of some bytes
pub decoded_on : (bytes : List ℕ) (at next : ℕ) → 0 < length (drop at bytes) → next ≡ at + suc (length_at (drop at bytes) - 1)
    → decoded (drop at bytes) ≡ point_at (drop at bytes) ∷ decoded (drop next bytes)
decoded_on bytes at next h e =
    first_on (drop at bytes) h
    ∙ ap (λ (r : List ℕ). point_at (drop at bytes) ∷ decoded r) (drop-drop (suc (length_at (drop at bytes) - 1)) at bytes ∙ ap (λ (k : ℕ). drop k bytes) (sym e))

-- what `next` gives and leaves
pub first_decoded : (bytes : List ℕ) (r : Next) → NextIs bytes bytes 0 r → 0 < length bytes → decoded bytes ≡ r.point ∷ decoded (take (length bytes - r.next) (drop r.next bytes))
first_decoded bytes r n some =
    let all : take (length bytes - r.next) (drop r.next bytes) ≡ drop r.next bytes = take_all (length bytes - r.next) (drop r.next bytes) (omega (arith, length-drop r.next bytes)) in
    let next : r.next ≡ suc (length_at bytes - 1) = omega (arith, n.next) in
    rw (all, n.point, next) (first_on bytes some)

-- a text has no more code points than bytes
pub few_points : (bs : List ℕ) → length (decoded bs) ≤ length bs
few_points bs = go 0 bs
  where
    go : (k : ℕ) (bs : List ℕ) → length (decoded_from k bs) ≤ length bs
    go k [] = omega arith
    go (suc k) (b ∷ bs) = omega (arith, go k bs)
    go zero (b ∷ bs) = omega (arith, go (length_at (b ∷ bs) - 1) bs)

-- BETWEEN TWO SEQUENCES, of which `rest` are the bytes that are left
pub record Mid (bytes lent text rest : List ℕ) (count : ℕ) : Type 0 where
  pub counted : count + length (decoded rest) ≡ length (decoded bytes)
  pub stored : sets text count (decoded rest) ≡ sets lent 0 (decoded bytes)

module _ (bytes lent : List ℕ) where
  pub mid_start : Mid bytes lent lent bytes 0
  mid_start = record { counted = zero-add (length (decoded bytes)); stored = refl }

  module _ (text rest : List ℕ) (count : ℕ) (m : Mid bytes lent text rest count) where
    pub mid_room : 0 < length (decoded rest) → count < length bytes
    mid_room h = omega (arith, h, m.counted, few_points bytes)

    pub mid_on : (p : ℕ) (next : List ℕ) → decoded rest ≡ p ∷ decoded next → Mid bytes lent (set text count p) next (count + 1)
    mid_on p next e =
        let count_on : count + 1 ≡ suc count = omega arith in record {
          counted = omega (arith, m.counted, ap length e);
          stored = rw count_on (sym (ap (λ (t : List ℕ). sets text count t) e) ∙ m.stored);
        }

    pub mid_done : decoded rest ≡ [] → Decoded bytes lent count text × (count ≤ length bytes)
    mid_done none = (
      record {
        count = omega (arith, m.counted, ap length none);
        text = sym (ap (λ (t : List ℕ). sets text count t) none) ∙ m.stored ∙ stored_is (decoded bytes) lent;
      },
      omega (arith, m.counted, few_points bytes),
    )

-- WITH ROOM FOR ALL OF IT: the code points are laid in front of what was lent, and are what stands before their count
module _ (bytes lent : List ℕ) (count : ℕ) (new : List ℕ) (room : length bytes ≤ length lent) (d : Decoded bytes lent count new) (few : count ≤ length bytes) where
  pub all_laid : new ≡ laid (decoded bytes) lent
  all_laid = d.text ∙ ap (λ (t : List ℕ). laid t lent) (take_all (length lent) (decoded bytes) (omega (arith, d.count, few, room)))

  pub all_points : take count new ≡ decoded bytes
  all_points = front (decoded bytes) lent new count d.count all_laid

  pub all_counted : count ≡ length (take count new)
  all_counted = d.count ∙ sym (ap length all_points)
