-- The claims (specs/Claims.antt), in their order, by what is known of the sequence with which some bytes begin. Assumes nothing.
use mathlib.Core.List.{List, [], ◌∷◌, ◌++◌}
use mathlib.Core.Path.{◌≡◌, refl, sym, ap, ◌∙◌}
use Prim.Native.Nat.{ℕ, suc, ◌-◌}
use native.Mathlib.Omega.{arith}
use lib.Dec.{eqb-suc-zero}
use lib.ListN.{length}
use lib.Seq.{take-append_seam, drop-append_seam}
use Rattle.encoding.specs.Encoding.{encoded_of}
use Rattle.sequences.specs.Forms.{point_of}
use Rattle.sequences.specs.Points.{length_at, point_by}
use Rattle.sequences.proofs.Fronts.{sequence_length, none_empty, none_found}
use Rattle.sequences.proofs.Inverse.{encoded_well_formed}
use Rattle.utf8.specs.Decoding.{decoded_from, decoded}
use Rattle.utf8.specs.Claims.{SequenceDecoded, OutsideDecoded, DecodedEncoded, NoMorePoints, WorkedBytes, OneDecoded}
use Rattle.utf8.proofs.Decoding.{behind, few_points}

pub sequence_decoded : SequenceDecoded
sequence_decoded [] bs w = absurd (none_empty w)
sequence_decoded (b ∷ s) bs w =
    let e : length_at (b ∷ (s ++ bs)) ≡ suc (length s) = sequence_length (b ∷ s) bs w in
    let point : point_by (suc (length s)) (b ∷ (s ++ bs)) ≡ point_of (b ∷ s) = rw (eqb-suc-zero (length s), take-append_seam s bs) refl in
    let rest : decoded_from (length_at (b ∷ (s ++ bs)) - 1) (s ++ bs) ≡ decoded bs =
    ap (λ (n : ℕ). decoded_from (n - 1) (s ++ bs)) e ∙ ap (λ (n : ℕ). decoded_from n (s ++ bs)) (omega arith) ∙ behind (length s) (s ++ bs) ∙ ap decoded (drop-append_seam s bs) in
    ap (λ (p : ℕ). p ∷ decoded_from (length_at (b ∷ (s ++ bs)) - 1) (s ++ bs)) (ap (λ (n : ℕ). point_by n (b ∷ (s ++ bs))) e ∙ point)
    ∙ ap (λ (t : List ℕ). point_of (b ∷ s) ∷ t) rest

pub outside_decoded : OutsideDecoded
outside_decoded b bs none = ap (λ (n : ℕ). point_by n (b ∷ bs) ∷ decoded_from (n - 1) bs) (none_found (b ∷ bs) none)

pub decoded_encoded : DecodedEncoded
decoded_encoded c bs e =
    let w = encoded_well_formed c e in
    sequence_decoded (encoded_of c) bs w.0 ∙ ap (λ (p : ℕ). p ∷ decoded bs) w.1

pub no_more_points : NoMorePoints
no_more_points = few_points

pub worked_bytes : WorkedBytes
worked_bytes = (refl, refl, refl, refl, refl, refl)

pub one_decoded : OneDecoded
one_decoded bytes lent r q new old a b = (a.count ∙ sym b.count, a.text ∙ sym b.text)
