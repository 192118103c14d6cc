-- The length of normalised print by counting: each code point stays one, an … adds two, and a full stop before º or ª adds one (`length_counted`).
-- Assumes nothing.
use mathlib.Core.Path.{◌≡◌, refl, sym, ap, ◌∙◌, subst}
use mathlib.Core.Bool.{Bool, true, false, ◌&&◌}
use mathlib.Core.List.{[], ◌∷◌}
use Prim.Native.Nat.{ℕ, ◌+◌, ◌*◌}
use Prim.Native.Char.{code}
use native.Mathlib.Omega.{arith}
use lib.Dec.{T, eqb}
use lib.ListN.{length, length-append}
use borrow.Author.Tests.{eqb-true, eqb-false}
use Rattle.rules.specs.Cells.{Text}
use Rattle.rules.specs.Normal.{is_digit_point, is_ordinal_point, becomes, normal_after, normal_of}
use Rattle.rules.proofs.Finite.{and_right}
use Rattle.normal.specs.Counts.{one_if, ellipses_in, stops_after, stops_in}
use Rattle.normal.proofs.Becoming.{stop_before, no_stop, three_stops, one}

-- ONE CODE POINT. º and ª are no …
no_ellipsis : (d : Bool) (c : ℕ) → d && is_ordinal_point c ≡ true → eqb c (code "…") ≡ true → ⊥
unfolding is_ordinal_point
no_ellipsis d c s e =
    subst (λ (k : ℕ). T (is_ordinal_point k)) (eqb-true c (code "…") e) (and_right d (is_ordinal_point c) (rw s tt))

length_point : (d : Bool) (c : ℕ) → length (becomes d c) ≡ 1 + 2 * one_if (eqb c (code "…")) + one_if (d && is_ordinal_point c)
length_point d c = go (d && is_ordinal_point c) (eqb c (code "…")) refl refl
  where
    go : (s e : Bool) → d && is_ordinal_point c ≡ s → eqb c (code "…") ≡ e → length (becomes d c) ≡ 1 + 2 * one_if e + one_if s
    go true true is_s is_e = absurd (no_ellipsis d c is_s is_e)
    go true false is_s is_e = ap length (stop_before d c true (sym is_s) refl)
    go false true is_s is_e = ap length (three_stops d c false (sym is_s) refl (eqb-true c (code "…") is_e))
    go false false is_s is_e = ap length (no_stop d c false (sym is_s) refl) ∙ one c (eqb-false c (code "…") is_e)

-- A PRINT
length_after : (d : Bool) (p : Text) → length (normal_after d p) ≡ length p + 2 * ellipses_in p + stops_after d p
unfolding normal_after
length_after d [] = refl
length_after d (c ∷ p) =
    omega
    (arith, length-append (becomes d c) (normal_after (is_digit_point c) p), length_point d c, length_after (is_digit_point c) p)

pub length_counted : (p : Text) → length (normal_of p) ≡ length p + 2 * ellipses_in p + stops_in p
unfolding normal_of
length_counted p = length_after false p
