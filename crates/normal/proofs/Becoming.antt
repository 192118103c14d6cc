-- What one code point becomes: the laws that the functions of one code point cite. º or ª after a digit gets its full stop (`stop_before`);
-- any other code point becomes what the list of replacements says (`no_stop`), and that is three full stops (`three_stops`) or one code point
-- (`one`): each replacement of the list is tested for it. A code point that is in no arm of the look-up is kept (`rest_same`). Assumes
-- nothing.
use mathlib.Core.Path.{◌≡◌, sym, ◌∙◌, ap}
use mathlib.Core.Logic.{⊎_elim}
use mathlib.Core.Bool.{Bool, true, false, ◌&&◌, ◌||◌, not}
use mathlib.Core.List.{List, [], ◌∷◌}
use Prim.Native.Nat.{ℕ}
use Prim.Native.Char.{Char, code}
use Prim.Native.String.{String}
use native.Mathlib.Omega.{arith}
use lib.Dec.{T, eqb, eqb→eq}
use lib.ListN.{length, drop}
use borrow.Author.Tests.{ne_eqb}
use Rattle.rules.specs.Cells.{print}
use Rattle.rules.specs.Normal.{replacements, replaced_by, is_ordinal_point, becomes}
use Rattle.rules.proofs.Finite.{every, and_both}
use Rattle.rules.proofs.Normal.{kept, kept_same, kept_or}

stops : (c : ℕ) → c ≡ code "…" → replaced_by replacements c ≡ print "..."
unfolding replacements replaced_by
stops c e = rw e

-- what a code point becomes, once it is told whether a full stop comes before it
module _ (d : Bool) (c : ℕ) (r : Bool) (tells : r ≡ (d && is_ordinal_point c)) where
  pub stop_before : r ≡ true → becomes d c ≡ code "." ∷ c ∷ []
  stop_before e = rw (sym tells ∙ e)

  pub no_stop : r ≡ false → becomes d c ≡ replaced_by replacements c
  no_stop e = rw (sym tells ∙ e)

  pub three_stops : r ≡ false → c ≡ code "…" → becomes d c ≡ print "..."
  three_stops e q = no_stop e ∙ stops c q

-- TEST: of the replacements, … alone becomes more than one code point
abbrev one_or_ellipsis : Char × String → Bool
one_or_ellipsis r = eqb (code r.0) (code "…") || eqb (length (print r.1)) 1

one_holds : T (every one_or_ellipsis replacements)
unfolding replacements
one_holds = tt

pub one : (c : ℕ) → (c ≡ code "…" → ⊥) → length (replaced_by replacements c) ≡ 1
one c ne =
    ⊎_elim (λ k. ap length (kept_same replacements c k))
    (λ h. ap length h.2 ∙ eqb→eq (length (print h.0.1)) 1 (rw (ne_eqb (code h.0.0) (code "…") (λ e. ne (sym h.1 ∙ e))) at h.3))
    (kept_or one_or_ellipsis replacements one_holds c)

-- What the `_` arm of a `match` knows, whose arms are those of a list in their order: that the code point is none of them.
abbrev pub Others : Type 0 → List (Char × String) → ℕ → Type 0
Others A [] c = A
Others A (r ∷ rs) c = Others (A × (c ≡ code r.0 → ⊥)) rs c

others_kept : (A : Type 0) (rs : List (Char × String)) (c : ℕ) → Others A rs c → A × T (kept rs c)
others_kept A [] c h = (h, tt)
others_kept A (r ∷ rs) c h =
    let i = others_kept (A × (c ≡ code r.0 → ⊥)) rs c h in
    (i.0.0, and_both (not (eqb (code r.0) c)) (kept rs c) (rw (ne_eqb (code r.0) c (λ e. i.0.1 (sym e))) tt) i.1)

-- the replacements but the first, which is that of …, are the arms of `replacement`
pub rest_same : (c : ℕ) → length (replaced_by replacements c) ≡ 1 → Others (Unit {0}) (drop 1 replacements) c → replaced_by replacements c ≡ c ∷ []
unfolding replacements
rest_same c l h =
    let ne : c ≡ code "…" → ⊥ = λ e. (let z : ◌≡◌ {A = ℕ} 3 1 = sym (ap length (stops c e)) ∙ l in omega arith) in
    kept_same replacements c
    (and_both (not (eqb (code "…") c)) (kept (drop 1 replacements) c) (rw (ne_eqb (code "…") c (λ e. ne (sym e))) tt)
    (others_kept (Unit {0}) (drop 1 replacements) c h).1)
