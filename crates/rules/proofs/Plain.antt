-- Print that is taken code point by code point, without a copy. Of the code points that normalising replaces, “ ” ‹ › each become one other: `one_for`
-- is that one, and any other code point itself (… too, which becomes three). `plainly` takes each code point of a print so. Normalising it gives what
-- normalising the print gives (`normal_plainly`). It is what normalising gives where that makes the print no longer (`plainly_no_longer`), and so what is
-- normal has none of the four (`plainly_normal`). No sentence of the paper: a device of the code, which looks “ up as «. A law about `one_for` is shown at
-- each replacement of the list (`one_law`). Assumes nothing.
use mathlib.Core.Path.{◌≡◌, refl, sym, ◌∙◌, ap, subst}
use mathlib.Core.Logic.{◌⊎◌, inl, inr, ⊎_elim}
use mathlib.Core.Bool.{Bool, true, false, ◌&&◌, ◌||◌, not, cond}
use mathlib.Core.List.{List, [], ◌∷◌, ◌++◌, map}
use Prim.Native.Nat.{ℕ, zero, suc, ◌+◌}
use Prim.Native.Char.{code}
use native.Mathlib.Omega.{arith}
use lib.Dec.{T, eqb, eqb→eq}
use lib.ListN.{length, length-append, length-map, get_or, drop}
use Rattle.rules.specs.Cells.{Text}
use Rattle.rules.specs.Normal.{replacements, replaced_by, is_digit_point, is_ordinal_point, becomes, normal_after, normal_of}
use Rattle.rules.proofs.Finite.{every}
use Rattle.rules.proofs.Normal.{Replacement, kept, kept_same, kept_or, some_becomes, longer_after}

-- the code point of a text that has one alone, or else c
abbrev pub alone : Text → ℕ → ℕ
alone [] c = c
alone (k ∷ []) c = k
alone (k ∷ l ∷ w) c = c

-- the one code point that c becomes, or c itself
unfoldable pub one_for : ℕ → ℕ
unfolding replacements replaced_by
one_for c = alone (replaced_by replacements c) c

-- print with « for “, » for ”, ‘ for ‹ and ’ for ›
unfoldable pub plainly : Text → Text
unfolding one_for
plainly p = map one_for p

-- ONE CODE POINT
becomes_itself : (c : ℕ) → replaced_by replacements c ≡ c ∷ [] → one_for c ≡ c
unfolding one_for
becomes_itself c e = ap (λ (w : Text). alone w c) e

-- what holds of each code point that is replaced
abbrev pub Each : (ℕ → Type 0) → List Replacement → Type 0
Each P [] = Unit {0}
Each P (r ∷ rs) = P (code r.0) × Each P rs

found : (P : ℕ → Type 0) (rs : List Replacement) → Each P rs → (c : ℕ) → T (kept rs c) ⊎ P c
found P [] t c = inl tt
found P (r ∷ rs) t c = go (eqb (code r.0) c) refl (found P rs t.1 c)
  where
    go : (b : Bool) → eqb (code r.0) c ≡ b → T (kept rs c) ⊎ P c → T (not b && kept rs c) ⊎ P c
    go true e h = inr (subst P (eqb→eq (code r.0) c (subst T (sym e) tt)) t.0)
    go false e h = h

-- what holds of a code point and itself, and of each that is replaced and the one for it, holds of any code point and the one for it
pub one_law : (R : ℕ → ℕ → Type 0) → ((c : ℕ) → R c c) → Each (λ k. R (one_for k) k) replacements → (c : ℕ) → R (one_for c) c
one_law R same t c =
    ⊎_elim (λ k. subst (λ (x : ℕ). R x c) (sym (becomes_itself c (kept_same replacements c k))) (same c)) (λ h. h)
    (found (λ k. R (one_for k) k) replacements t c)

-- a code point that does not pass a test which those pass that become one other: it is itself
pub itself_else : (f : ℕ → Bool) → T (every (λ (r : Replacement). f (code r.0) || eqb (one_for (code r.0)) (code r.0)) replacements) → (c : ℕ)
    → f c ≡ false → one_for c ≡ c
itself_else f t c e =
    ⊎_elim (λ k. becomes_itself c (kept_same replacements c k))
    (λ h. eqb→eq (one_for c) c (rw e at (subst (λ (k : ℕ). T (f k || eqb (one_for k) k)) h.1 h.3)))
    (kept_or (λ (r : Replacement). f (code r.0) || eqb (one_for (code r.0)) (code r.0)) replacements t c)

pub becomes_one : (d : Bool) (c : ℕ) → becomes d (one_for c) ≡ becomes d c
unfolding one_for is_ordinal_point
becomes_one true c = one_law (λ x y. becomes true x ≡ becomes true y) (λ k. refl) (refl, (refl, (refl, (refl, (refl, tt))))) c
becomes_one false c = one_law (λ x y. becomes false x ≡ becomes false y) (λ k. refl) (refl, (refl, (refl, (refl, (refl, tt))))) c

pub digit_one : (c : ℕ) → is_digit_point (one_for c) ≡ is_digit_point c
unfolding one_for is_digit_point
digit_one c = one_law (λ x y. is_digit_point x ≡ is_digit_point y) (λ k. refl) (refl, (refl, (refl, (refl, (refl, tt))))) c

-- A PRINT: its length, a place of it, what stands from a place on
pub plainly_length : (p : Text) → length (plainly p) ≡ length p
unfolding plainly
plainly_length p = length-map p one_for

-- (past the end too: 0 is itself)
pub plainly_at : (p : Text) (i : ℕ) → get_or (plainly p) i 0 ≡ one_for (get_or p i 0)
unfolding plainly one_for
plainly_at [] i = refl
plainly_at (c ∷ p) zero = refl
plainly_at (c ∷ p) (suc i) = plainly_at p i

pub plainly_drop : (i : ℕ) (p : Text) → drop i (plainly p) ≡ plainly (drop i p)
unfolding plainly
plainly_drop zero p = refl
plainly_drop (suc i) [] = refl
plainly_drop (suc i) (c ∷ p) = plainly_drop i p

-- normalising it
plainly_after : (d : Bool) (p : Text) → normal_after d (plainly p) ≡ normal_after d p
unfolding normal_after plainly
plainly_after d [] = refl
plainly_after d (c ∷ p) =
    ap (λ (w : Text). w ++ normal_after (is_digit_point (one_for c)) (plainly p)) (becomes_one d c)
    ∙ ap (λ (b : Bool). becomes d c ++ normal_after b (plainly p)) (digit_one c)
    ∙ ap (λ (w : Text). becomes d c ++ w) (plainly_after (is_digit_point c) p)

pub normal_plainly : (p : Text) → normal_of (plainly p) ≡ normal_of p
unfolding normal_of
normal_plainly p = plainly_after false p

-- WHAT NORMALISING MAKES NO LONGER. Each code point becomes one at least, so there each becomes one alone, which is the one for it.
one_alone : (w : Text) (c : ℕ) → length w ≡ 1 → w ≡ alone w c ∷ []
one_alone [] c e = absurd (omega arith)
one_alone (k ∷ []) c e = refl
one_alone (k ∷ j ∷ w) c e = absurd (omega arith)

becomes_alone : (d : Bool) (c : ℕ) → length (becomes d c) ≡ 1 → becomes d c ≡ one_for c ∷ []
unfolding one_for
becomes_alone d c = go (d && is_ordinal_point c)
  where
    go : (b : Bool) → length (cond b (code "." ∷ c ∷ []) (replaced_by replacements c)) ≡ 1
        → cond b (code "." ∷ c ∷ []) (replaced_by replacements c) ≡ alone (replaced_by replacements c) c ∷ []
    go true e = absurd (omega arith)
    go false e = one_alone (replaced_by replacements c) c e

no_longer_after : (d : Bool) (p : Text) → length (normal_after d p) ≡ length p → normal_after d p ≡ plainly p
unfolding normal_after plainly
no_longer_after d [] e = refl
no_longer_after d (c ∷ p) e =
    let rest : Text = normal_after (is_digit_point c) p in
    let sum : length (becomes d c) + length rest ≡ suc (length p) = sym (length-append (becomes d c) rest) ∙ e in
    let one : length (becomes d c) ≡ 1 = omega (arith, some_becomes d c, longer_after (is_digit_point c) p) in
    let same : length rest ≡ length p = omega (arith, one) in
    ap (λ (w : Text). w ++ rest) (becomes_alone d c one) ∙ ap (λ (w : Text). one_for c ∷ w) (no_longer_after (is_digit_point c) p same)

pub plainly_no_longer : (p : Text) → length (normal_of p) ≡ length p → plainly p ≡ normal_of p
unfolding normal_of
plainly_no_longer p e = sym (no_longer_after false p e)

-- what is normal
pub plainly_normal : (p : Text) → normal_of p ≡ p → plainly p ≡ p
plainly_normal p e = plainly_no_longer p (ap length e) ∙ e
