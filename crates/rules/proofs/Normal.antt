-- Normalised print: the laws of specs/Normal.antt. A code point becomes a few (`becomes`), which normalising leaves as they are (`settled`); so
-- doing it twice is doing it once. In an accepted text no place changes: a code point that is replaced has no sign, and º or ª directly
-- after a digit is outside a form. Assumes nothing.
use mathlib.Core.Path.{◌≡◌, refl, sym, ◌∙◌, ap, subst}
use mathlib.Core.Logic.{◌⊎◌, inl, inr, ⊎_elim}
use mathlib.Core.Bool.{Bool, true, false, ◌&&◌, ◌||◌, not, cond}
use mathlib.Core.List.{List, [], ◌∷◌, ◌++◌}
use Prim.Native.Nat.{ℕ, zero, suc, ◌+◌, ◌-◌, ◌*◌, ◌≤◌, ◌<◌}
use native.Mathlib.Nat.{not-suc-le-zero}
use Prim.Native.Char.{Char, code}
use Prim.Native.String.{String}
use native.Mathlib.Omega.{arith}
use lib.Dec.{T, T_not, eqb, eqb→eq, leb, leb→le}
use lib.ListN.{length, length-append}
use Rattle.rules.specs.Cells.{Text, print}
use Rattle.rules.specs.Sorts.{Table, Class, unlisted, class, ◌is◌, is_digit, is_ordinal}
use Rattle.rules.specs.Pairs.{Opens, turn}
use Rattle.rules.specs.Places.{Outcome, fault, silent, sign}
use Rattle.rules.specs.Rows.{sort_in, item_in, items_in}
use Rattle.rules.specs.Normal.{replacements, replaced_by, is_digit_point, is_ordinal_point, becomes, normal_after, normal_of}
use Rattle.rules.specs.Demands.{NormalTwice, NormalLength}
use Rattle.rules.proofs.Finite.{and_false, false_of, le_or_lt, all, every, every2, at2, every3, at3, and_left, and_right, and_both, implies, holds, Hold, hold}
use Rattle.rules.proofs.States.{Past, Future}
use Rattle.rules.proofs.Sides.{in_digits, rule, after, future}
use Rattle.rules.proofs.Enumerations.{classes, pasts, futures, class_same}
use Rattle.rules.proofs.Pieces.{Passes, Good}

abbrev pub Replacement : Type 0
Replacement = Char × String

-- a code point that is kept: no replacement is for it
abbrev pub kept : List Replacement → ℕ → Bool
kept rs c = every (λ (r : Replacement). not (eqb (code r.0) c)) rs

pub kept_same : (rs : List Replacement) (c : ℕ) → T (kept rs c) → replaced_by rs c ≡ c ∷ []
unfolding replaced_by
kept_same [] c t = refl
kept_same (r ∷ rs) c t = go (eqb (code r.0) c) t (kept_same rs c)
  where
    go : (b : Bool) → T (not b && kept rs c) → (T (kept rs c) → replaced_by rs c ≡ c ∷ [])
        → elim b as (λ _. Text) [ true ↦ print r.1 | false ↦ replaced_by rs c ] ≡ c ∷ []
    go true t ih = absurd t
    go false t ih = ih t

-- kept, or replaced by the text of one of the list, of which a test holds
pub kept_or : (f : Replacement → Bool) (rs : List Replacement) → T (every f rs) → (c : ℕ)
    → T (kept rs c) ⊎ ((r : Replacement) × (code r.0 ≡ c) × (replaced_by rs c ≡ print r.1) × T (f r))
unfolding replaced_by
kept_or f [] t c = inl tt
kept_or f (r ∷ rs) t c = go (eqb (code r.0) c) refl (kept_or f rs (and_right (f r) (every f rs) t) c)
  where
    go : (b : Bool) → eqb (code r.0) c ≡ b → T (kept rs c) ⊎ ((s : Replacement) × (code s.0 ≡ c) × (replaced_by rs c ≡ print s.1) × T (f s))
        → T (not b && kept rs c)
        ⊎ ((s : Replacement) × (code s.0 ≡ c)
        × (◌≡◌ {A = Text} (elim b as (λ _. Text) [ true ↦ print r.1 | false ↦ replaced_by rs c ]) (print s.1)) × T (f s))
    go true e h = inr (r, eqb→eq (code r.0) c (subst T (sym e) tt), refl, and_left (f r) (every f rs) t)
    go false e h = h

-- a code point that normalising leaves alone, and that makes nothing after it change
unfoldable pub still : ℕ → Bool
unfolding replacements is_digit_point is_ordinal_point
still c = not (is_ordinal_point c) && not (is_digit_point c) && kept replacements c

abbrev not_empty : Text → Bool
not_empty [] = false
not_empty (c ∷ w) = true

-- TEST: each replacement is for no digit, and is one to three such code points
abbrev facts : Replacement → List Bool
facts r =
    not (is_digit_point (code r.0)) ∷ every still (print r.1) ∷ not_empty (print r.1) ∷ leb (length (print r.1)) 3 ∷ []

facts_hold : T (every (λ r. holds (facts r)) replacements)
unfolding still replacements is_digit_point
facts_hold = tt

-- a code point is kept, or replaced by one of the list
abbrev Replaced : ℕ → Type 0
Replaced c = (r : Replacement) × (code r.0 ≡ c) × (replaced_by replacements c ≡ print r.1) × T (holds (facts r))

kept_or_replaced : (c : ℕ) → T (kept replacements c) ⊎ Replaced c
kept_or_replaced c = kept_or (λ r. holds (facts r)) replacements facts_hold c

-- normalising leaves such text alone
becomes_still : (d : Bool) (c : ℕ) → T (still c) → (becomes d c ≡ c ∷ []) × (is_digit_point c ≡ false)
unfolding still
becomes_still d c t =
    let s : T (not (is_ordinal_point c) && not (is_digit_point c)) = and_left (not (is_ordinal_point c) && not (is_digit_point c)) (kept replacements c) t in
    let o : is_ordinal_point c ≡ false = false_of (is_ordinal_point c) (and_left (not (is_ordinal_point c)) (not (is_digit_point c)) s) in
    let k : replaced_by replacements c ≡ c ∷ [] =
    kept_same replacements c (and_right (not (is_ordinal_point c) && not (is_digit_point c)) (kept replacements c) t) in (
      ap (λ (b : Bool). cond (d && b) (code "." ∷ c ∷ []) (replaced_by replacements c)) o
          ∙ ap (λ (b : Bool). cond b (code "." ∷ c ∷ []) (replaced_by replacements c)) (and_false d)
          ∙ k,
      false_of (is_digit_point c) (and_right (not (is_ordinal_point c)) (not (is_digit_point c)) s),
    )

still_append : (d : Bool) (w v : Text) → T (every still w) → T (not_empty w) → normal_after d (w ++ v) ≡ w ++ normal_after false v
unfolding normal_after
still_append d [] v t l = absurd l
still_append d (c ∷ []) v t l =
    let h = becomes_still d c (and_left (still c) true t) in
    ap (λ (x : Text). x ++ normal_after (is_digit_point c) v) h.0 ∙ ap (λ (b : Bool). c ∷ normal_after b v) h.1
still_append d (c ∷ e ∷ w) v t l =
    let h = becomes_still d c (and_left (still c) (every still (e ∷ w)) t) in
    ap (λ (x : Text). x ++ normal_after (is_digit_point c) (e ∷ w ++ v)) h.0
    ∙ ap (λ (x : Text). c ∷ x) (still_append (is_digit_point c) (e ∷ w) v (and_right (still c) (every still (e ∷ w)) t) tt)

pub ordinal_kept : (c : ℕ) → T (is_ordinal_point c) → T (kept replacements c)
unfolding is_ordinal_point replacements
ordinal_kept c t = go (eqb c (code "º")) refl t
  where
    go : (b : Bool) → eqb c (code "º") ≡ b → T (b || eqb c (code "ª")) → T (kept replacements c)
    go true e u = subst (λ (k : ℕ). T (kept replacements k)) (sym (eqb→eq c (code "º") (subst T (sym e) tt))) tt
    go false e u = subst (λ (k : ℕ). T (kept replacements k)) (sym (eqb→eq c (code "ª") u)) tt

-- what a code point becomes is left as it is
module _ (d : Bool) (c : ℕ) (v : Text) where
  settled_kept : d && is_ordinal_point c ≡ false → T (kept replacements c)
      → normal_after d (replaced_by replacements c ++ v) ≡ replaced_by replacements c ++ normal_after (is_digit_point c) v
  unfolding normal_after
  settled_kept e k =
      ap (λ (x : Text). normal_after d (x ++ v)) (kept_same replacements c k)
      ∙ ap (λ (b : Bool). cond b (code "." ∷ c ∷ []) (replaced_by replacements c) ++ normal_after (is_digit_point c) v) e

  settled_replaced : Replaced c → normal_after d (replaced_by replacements c ++ v) ≡ replaced_by replacements c ++ normal_after (is_digit_point c) v
  settled_replaced h =
      let f : Hold (facts h.0) = hold (facts h.0) h.3 in
      let z : is_digit_point c ≡ false = ap is_digit_point (sym h.1) ∙ false_of (is_digit_point (code h.0.0)) f.0 in
      ap (λ (x : Text). normal_after d (x ++ v)) h.2
      ∙ still_append d (print h.0.1) v f.1.0 f.1.1.0
      ∙ ap (λ (x : Text). x ++ normal_after false v) (sym h.2)
      ∙ ap (λ (b : Bool). replaced_by replacements c ++ normal_after b v) (sym z)

  settled_ordinal : T (d && is_ordinal_point c) → normal_after d (code "." ∷ c ∷ v) ≡ code "." ∷ c ∷ normal_after (is_digit_point c) v
  unfolding normal_after still
  settled_ordinal t =
      ap (λ (x : Text). x ++ normal_after false (c ∷ v)) (becomes_still d (code ".") tt).0
      ∙ ap (λ (x : Text). code "." ∷ x ++ normal_after (is_digit_point c) v)
      (kept_same replacements c (ordinal_kept c (and_right d (is_ordinal_point c) t)))

  settled : normal_after d (becomes d c ++ v) ≡ becomes d c ++ normal_after (is_digit_point c) v
  settled = go (d && is_ordinal_point c) refl
    where
      go : (b : Bool) → d && is_ordinal_point c ≡ b
          → normal_after d (cond b (code "." ∷ c ∷ []) (replaced_by replacements c) ++ v)
          ≡ cond b (code "." ∷ c ∷ []) (replaced_by replacements c) ++ normal_after (is_digit_point c) v
      go true e = settled_ordinal (subst T (sym e) tt)
      go false e = ⊎_elim (settled_kept e) settled_replaced (kept_or_replaced c)

twice_after : (d : Bool) (t : Text) → normal_after d (normal_after d t) ≡ normal_after d t
unfolding normal_after
twice_after d [] = refl
twice_after d (c ∷ t) =
    settled d c (normal_after (is_digit_point c) t) ∙ ap (λ (x : Text). becomes d c ++ x) (twice_after (is_digit_point c) t)

pub normal_twice : NormalTwice
unfolding normal_of
normal_twice t = twice_after false t

-- no code point becomes more than three
length_becomes : (d : Bool) (c : ℕ) → length (becomes d c) ≤ 3
length_becomes d c = go (d && is_ordinal_point c)
  where
    go : (b : Bool) → length (cond b (code "." ∷ c ∷ []) (replaced_by replacements c)) ≤ 3
    go true = omega arith
    go false =
        ⊎_elim (λ k. omega (arith, ap length (kept_same replacements c k)))
        (λ h. omega (arith, ap length h.2, leb→le (length (print h.0.1)) 3 (hold (facts h.0) h.3).1.1.1.0)) (kept_or_replaced c)

length_after : (d : Bool) (t : Text) → length (normal_after d t) ≤ 3 * length t
unfolding normal_after
length_after d [] = omega arith
length_after d (c ∷ t) =
    omega
    (arith, length-append (becomes d c) (normal_after (is_digit_point c) t), length_becomes d c, length_after (is_digit_point c) t)

pub normal_length : NormalLength
unfolding normal_of
normal_length t = length_after false t

-- and none becomes nothing: the normalised print is at least as long
pub some_becomes : (d : Bool) (c : ℕ) → 1 ≤ length (becomes d c)
some_becomes d c = go (d && is_ordinal_point c)
  where
    some_length : (w : Text) → T (not_empty w) → 1 ≤ length w
    some_length [] t = absurd t
    some_length (x ∷ w) t = omega arith

    go : (b : Bool) → 1 ≤ length (cond b (code "." ∷ c ∷ []) (replaced_by replacements c))
    go true = omega arith
    go false =
        ⊎_elim (λ k. omega (arith, ap length (kept_same replacements c k)))
        (λ h. omega (arith, ap length h.2, some_length (print h.0.1) (hold (facts h.0) h.3).1.1.0)) (kept_or_replaced c)

pub longer_after : (d : Bool) (t : Text) → length t ≤ length (normal_after d t)
unfolding normal_after
longer_after d [] = omega arith
longer_after d (c ∷ t) =
    omega
    (arith, length-append (becomes d c) (normal_after (is_digit_point c) t), some_becomes d c, longer_after (is_digit_point c) t)

pub normal_longer : (t : Text) → length t ≤ length (normal_of t)
unfolding normal_of
normal_longer t = longer_after false t

-- WHAT IS ACCEPTED IS NORMAL. A table's test: what is replaced has no sign in it, the digits are digits, º and ª ordinals.
upto : ℕ → List ℕ
upto zero = []
upto (suc n) = n ∷ upto n

every_upto : (f : ℕ → Bool) (n : ℕ) → T (every f (upto n)) → (k : ℕ) → k < n → T (f k)
unfolding upto
every_upto f zero t k l = absurd (not-suc-le-zero l)
every_upto f (suc n) t k l =
    ⊎_elim (λ h. every_upto f n (and_right (f n) (every f (upto n)) t) k h)
    (λ h. subst (λ (m : ℕ). T (f m)) (omega arith) (and_left (f n) (every f (upto n)) t)) (le_or_lt (suc k) n)

abbrev replaced_lack : Table → Bool
replaced_lack tb = every (λ (r : Replacement). class (sort_in tb (code r.0)) is unlisted) replacements

abbrev digits_listed : Table → Bool
digits_listed tb = every (λ (d : ℕ). is_digit (class (sort_in tb (code "0" + d)))) (upto 10)

abbrev ordinals_listed : Table → Bool
ordinals_listed tb = every (λ (c : ℕ). is_ordinal (class (sort_in tb c))) (code "º" ∷ code "ª" ∷ [])

unfoldable pub normal_codes : Table → Bool
unfolding upto replacements
normal_codes tb = holds (replaced_lack tb ∷ digits_listed tb ∷ ordinals_listed tb ∷ [])

-- TESTS: directly after a digit no ordinal passes (`ordinal_all`); after a digit's class a digit stands directly before (`digit_all`)
passes : Outcome → Bool
passes (fault c) = false
passes silent = true
passes (sign w) = true

ordinal_test : Past → Class → Future → Bool
unfolding passes
ordinal_test p c f = not (in_digits p && is_ordinal c) || not (passes (rule p c f))

ordinal_all : T (every3 pasts classes futures ordinal_test)
unfolding ordinal_test rule
ordinal_all = tt

digit_all : T (every2 pasts classes (λ p c. not (is_digit c) || in_digits (after p c)))
unfolding after
digit_all = tt

passes_test : (x : Outcome) → Passes x → T (passes x)
unfolding passes
passes_test (fault c) h = h
passes_test silent h = tt
passes_test (sign w) h = tt

module _ (tb : Table) (ok : T (normal_codes tb)) where
  listed : Hold (replaced_lack tb ∷ digits_listed tb ∷ ordinals_listed tb ∷ [])
  unfolding normal_codes
  listed = hold (replaced_lack tb ∷ digits_listed tb ∷ ordinals_listed tb ∷ []) ok

  digit_listed : (c : ℕ) → T (is_digit_point c) → T (is_digit (class (sort_in tb c)))
  unfolding is_digit_point
  digit_listed c t =
      let l : code "0" ≤ c = leb→le (code "0") c (and_left (leb (code "0") c) (leb c (code "9")) t) in
      let u : c ≤ code "9" = leb→le c (code "9") (and_right (leb (code "0") c) (leb c (code "9")) t) in
      let z : code "0" + (c - code "0") ≡ c = omega arith in
      subst (λ (k : ℕ). T (is_digit (class (sort_in tb k)))) z
      (every_upto (λ d. is_digit (class (sort_in tb (code "0" + d)))) 10 listed.1.0 (c - code "0") (omega arith))

  ordinal_listed : (c : ℕ) → T (is_ordinal_point c) → T (is_ordinal (class (sort_in tb c)))
  unfolding is_ordinal_point
  ordinal_listed c t = go (eqb c (code "º")) refl t
    where
      both : T (is_ordinal (class (sort_in tb (code "º")))) × T (is_ordinal (class (sort_in tb (code "ª"))))
      both =
          let h = all (λ (c : ℕ). is_ordinal (class (sort_in tb c))) (code "º" ∷ code "ª" ∷ []) listed.1.1.0 in
          (h.0, h.1.0)

      go : (b : Bool) → eqb c (code "º") ≡ b → T (b || eqb c (code "ª")) → T (is_ordinal (class (sort_in tb c)))
      go true e u = subst (λ (k : ℕ). T (is_ordinal (class (sort_in tb k)))) (sym (eqb→eq c (code "º") (subst T (sym e) tt))) both.0
      go false e u = subst (λ (k : ℕ). T (is_ordinal (class (sort_in tb k)))) (sym (eqb→eq c (code "ª") u)) both.1

  -- a place that passes is kept
  place_kept : (d : Bool) (p : Past) (c : ℕ) (f : Future) → (T d → T (in_digits p)) → Passes (rule p (class (sort_in tb c)) f) → becomes d c ≡ c ∷ []
  unfolding ordinal_test rule
  place_kept d p c f h k = go (d && is_ordinal_point c) refl
    where
      go : (b : Bool) → d && is_ordinal_point c ≡ b → cond b (code "." ∷ c ∷ []) (replaced_by replacements c) ≡ c ∷ []
      go true e =
          let t : T (d && is_ordinal_point c) = subst T (sym e) tt in
          let s : Class = class (sort_in tb c) in
          let a : T (in_digits p && is_ordinal s) =
          and_both (in_digits p) (is_ordinal s) (h (and_left d (is_ordinal_point c) t)) (ordinal_listed c (and_right d (is_ordinal_point c) t)) in
          absurd
          (T_not (passes (rule p s f))
          (implies (in_digits p && is_ordinal s) (not (passes (rule p s f))) a (at3 pasts classes futures ordinal_test ordinal_all p s f))
          (passes_test (rule p s f) k))
      go false e =
          ⊎_elim (kept_same replacements c)
          (λ r. absurd
          (subst (λ (s : Class). Passes (rule p s f))
          (class_same (class (sort_in tb c)) unlisted (subst (λ (x : ℕ). T (class (sort_in tb x) is unlisted)) r.1 r.3)) k))
          (kept_or (λ (r : Replacement). class (sort_in tb (code r.0)) is unlisted) replacements listed.0 c)

  pub good_is_normal : (d : Bool) (p : Past) (o : Opens) (t : Text) → (T d → T (in_digits p)) → Good p o (items_in tb t) → normal_after d t ≡ t
  unfolding normal_after Good items_in item_in
  good_is_normal d p o [] h g = refl
  good_is_normal d p o (c ∷ t) h g =
      let s : Class = class (sort_in tb c) in
      ap (λ (x : Text). x ++ normal_after (is_digit_point c) t) (place_kept d p c (future (items_in tb t)) h g.1)
      ∙ ap (λ (x : Text). c ∷ x)
      (good_is_normal (is_digit_point c) (after p s) (turn (sort_in tb c) o) t
      (λ u. implies (is_digit s) (in_digits (after p s)) (digit_listed c u) (at2 pasts classes (λ p c. not (is_digit c) || in_digits (after p c)) digit_all p s))
      g.2)
