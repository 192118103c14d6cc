-- Classes that are told by the code point alone: a list and a range of code points that are, in a profile's table, all of a class.
-- Assumes nothing.
use mathlib.Core.Path.{◌≡◌, refl, sym, ap, ◌∙◌, subst}
use mathlib.Core.Logic.{inl, inr, ⊎_elim}
use mathlib.Core.Bool.{Bool, true, false, ◌&&◌, ◌||◌, beq, true≢false}
use mathlib.Core.List.{List, [], ◌∷◌}
use Prim.Native.Nat.{ℕ, ◌+◌, ◌-◌, ◌≤◌, ◌<◌}
use native.Mathlib.Omega.{arith}
use lib.Dec.{T, eqb, leb, ltb, eqb→eq, leb→le, ltb→lt}
use borrow.Author.Tests.{ne_eqb, le-leb, lt-leb, le-ltb, lt-ltb}
use Rattle.rules.specs.Sorts.{Sort, no_sign, Item, Table, Class, unlisted, class}
use Rattle.rules.specs.Rows.{sort_in}
use Rattle.rules.proofs.Finite.{and_false, below, at_below, every, and_left, and_right, beq_same}
use types.Run.{OneOf}
use Rattle.entries.proofs.Keys.{among, told_of, hit}

-- a test that all of a list pass
among_every : (f : ℕ → Bool) (ks : List ℕ) (c : ℕ) → T (every f ks) → among ks c ≡ true → T (f c)
among_every f [] c t e = absurd (true≢false (sym e))
among_every f (k ∷ ks) c t e = go (eqb c k) refl e (among_every f ks c (and_right (f k) (every f ks) t))
  where
    go : (b : Bool) → eqb c k ≡ b → b || among ks c ≡ true → (among ks c ≡ true → T (f c)) → T (f c)
    go true q e ih = subst (λ (j : ℕ). T (f j)) (sym (eqb→eq c k (subst T (sym q) tt))) (and_left (f k) (every f ks) t)
    go false q e ih = ih e

true_of : (b : Bool) → T b → b ≡ true
true_of true t = refl
true_of false t = absurd t

-- what is none of several keys
pub none_told : (ks : List ℕ) (c : ℕ) → (OneOf ks c → ⊥) → among ks c ≡ false
none_told [] c n = refl
none_told (k ∷ []) c n = rw (ne_eqb c k n)
none_told (k ∷ l ∷ ks) c n = rw (ne_eqb c k (λ e. n (inl e))) (none_told (l ∷ ks) c (λ o. n (inr o)))

-- the code points of a list, and of a range: n of them from m on
abbrev pub told : List ℕ → ℕ → ℕ → ℕ → Bool
told ks m n c = among ks c || (leb m c && ltb c (m + n))

module _ (ks : List ℕ) (m n c : ℕ) where
  pub told_in : m ≤ c → c < m + n → told ks m n c ≡ true
  told_in l h = go (among ks c)
    where
      go : (b : Bool) → b || (leb m c && ltb c (m + n)) ≡ true
      go true = refl
      go false = rw (le-leb m c l, lt-ltb c (m + n) h)

  pub told_listed : T (every (told ks m n) ks) → OneOf ks c → told ks m n c ≡ true
  told_listed t o = true_of (told ks m n c) (told_of (told ks m n) ks c t o)

  pub told_below : among ks c ≡ false → c < m → told ks m n c ≡ false
  told_below e l = rw (e, lt-leb m c l)

  pub told_above : among ks c ≡ false → m + n ≤ c → told ks m n c ≡ false
  told_above e l = rw (e, le-ltb c (m + n) l) (and_false (leb m c))

-- They are all of the class g: each entry of the table agrees, and each of them is such a one.
module _ (tb : Table) (g : Class → Bool) (ks : List ℕ) (m n : ℕ)
    (agree : T (every (λ (i : Item). beq (g (class i.1)) (told ks m n i.0)) tb))
    (listed : T (every (λ k. g (class (sort_in tb k))) ks)) (ranged : T (below (λ k. g (class (sort_in tb (m + k)))) n)) (unsigned : g unlisted ≡ false) where
  told_such : (c : ℕ) → told ks m n c ≡ true → T (g (class (sort_in tb c)))
  told_such c = go (among ks c) refl
    where
      in_range : T (leb m c && ltb c (m + n)) → T (g (class (sort_in tb c)))
      in_range t =
          let l : m ≤ c = leb→le m c (and_left (leb m c) (ltb c (m + n)) t) in
          let h : c < m + n = ltb→lt c (m + n) (and_right (leb m c) (ltb c (m + n)) t) in
          let z : m + (c - m) ≡ c = omega (arith, l) in
          subst (λ (k : ℕ). T (g (class (sort_in tb k)))) z (at_below (λ k. g (class (sort_in tb (m + k)))) n ranged (c - m) (omega (arith, l, h)))

      go : (b : Bool) → among ks c ≡ b → b || (leb m c && ltb c (m + n)) ≡ true → T (g (class (sort_in tb c)))
      go true a e = among_every (λ k. g (class (sort_in tb k))) ks c listed a
      go false a e = in_range (subst T (sym e) tt)

  pub known : (c : ℕ) → g (class (sort_in tb c)) ≡ told ks m n c
  unfolding class
  known c =
      ⊎_elim (λ h. beq_same (g (class (sort_in tb c))) (told ks m n c) h) none (hit (λ k s. beq (g (class s)) (told ks m n k)) tb agree c)
    where
      none : sort_in tb c ≡ no_sign → g (class (sort_in tb c)) ≡ told ks m n c
      none q = go (told ks m n c) refl
        where
          without : g (class (sort_in tb c)) ≡ false
          without = ap (λ (s : Sort). g (class s)) q ∙ unsigned

          go : (b : Bool) → told ks m n c ≡ b → g (class (sort_in tb c)) ≡ b
          go true a = absurd (true≢false (sym (true_of (g (class (sort_in tb c))) (told_such c a)) ∙ without))
          go false a = without
