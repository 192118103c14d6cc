-- Looking up in a sign list. In order: what the `_` arm of a look-up knows, and an arm of several keys; a test of every entry holds at whatever is looked up; a code point
-- that is no key has no sign. Assumes nothing.
use mathlib.Core.Path.{◌≡◌, refl, sym, ap, ◌∙◌, subst}
use mathlib.Core.Logic.{◌⊎◌, inl, inr, ⊎_elim}
use mathlib.Core.Bool.{Bool, true, false, ◌||◌, cond, true≢false}
use mathlib.Core.List.{List, [], ◌∷◌}
use Prim.Native.Nat.{ℕ}
use Prim.Native.Char.{code}
use lib.Dec.{T, eqb, eqb→eq}
use borrow.Author.Tests.{ne_eqb}
use types.Run.{OneOf}
use Rattle.rules.specs.Sorts.{Sort, no_sign, Item, Table}
use Rattle.rules.specs.Rows.{sort_in}
use Rattle.rules.specs.Castilian.{castilian}
use Rattle.rules.specs.Normal.{replacements}
use Rattle.rules.proofs.Finite.{every, and_left, and_right}
use Rattle.rules.proofs.Normal.{Replacement}
use Rattle.rules.proofs.Plain.{one_for, itself_else}
use Rattle.entries.specs.Chosen.{choose}
use Rattle.entries.specs.Entries.{entry_of, word}

abbrev pub among : List ℕ → ℕ → Bool
among [] c = false
among (k ∷ ks) c = eqb c k || among ks c

-- what the `_` arm of a `match` on a number knows: that it is none of the keys
abbrev pub Rest : Type 0 → List ℕ → ℕ → Type 0
Rest A [] c = A
Rest A (k ∷ ks) c = Rest (A × (c ≡ k → ⊥)) ks c

pub rest_none : (A : Type 0) (ks : List ℕ) (c : ℕ) → Rest A ks c → A × (among ks c ≡ false)
rest_none A [] c r = (r, refl)
rest_none A (k ∷ ks) c r =
    let i = rest_none (A × (c ≡ k → ⊥)) ks c r in
    (i.0.0, rw (ne_eqb c k i.0.1) i.1)

-- what an arm of several keys knows: that it is one of them
pub told_of : (f : ℕ → Bool) (ks : List ℕ) (c : ℕ) → T (every f ks) → OneOf ks c → T (f c)
told_of f [] c t o = absurd o
told_of f (k ∷ []) c t o = subst (λ (n : ℕ). T (f n)) (sym o) (and_left (f k) true t)
told_of f (k ∷ l ∷ ks) c t o =
    ⊎_elim (λ e. subst (λ (n : ℕ). T (f n)) (sym e) (and_left (f k) (every f (l ∷ ks)) t))
    (λ later. told_of f (l ∷ ks) c (and_right (f k) (every f (l ∷ ks)) t) later) o

-- what is chosen by a number that is none of the keys is what is left
module _ {A : Type 0} where
  abbrev pub keys_of : List (ℕ × A) → List ℕ
  keys_of [] = []
  keys_of (e ∷ es) = e.0 ∷ keys_of es

  choose_none : (es : List (ℕ × A)) (n : ℕ) (d : A) → among (keys_of es) n ≡ false → choose es n d ≡ d
  choose_none [] n d q = refl
  choose_none (e ∷ es) n d q = go (eqb n e.0) q (choose_none es n d)
    where
      go : (b : Bool) → b || among (keys_of es) n ≡ false → (among (keys_of es) n ≡ false → choose es n d ≡ d)
          → cond b e.1 (choose es n d) ≡ d
      go true q ih = absurd (true≢false q)
      go false q ih = ih q

  -- and what is chosen by a key is the same whatever is left
  pub chosen_key : (es : List (ℕ × A)) (n : ℕ) (d f : A) → among (keys_of es) n ≡ true → choose es n d ≡ choose es n f
  chosen_key [] n d f q = absurd (true≢false (sym q))
  chosen_key (e ∷ es) n d f q = go (eqb n e.0) q (chosen_key es n d f)
    where
      go : (b : Bool) → b || among (keys_of es) n ≡ true → (among (keys_of es) n ≡ true → choose es n d ≡ choose es n f)
          → cond b e.1 (choose es n d) ≡ cond b e.1 (choose es n f)
      go true q ih = refl
      go false q ih = ih q

  pub chosen_rest : (es : List (ℕ × A)) (n : ℕ) (d : A) → Rest Unit (keys_of es) n → choose es n d ≡ d
  chosen_rest es n d r = choose_none es n d (rest_none Unit (keys_of es) n r).1

-- A test of code point and sort that every entry passes: it holds at c, or c has no sign.
pub hit : (f : ℕ → Sort → Bool) (tb : Table) → T (every (λ (i : Item). f i.0 i.1) tb) → (c : ℕ) → T (f c (sort_in tb c)) ⊎ (sort_in tb c ≡ no_sign)
unfolding sort_in
hit f [] t c = inr refl
hit f (i ∷ tb) t c = go (eqb i.0 c) refl (hit f tb (and_right (f i.0 i.1) (every (λ (i : Item). f i.0 i.1) tb) t) c)
  where
    go : (b : Bool) → eqb i.0 c ≡ b → T (f c (sort_in tb c)) ⊎ (sort_in tb c ≡ no_sign)
        → T (f c (elim b as (λ _. Sort) [ true ↦ i.1 | false ↦ sort_in tb c ]))
        ⊎ (◌≡◌ {A = Sort} (elim b as (λ _. Sort) [ true ↦ i.1 | false ↦ sort_in tb c ]) no_sign)
    go true q ih =
        inl (subst (λ (k : ℕ). T (f k i.1)) (eqb→eq i.0 c (rw q tt)) (and_left (f i.0 i.1) (every (λ (i : Item). f i.0 i.1) tb) t))
    go false q ih = ih

-- a test of the sort alone, which holds without a sign too: it holds at every code point
pub at_every : (f : Sort → Bool) (tb : Table) → T (f no_sign) → T (every (λ (i : Item). f i.1) tb) → (c : ℕ) → T (f (sort_in tb c))
at_every f tb none t c = ⊎_elim (λ h. h) (λ e. subst (λ (s : Sort). T (f s)) (sym e) none) (hit (λ k s. f s) tb t c)

-- A CODE POINT THAT IS NO KEY. A test that every key of the list passes, and c does not
absent : (tb : Table) (f : ℕ → Bool) (c : ℕ) → T (every (λ (i : Item). f i.0) tb) → f c ≡ false → sort_in tb c ≡ no_sign
unfolding sort_in
absent [] f c t e = refl
absent (i ∷ tb) f c t e =
    go (eqb i.0 c) refl (absent tb f c (and_right (f i.0) (every (λ (i : Item). f i.0) tb) t) e)
  where
    go : (b : Bool) → eqb i.0 c ≡ b → sort_in tb c ≡ no_sign → ◌≡◌ {A = Sort} (elim b as (λ _. Sort) [ true ↦ i.1 | false ↦ sort_in tb c ]) no_sign
    go true q ih =
        let w : f i.0 ≡ false = ap f (eqb→eq i.0 c (rw q tt)) ∙ e in
        absurd (rw w at (and_left (f i.0) (every (λ (i : Item). f i.0) tb) t))
    go false q ih = ih

-- of the Castilian list, where each code point that is taken for one other passes the test too
pub none_of : (listed : ℕ → Bool) (c : ℕ) → T (every (λ (i : Item). listed i.0) castilian)
    → T (every (λ (r : Replacement). listed (code r.0) || eqb (one_for (code r.0)) (code r.0)) replacements)
    → listed c ≡ false → word no_sign ≡ entry_of castilian (one_for c)
unfolding entry_of
none_of listed c t u e = sym (ap (entry_of castilian) (itself_else listed u c e) ∙ ap word (absent castilian listed c t e))
