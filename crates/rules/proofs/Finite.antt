-- Tests over every member of a finite type, or every number below a bound. A fact about a finite machine is one Bool, computed over all of
-- its states; `at` turns it into the fact at each state, so that no proof has a case for each. What a test finds at a state is a list of
-- Bools, and `Hold` lets a proof take the one that it wants by its place. Assumes nothing.
use mathlib.Core.Path.{◌≡◌, refl, sym, subst}
use mathlib.Core.Logic.{◌⊎◌, inl, inr, ⊎_elim}
use mathlib.Core.Bool.{Bool, true, false, ◌&&◌, ◌||◌, not, beq}
use mathlib.Core.List.{List, [], ◌∷◌}
use mathlib.Core.Option.{none, some}
use Prim.Native.Nat.{ℕ, zero, suc, ◌≤◌, ◌<◌}
use native.Mathlib.Omega.{arith}
use native.Mathlib.Nat.{not-suc-le-zero}
use lib.Dec.{T, eqb, eqb_refl, leb, leb→le, nleb→lt}

pub and_left : (a b : Bool) → T (a && b) → T a
and_left true b t = tt
and_left false b t = absurd t

pub and_right : (a b : Bool) → T (a && b) → T b
and_right true b t = t
and_right false b t = absurd t

pub and_false : (b : Bool) → b && false ≡ false
and_false true = refl
and_false false = refl

pub and_both : (a b : Bool) → T a → T b → T (a && b)
and_both true b s t = t
and_both false b s t = s

pub implies : (a b : Bool) → T a → T (not a || b) → T b
implies true b s t = t
implies false b s t = absurd s

pub false_of : (b : Bool) → T (not b) → b ≡ false
false_of true t = absurd t
false_of false t = refl

pub is_true_of_eqb : (n : ℕ) {m : ℕ} → n ≡ m → T (eqb n m)
is_true_of_eqb n e = subst (λ (k : ℕ). T (eqb n k)) e (eqb_refl n)

pub beq_same : (a b : Bool) → T (beq a b) → a ≡ b
beq_same true true t = refl
beq_same true false t = absurd t
beq_same false true t = absurd t
beq_same false false t = refl

-- an order, decided
pub le_or_lt : (m n : ℕ) → (m ≤ n) ⊎ (n < m)
le_or_lt m n = go (leb m n) refl
  where
    go : (b : Bool) → leb m n ≡ b → (m ≤ n) ⊎ (n < m)
    go true e = inl (leb→le m n (subst T (sym e) tt))
    go false e = inr (nleb→lt m n (subst (λ (b : Bool). T (not b)) (sym e) tt))

-- a test at every number below a bound
abbrev pub below : (ℕ → Bool) → ℕ → Bool
below f zero = true
below f (suc n) = f n && below f n

pub at_below : (f : ℕ → Bool) (n : ℕ) → T (below f n) → (k : ℕ) → k < n → T (f k)
at_below f zero t k h = absurd (not-suc-le-zero h)
at_below f (suc n) t k h =
    ⊎_elim (λ q. at_below f n (and_right (f n) (below f n) t) k q)
    (λ q. subst (λ (m : ℕ). T (f m)) (omega arith) (and_left (f n) (below f n) t)) (le_or_lt (suc k) n)

-- no value is both `none` and `some`
pub nothing : {A B : Type 0} {a : A} → none ≡ some a → B
nothing e = let z : ◌≡◌ {A = ℕ} 0 1 = cc in absurd (omega arith)

module _ {A : Type 0} where
  abbrev pub every : (A → Bool) → List A → Bool
  every f [] = true
  every f (x ∷ xs) = f x && every f xs

  abbrev pub All : (A → Bool) → List A → Type 0
  All f [] = Unit {0}
  All f (x ∷ xs) = T (f x) × All f xs

  pub all : (f : A → Bool) (xs : List A) → T (every f xs) → All f xs
  all f [] t = tt
  all f (x ∷ xs) t = (and_left (f x) (every f xs) t, all f xs (and_right (f x) (every f xs) t))

abbrev pub holds : List Bool → Bool
holds [] = true
holds (b ∷ bs) = b && holds bs

abbrev pub Hold : List Bool → Type 0
Hold [] = Unit {0}
Hold (b ∷ bs) = T b × Hold bs

pub hold : (bs : List Bool) → T (holds bs) → Hold bs
hold [] t = tt
hold (b ∷ bs) t = (and_left b (holds bs) t, hold bs (and_right b (holds bs) t))

-- a finite type: its members, and that they are all of it
pub record Finite (A : Type 0) : Type 1 where
  pub members : List A
  pub at : (f : A → Bool) → T (every f members) → (a : A) → T (f a)

module _ {A B : Type 0} (F : Finite A) (G : Finite B) where
  abbrev pub every2 : (A → B → Bool) → Bool
  every2 g = every (λ a. every (λ b. g a b) G.members) F.members

  pub at2 : (g : A → B → Bool) → T (every2 g) → (a : A) (b : B) → T (g a b)
  at2 g t a b = G.at (g a) (F.at (λ x. every (g x) G.members) t a) b

module _ {A B C : Type 0} (F : Finite A) (G : Finite B) (H : Finite C) where
  abbrev pub every3 : (A → B → C → Bool) → Bool
  every3 g = every (λ a. every2 G H (g a)) F.members

  pub at3 : (g : A → B → C → Bool) → T (every3 g) → (a : A) (b : B) (c : C) → T (g a b c)
  at3 g t a b c = at2 G H (g a) (F.at (λ x. every2 G H (g x)) t a) b c

module _ {A B C D : Type 0} (F : Finite A) (G : Finite B) (H : Finite C) (I : Finite D) where
  abbrev pub every4 : (A → B → C → D → Bool) → Bool
  every4 g = every (λ a. every3 G H I (g a)) F.members

  pub at4 : (g : A → B → C → D → Bool) → T (every4 g) → (a : A) (b : B) (c : C) (d : D) → T (g a b c d)
  at4 g t a b c d = at3 G H I (g a) (F.at (λ x. every3 G H I (g x)) t a) b c d
