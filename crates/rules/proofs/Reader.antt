-- From cells back to pieces: a reader over a list of pieces and the machine, with at most two cells of foresight. For any list that passes
-- two tests (A: two pieces never both fit; B: what a mode's foresight allows is what its pieces begin with) it reads the cells of pieces that
-- the machine takes as those pieces (`reads`), and reads nothing else (`sound`). It is a function for proofs; the product's reader is
-- code, and both are held to the same rules. Assumes nothing.
use mathlib.Core.Path.{◌≡◌, refl, sym, ◌∙◌, ap, subst}
use mathlib.Core.Logic.{◌⊎◌, inl, inr, ⊎_elim}
use mathlib.Core.Bool.{Bool, true, false, ◌&&◌, ◌||◌, not, cond}
use mathlib.Core.List.{List, [], ◌∷◌, ◌++◌, map}
use mathlib.Core.Option.{Option, none, some}
use Prim.Native.Nat.{ℕ, zero, suc, ◌≤◌}
use native.Mathlib.Nat.{le_of_suc-le-suc}
use native.Mathlib.Omega.{arith}
use lib.Dec.{T, T_not, eqb, eqb→eq, eqb_refl}
use lib.ListN.{length, drop, length-append}
use lib.Seq.{drop-append_seam, drop-nil}
use Rattle.rules.specs.Cells.{Row, dots}
use Rattle.rules.specs.Sorts.{Item, Class, a_to_j, other_small, capital, one, other_digit, a_stop, a_comma, a_hyphen, a_dash, a_bar, masculine, feminine, a_percent, other_sign, unlisted, is_digit_cell}
use Rattle.rules.specs.Signs.{Way, bare, one_capital, all_capitals, separated, first_digit, first_lower, lower, denominator, ordinal_mark, inside}
use Rattle.rules.specs.Pairs.{Opens, may_stand, mark_of, mark_fits, turn, fits, closed}
use Rattle.rules.specs.Places.{class_at}
use Rattle.rules.proofs.Finite.{nothing, every, and_left, and_right, and_both, implies}
use Rattle.rules.proofs.States.{Mode, Free, Lone, Owing, Mixed, Whole1, Whole2, Num, Low, Under1, Under, Mid, End, Hyphen, Dash, Fem, Percent, Kind, a_digit, a_hyphen, a_lower_zero}
use Rattle.rules.proofs.Enumerations.{modes, kind_number, kind_same}
use Rattle.rules.proofs.Machine.{step, at_rest}
use Rattle.rules.proofs.Pieces.{Piece, word, words, Runs}

-- FORESIGHT: what a row begins with, wanted or shunned, by its next two cells
pub data Look : Type 0 where
  any : Look
  wants shuns : Kind → Look

-- stands for a cell past the row's end
abbrev pub beyond : ℕ
beyond = 64

-- (No kind asks for the second cell today. One that does says in `unsure` at which first cells.)
unfoldable pub begins_as : Kind → ℕ → ℕ → Bool
begins_as a_digit x y = is_digit_cell x
begins_as a_hyphen x y = eqb x (dots 36)
begins_as a_lower_zero x y = eqb x (dots 356)

-- the first cell alone does not tell
abbrev pub unsure : Kind → ℕ → Bool
unsure a_digit x = false
unsure a_hyphen x = false
unsure a_lower_zero x = false

sure_kind : (k : Kind) (x y : ℕ) → unsure k x ≡ false → begins_as k x y ≡ begins_as k x beyond
unfolding begins_as
sure_kind a_digit x y e = refl
sure_kind a_hyphen x y e = refl
sure_kind a_lower_zero x y e = refl

-- no clause from here to `look_of` names a kind
abbrev pub sees_two : Look → ℕ → ℕ → Bool
sees_two any x y = true
sees_two (wants k) x y = begins_as k x y
sees_two (shuns k) x y = not (begins_as k x y)

abbrev pub open_at : Look → ℕ → Bool
open_at any x = false
open_at (wants k) x = unsure k x
open_at (shuns k) x = unsure k x

pub sure : (l : Look) (x y : ℕ) → open_at l x ≡ false → sees_two l x y ≡ sees_two l x beyond
sure any x y e = refl
sure (wants k) x y e = sure_kind k x y e
sure (shuns k) x y e = ap not (sure_kind k x y e)

unfoldable pub sees : Look → Row → Bool
sees l [] = sees_two l beyond beyond
sees l (x ∷ []) = sees_two l x beyond
sees l (x ∷ y ∷ r) = sees_two l x y

-- what is known of that from the cells w that come first: it may hold, it must hold
unfoldable pub may : Look → Row → Bool
may l [] = true
may l (x ∷ []) = open_at l x || sees_two l x beyond
may l (x ∷ y ∷ w) = sees_two l x y

unfoldable pub must : Look → Row → Bool
must l [] = false
must l (x ∷ []) = not (open_at l x) && sees_two l x beyond
must l (x ∷ y ∷ w) = sees_two l x y

may_one : (l : Look) (x y : ℕ) → T (sees_two l x y) → T (open_at l x || sees_two l x beyond)
may_one l x y t = go (open_at l x) refl
  where
    go : (b : Bool) → open_at l x ≡ b → T (b || sees_two l x beyond)
    go true e = tt
    go false e = subst T (sure l x y e) t

must_one : (l : Look) (x y : ℕ) → T (not (open_at l x) && sees_two l x beyond) → T (sees_two l x y)
must_one l x y t = go (open_at l x) refl t
  where
    go : (b : Bool) → open_at l x ≡ b → T (not b && sees_two l x beyond) → T (sees_two l x y)
    go true e t = absurd t
    go false e t = subst T (sym (sure l x y e)) t

may_append : (l : Look) (w r : Row) → T (sees l (w ++ r)) → T (may l w)
unfolding may sees
may_append l [] r t = tt
may_append l (x ∷ []) [] t = may_one l x beyond t
may_append l (x ∷ []) (y ∷ r) t = may_one l x y t
may_append l (x ∷ y ∷ w) r t = t

must_append : (l : Look) (w r : Row) → T (must l w) → T (sees l (w ++ r))
unfolding must sees
must_append l [] r t = absurd t
must_append l (x ∷ []) [] t = must_one l x beyond t
must_append l (x ∷ []) (y ∷ r) t = must_one l x y t
must_append l (x ∷ y ∷ w) r t = t

-- what each mode asks of the cells that follow: most ask for nothing
unfoldable pub look_of : Mode → Look
look_of Free = any
look_of Lone = any
look_of Owing = any
look_of Mixed = any
look_of Whole1 = any
look_of Whole2 = any
look_of Num = any
look_of Low = any
look_of Under1 = wants a_digit
look_of Under = any
look_of Mid = wants a_digit
look_of End = shuns a_digit
look_of Hyphen = shuns a_hyphen
look_of Dash = any
look_of Fem = shuns a_digit
look_of Percent = shuns a_lower_zero

-- THE READER
unfoldable pub match : Row → Row → Look → Bool
match [] r l = sees l r
match (x ∷ w) [] l = false
match (x ∷ w) (y ∷ r) l = eqb x y && match w r l

unfoldable pub goes : Mode → Opens → Piece → Option Mode
goes m o s = cond (fits o s.1.1) (step m s.0 (class_at s.1)) none

unfoldable pub hit : Option Mode → Row → Row → Option Mode
hit none w r = none
hit (some n) w r = cond (match w r (look_of n)) (some n) none

-- the first piece of the list that fits, and the mode after it
unfoldable pub find : List Piece → Mode → Opens → Row → Option (Piece × Mode)
find [] m o r = none
find (s ∷ ss) m o r = elim (hit (goes m o s) (word s) r) [ none ↦ find ss m o r | some n ↦ some (s, n) ]

unfoldable pub add : Piece → Option (List Piece) → Option (List Piece)
add s none = none
add s (some ss) = some (s ∷ ss)

abbrev pub pred_length : Row → ℕ
pred_length [] = 0
pred_length (x ∷ w) = length w

-- k counts the cells that are left of the piece last read
unfoldable pub walk : List Piece → Mode → Opens → ℕ → Row → Option (List Piece)
walk tb m o k [] = cond (at_rest m && closed o) (some []) none
walk tb m o (suc k) (x ∷ r) = walk tb m o k r
walk tb m o zero (x ∷ r) =
    elim (find tb m o (x ∷ r)) [ none ↦ none | some p ↦ add p.0 (walk tb p.1 (turn p.0.1.1 o) (pred_length (word p.0)) r) ]

-- the pieces of a table: each code point in each way that its class is written
unfoldable pub ways_of : Class → List Way
ways_of a_to_j = bare ∷ separated ∷ []
ways_of other_small = bare ∷ []
ways_of capital = bare ∷ one_capital ∷ all_capitals ∷ []
ways_of one = bare ∷ first_digit ∷ first_lower ∷ lower ∷ denominator ∷ []
ways_of other_digit = bare ∷ first_digit ∷ first_lower ∷ lower ∷ denominator ∷ []
ways_of a_stop = bare ∷ inside ∷ []
ways_of a_comma = bare ∷ inside ∷ []
ways_of a_hyphen = bare ∷ []
ways_of a_dash = bare ∷ []
ways_of a_bar = []
ways_of masculine = ordinal_mark ∷ []
ways_of feminine = ordinal_mark ∷ []
ways_of a_percent = bare ∷ []
ways_of other_sign = bare ∷ []
ways_of unlisted = []

unfoldable pub all_pieces : List Item → List Piece
all_pieces [] = []
all_pieces (i ∷ is) = map (λ w. (w, i)) (ways_of (class_at i)) ++ all_pieces is

-- TEST A: two pieces of the list never both fit
unfoldable pub contrary : Look → Look → Bool
contrary any l = false
contrary (wants j) any = false
contrary (wants j) (wants k) = false
contrary (wants j) (shuns k) = eqb (kind_number j) (kind_number k)
contrary (shuns j) any = false
contrary (shuns j) (wants k) = eqb (kind_number j) (kind_number k)
contrary (shuns j) (shuns k) = false

-- opener and closer of one kind
unfoldable pub rivals : Option (ℕ × Bool) → Option (ℕ × Bool) → Bool
rivals none b = false
rivals (some a) none = false
rivals (some a) (some b) = eqb a.0 b.0 && (a.1 && not b.1 || not a.1 && b.1)

-- both modes are there: a test of the two; else nothing is to test
unfoldable pub both_go : Option Mode → Option Mode → (Mode → Mode → Bool) → Bool
both_go none y f = true
both_go (some m) none f = true
both_go (some m) (some n) f = f m n

unfoldable pub goes_both : Piece → Piece → (Mode → Mode → Bool) → Bool
goes_both s t f = every (λ m. both_go (step m s.0 (class_at s.1)) (step m t.0 (class_at t.1)) f) modes.members

unfoldable pub diverge : Piece → Piece → Row → Row → Bool
diverge s t [] [] = rivals (mark_of s.1.1) (mark_of t.1.1) || goes_both s t (λ m n. contrary (look_of m) (look_of n))
diverge s t [] (y ∷ v) = goes_both s t (λ m n. not (may (look_of m) (y ∷ v)))
diverge s t (x ∷ w) [] = goes_both s t (λ m n. not (may (look_of n) (x ∷ w)))
diverge s t (x ∷ w) (y ∷ v) = elim (eqb x y) [ true ↦ diverge s t w v | false ↦ true ]

unfoldable pub apart : Piece → Piece → Bool
apart s t = diverge s t (word s) (word t)

unfoldable pub all_apart : List Piece → Bool
all_apart [] = true
all_apart (s ∷ ss) = every (apart s) ss && all_apart ss

-- TEST B: what a mode's foresight allows is what its pieces begin with
abbrev pub begun : Option Mode → Bool → Bool
begun none b = true
begun (some n) b = b

unfoldable pub begins : Piece → Row → Bool
begins s [] = false
begins s (x ∷ w) = every (λ m. begun (step m s.0 (class_at s.1)) (must (look_of m) (x ∷ w))) modes.members

unfoldable pub all_begin : List Piece → Bool
all_begin [] = true
all_begin (s ∷ ss) = begins s (word s) && all_begin ss

-- membership
module _ {A : Type 0} where
  abbrev pub In : A → List A → Type 0
  In a [] = ⊥
  In a (x ∷ xs) = (a ≡ x) ⊎ In a xs

  pub in_left : (a : A) (xs ys : List A) → In a xs → In a (xs ++ ys)
  in_left a [] ys i = absurd i
  in_left a (x ∷ xs) ys (inl e) = inl e
  in_left a (x ∷ xs) ys (inr i) = inr (in_left a xs ys i)

  pub in_right : (a : A) (xs ys : List A) → In a ys → In a (xs ++ ys)
  in_right a [] ys i = i
  in_right a (x ∷ xs) ys i = inr (in_right a xs ys i)

  pub in_cases : (a : A) (xs ys : List A) → In a (xs ++ ys) → In a xs ⊎ In a ys
  in_cases a [] ys i = inr i
  in_cases a (x ∷ xs) ys (inl e) = inl (inl e)
  in_cases a (x ∷ xs) ys (inr i) = ⊎_elim (λ j. inl (inr j)) (λ j. inr j) (in_cases a xs ys i)

  pub every_in : (f : A → Bool) (xs : List A) → T (every f xs) → (a : A) → In a xs → T (f a)
  every_in f [] t a i = absurd i
  every_in f (x ∷ xs) t a (inl e) = subst (λ y. T (f y)) (sym e) (and_left (f x) (every f xs) t)
  every_in f (x ∷ xs) t a (inr i) = every_in f xs (and_right (f x) (every f xs) t) a i

-- taking the reader's choices apart
cond_some : (b : Bool) (x : Option Mode) {n : Mode} → cond b x none ≡ some n → T b × (x ≡ some n)
cond_some true x e = (tt, e)
cond_some false x e = nothing e

pub goes_some : (m : Mode) (o : Opens) (s : Piece) {n : Mode} → goes m o s ≡ some n
    → T (fits o s.1.1) × (step m s.0 (class_at s.1) ≡ some n)
unfolding goes
goes_some m o s e = cond_some (fits o s.1.1) (step m s.0 (class_at s.1)) e

pub some_goes : (m : Mode) (o : Opens) (s : Piece) {n : Mode} → T (fits o s.1.1) → step m s.0 (class_at s.1) ≡ some n → goes m o s ≡ some n
unfolding goes
some_goes m o s {n} t e = go (fits o s.1.1) t
  where
    go : (b : Bool) → T b → cond b (step m s.0 (class_at s.1)) none ≡ some n
    go true u = e
    go false u = absurd u

hit_some : (g : Option Mode) (w r : Row) {n : Mode} → hit g w r ≡ some n → (g ≡ some n) × T (match w r (look_of n))
unfolding hit
hit_some none w r e = nothing e
hit_some (some k) w r {n} e = go (match w r (look_of k)) refl e
  where
    go : (b : Bool) → match w r (look_of k) ≡ b → cond b (some k) none ≡ some n → (some k ≡ some n) × T (match w r (look_of n))
    go true q e = let z : k ≡ n = cc in (e, subst T (sym q ∙ ap (λ (x : Mode). match w r (look_of x)) z) tt)
    go false q e = nothing e

some_hit : (w r : Row) (n : Mode) → T (match w r (look_of n)) → hit (some n) w r ≡ some n
unfolding hit
some_hit w r n t = go (match w r (look_of n)) t
  where
    go : (b : Bool) → T b → cond b (some n) none ≡ some n
    go true u = refl
    go false u = absurd u

-- two pieces that are apart never both fit
rivals_differ : (x y o : Bool) → T (x && not y || not x && y) → T (may_stand x o) → T (may_stand y o) → ⊥
rivals_differ true true o t f g = t
rivals_differ true false o t f g = T_not o f g
rivals_differ false true o t f g = T_not o g f
rivals_differ false false o t f g = t

rivals_apart : (o : Opens) (a b : Option (ℕ × Bool)) → T (rivals a b) → T (mark_fits o a) → T (mark_fits o b) → ⊥
unfolding rivals
rivals_apart o none b t f g = t
rivals_apart o (some a) none t f g = t
rivals_apart o (some a) (some b) t f g =
    rivals_differ a.1 b.1 (o a.0) (and_right (eqb a.0 b.0) (a.1 && not b.1 || not a.1 && b.1) t) f
    (subst (λ (k : ℕ). T (may_stand b.1 (o k)))
    (sym (eqb→eq a.0 b.0 (and_left (eqb a.0 b.0) (a.1 && not b.1 || not a.1 && b.1) t))) g)

contrary_two : (k l : Look) (x y : ℕ) → T (contrary k l) → T (sees_two k x y) → T (sees_two l x y) → ⊥
unfolding contrary
contrary_two any l x y t a b = t
contrary_two (wants j) any x y t a b = t
contrary_two (wants j) (wants k) x y t a b = t
contrary_two (wants j) (shuns k) x y t a b = T_not (begins_as k x y) b (subst (λ (h : Kind). T (begins_as h x y)) (kind_same j k t) a)
contrary_two (shuns j) any x y t a b = t
contrary_two (shuns j) (wants k) x y t a b = T_not (begins_as j x y) a (subst (λ (h : Kind). T (begins_as h x y)) (sym (kind_same j k t)) b)
contrary_two (shuns j) (shuns k) x y t a b = t

contrary_apart : (k l : Look) (r : Row) → T (contrary k l) → T (sees k r) → T (sees l r) → ⊥
unfolding sees
contrary_apart k l [] t a b = contrary_two k l beyond beyond t a b
contrary_apart k l (x ∷ []) t a b = contrary_two k l x beyond t a b
contrary_apart k l (x ∷ y ∷ r) t a b = contrary_two k l x y t a b

pub match_split : (w r : Row) (l : Look) → T (match w r l) → (u : Row) × (r ≡ w ++ u)
unfolding match
match_split [] r l t = (r, refl)
match_split (x ∷ w) [] l t = absurd t
match_split (x ∷ w) (y ∷ r) l t =
    let h : (u : Row) × (r ≡ w ++ u) = match_split w r l (and_right (eqb x y) (match w r l) t) in
    (h.0, ap (λ (k : ℕ). k ∷ r) (sym (eqb→eq x y (and_left (eqb x y) (match w r l) t))) ∙ ap (λ (v : Row). x ∷ v) h.1)

-- a row that goes on with the word w is seen as w allows
may_match : (l k : Look) (w r : Row) → T (match w r k) → T (sees l r) → T (may l w)
may_match l k w r b a =
    let h : (u : Row) × (r ≡ w ++ u) = match_split w r k b in
    may_append l w h.0 (subst (λ (x : Row). T (sees l x)) h.1 a)

module _ (s t : Piece) (m n k : Mode) (o : Opens) (es : step m s.0 (class_at s.1) ≡ some n) (et : step m t.0 (class_at t.1) ≡ some k)
    (fs : T (fits o s.1.1)) (ft : T (fits o t.1.1)) where
  both_at : (f : Mode → Mode → Bool) → T (goes_both s t f) → T (f n k)
  unfolding goes_both both_go
  both_at f d =
      subst (λ x. T (both_go (some n) x f)) et
      (subst (λ x. T (both_go x (step m t.0 (class_at t.1)) f)) es
      (modes.at (λ a. both_go (step a s.0 (class_at s.1)) (step a t.0 (class_at t.1)) f) d m))

  diverge_apart : (w v r : Row) → T (match w r (look_of n)) → T (match v r (look_of k)) → T (diverge s t w v) → ⊥
  unfolding match diverge fits
  diverge_apart [] [] r a b d = go (rivals (mark_of s.1.1) (mark_of t.1.1)) refl d
    where
      go : (c : Bool) → rivals (mark_of s.1.1) (mark_of t.1.1) ≡ c → T (c || goes_both s t (λ x y. contrary (look_of x) (look_of y))) → ⊥
      go true e d = rivals_apart o (mark_of s.1.1) (mark_of t.1.1) (subst T (sym e) tt) fs ft
      go false e d = contrary_apart (look_of n) (look_of k) r (both_at (λ x y. contrary (look_of x) (look_of y)) d) a b
  diverge_apart [] (y ∷ v) r a b d =
      T_not (may (look_of n) (y ∷ v)) (both_at (λ p q. not (may (look_of p) (y ∷ v))) d) (may_match (look_of n) (look_of k) (y ∷ v) r b a)
  diverge_apart (x ∷ w) [] r a b d =
      T_not (may (look_of k) (x ∷ w)) (both_at (λ p q. not (may (look_of q) (x ∷ w))) d) (may_match (look_of k) (look_of n) (x ∷ w) r a b)
  diverge_apart (x ∷ w) (y ∷ v) [] a b d = a
  diverge_apart (x ∷ w) (y ∷ v) (z ∷ r) a b d =
      diverge_apart w v r (and_right (eqb x z) (match w r (look_of n)) a) (and_right (eqb y z) (match v r (look_of k)) b)
      (go (eqb x y)
      (subst (λ (c : ℕ). T (eqb x c))
      (eqb→eq x z (and_left (eqb x z) (match w r (look_of n)) a) ∙ sym (eqb→eq y z (and_left (eqb y z) (match v r (look_of k)) b))) (eqb_refl x))
      d)
    where
      go : (c : Bool) → T c → T (elim c [ true ↦ diverge s t w v | false ↦ true ]) → T (diverge s t w v)
      go true u d = d
      go false u d = absurd u

-- the list's first piece that fits is the one that stands there
find_is : (tb : List Piece) (s : Piece) (m n : Mode) (o : Opens) (r : Row) → T (all_apart tb) → In s tb → T (fits o s.1.1)
    → step m s.0 (class_at s.1) ≡ some n → T (match (word s) r (look_of n)) → find tb m o r ≡ some (s, n)
unfolding find all_apart apart
find_is [] s m n o r t i f e h = absurd i
find_is (x ∷ tb) s m n o r t (inl q) f e h =
    subst (λ (y : Piece). find (y ∷ tb) m o r ≡ some (s, n)) q
    (ap (λ (g : Option Mode). elim g as (λ _. Option (Piece × Mode)) [ none ↦ find tb m o r | some k ↦ some (s, k) ])
    (ap (λ (g : Option Mode). hit g (word s) r) (some_goes m o s f e) ∙ some_hit (word s) r n h))
find_is (x ∷ tb) s m n o r t (inr i) f e h =
    go (hit (goes m o x) (word x) r) refl (find_is tb s m n o r (and_right (every (apart x) tb) (all_apart tb) t) i f e h)
  where
    go : (g : Option Mode) → hit (goes m o x) (word x) r ≡ g → find tb m o r ≡ some (s, n)
        → ◌≡◌ {A = Option (Piece × Mode)} (elim g as (λ _. Option (Piece × Mode)) [ none ↦ find tb m o r | some k ↦ some (x, k) ]) (some (s, n))
    go none q ih = ih
    go (some k) q ih =
        let v : (goes m o x ≡ some k) × T (match (word x) r (look_of k)) = hit_some (goes m o x) (word x) r q in
        let g : T (fits o x.1.1) × (step m x.0 (class_at x.1) ≡ some k) = goes_some m o x v.0 in
        absurd
        (diverge_apart x s m k n o g.1 e g.0 f (word x) (word s) r v.1 h
        (every_in (apart x) tb (and_left (every (apart x) tb) (all_apart tb) t) s i))

-- READING GIVES BACK THE PIECES
unfoldable pub AllIn : List Piece → List Piece → Type 0
AllIn [] tb = Unit {0}
AllIn (s ∷ ss) tb = In s tb × AllIn ss tb

rest_sees_all : T (every (λ m. not (at_rest m) || sees (look_of m) []) modes.members)
unfolding at_rest sees look_of begins_as is_digit_cell dots
rest_sees_all = tt

pub all_begin_in : (tb : List Piece) → T (all_begin tb) → (s : Piece) → In s tb → T (begins s (word s))
unfolding all_begin
all_begin_in [] t s i = absurd i
all_begin_in (x ∷ tb) t s (inl e) = subst (λ (y : Piece). T (begins y (word y))) (sym e) (and_left (begins x (word x)) (all_begin tb) t)
all_begin_in (x ∷ tb) t s (inr i) = all_begin_in tb (and_right (begins x (word x)) (all_begin tb) t) s i

foresight_word : (s : Piece) (m n : Mode) → step m s.0 (class_at s.1) ≡ some n → (w r : Row) → T (begins s w) → T (sees (look_of m) (w ++ r))
unfolding begins
foresight_word s m n e [] r t = absurd t
foresight_word s m n e (x ∷ w) r t =
    must_append (look_of m) (x ∷ w) r
    (subst (λ (g : Option Mode). T (begun g (must (look_of m) (x ∷ w)))) e
    (modes.at (λ a. begun (step a s.0 (class_at s.1)) (must (look_of a) (x ∷ w))) t m))

foresight : (tb : List Piece) → T (all_begin tb) → (m : Mode) (o : Opens) (ss : List Piece) → Runs m o ss → AllIn ss tb
    → T (sees (look_of m) (words ss))
unfolding Runs AllIn words
foresight tb t m o [] r i =
    implies (at_rest m) (sees (look_of m) []) r.0 (modes.at (λ a. not (at_rest a) || sees (look_of a) []) rest_sees_all m)
foresight tb t m o (s ∷ ss) r i = foresight_word s m r.0 r.1 (word s) (words ss) (all_begin_in tb t s i.0)

match_own : (w r : Row) (l : Look) → T (sees l r) → T (match w (w ++ r) l)
unfolding match
match_own [] r l t = t
match_own (x ∷ w) r l t = and_both (eqb x x) (match w (w ++ r) l) (eqb_refl x) (match_own w r l t)

skip : (tb : List Piece) (m : Mode) (o : Opens) (w r : Row) → walk tb m o (length w) (w ++ r) ≡ walk tb m o 0 r
unfolding walk
skip tb m o [] r = refl
skip tb m o (x ∷ w) r = skip tb m o w r

module _ (tb : List Piece) (ta : T (all_apart tb)) (tc : T (all_begin tb)) where
  reads_one : (s : Piece) (m n : Mode) (o : Opens) (r : Row) (ss : List Piece) → In s tb → T (fits o s.1.1)
      → step m s.0 (class_at s.1) ≡ some n → T (sees (look_of n) r) → walk tb n (turn s.1.1 o) 0 r ≡ some ss
      → walk tb m o 0 (word s ++ r) ≡ some (s ∷ ss)
  unfolding walk add begins
  reads_one s m n o r ss i f e h ih = go (word s) refl
    where
      go : (w : Row) → word s ≡ w → walk tb m o 0 (w ++ r) ≡ some (s ∷ ss)
      go [] q = absurd (subst (λ (w : Row). T (begins s w)) q (all_begin_in tb tc s i))
      go (x ∷ w) q =
          ap (λ (g : Option (Piece × Mode)). elim g as (λ _. Option (List Piece))
          [ none ↦ none | some p ↦ add p.0 (walk tb p.1 (turn p.0.1.1 o) (pred_length (word p.0)) (w ++ r)) ])
          (find_is tb s m n o (x ∷ w ++ r) ta i f e
          (subst (λ (v : Row). T (match (word s) (v ++ r) (look_of n))) q (match_own (word s) r (look_of n) h)))
          ∙ ap (λ (v : Row). add s (walk tb n (turn s.1.1 o) (pred_length v) (w ++ r))) q
          ∙ ap (add s) (skip tb n (turn s.1.1 o) w r ∙ ih)

  pub reads : (m : Mode) (o : Opens) (ss : List Piece) → Runs m o ss → AllIn ss tb → walk tb m o 0 (words ss) ≡ some ss
  unfolding Runs AllIn words walk
  reads m o [] r i = go (at_rest m) (closed o) r.0 r.1
    where
      go : (a b : Bool) → T a → T b → ◌≡◌ {A = Option (List Piece)} (cond (a && b) (some []) none) (some [])
      go true true t u = refl
      go true false t u = absurd u
      go false b t u = absurd t
  reads m o (s ∷ ss) r i =
      reads_one s m r.0 o (words ss) ss i.0 r.2 r.1
      (foresight tb tc r.0 (turn s.1.1 o) ss r.3 i.1)
      (reads r.0 (turn s.1.1 o) ss r.3 i.1)

-- WHAT IS READ IS PIECES THAT THE MACHINE TAKES, WITH THOSE CELLS
pub find_some : (tb : List Piece) (m : Mode) (o : Opens) (r : Row) (s : Piece) (n : Mode) → find tb m o r ≡ some (s, n)
    → In s tb × (goes m o s ≡ some n) × T (match (word s) r (look_of n))
unfolding find
find_some [] m o r s n e = nothing e
find_some (x ∷ tb) m o r s n e = go (hit (goes m o x) (word x) r) refl (find_some tb m o r s n) e
  where
    go : (g : Option Mode) → hit (goes m o x) (word x) r ≡ g
        → (find tb m o r ≡ some (s, n) → In s tb × (goes m o s ≡ some n) × T (match (word s) r (look_of n)))
        → ◌≡◌ {A = Option (Piece × Mode)} (elim g as (λ _. Option (Piece × Mode)) [ none ↦ find tb m o r | some k ↦ some (x, k) ]) (some (s, n))
        → ((s ≡ x) ⊎ In s tb) × (goes m o s ≡ some n) × T (match (word s) r (look_of n))
    go none q ih e = let h : In s tb × (goes m o s ≡ some n) × T (match (word s) r (look_of n)) = ih e in (inr h.0, h.1, h.2)
    go (some k) q ih e =
        let z : ◌≡◌ {A = Piece × Mode} (x, k) (s, n) = cc in
        let v : (goes m o x ≡ some k) × T (match (word x) r (look_of k)) = hit_some (goes m o x) (word x) r q in (
          inl (sym (ap (λ (p : Piece × Mode). p.0) z)),
          subst (λ (p : Piece × Mode). goes m o p.0 ≡ some p.1) z v.0,
          subst (λ (p : Piece × Mode). T (match (word p.0) r (look_of p.1))) z v.1,
        )

add_some : (s : Piece) (x : Option (List Piece)) {ss : List Piece} → add s x ≡ some ss → (us : List Piece) × (x ≡ some us) × (ss ≡ s ∷ us)
unfolding add
add_some s none e = nothing e
add_some s (some us) e = (us, refl, cc)

tail_split : (s : Piece) (w : Row) (x : ℕ) (r u : Row) → T (begins s w) → x ∷ r ≡ w ++ u → (pred_length w ≤ length r) × (drop (pred_length w) r ≡ u)
unfolding begins
tail_split s [] x r u t e = absurd t
tail_split s (y ∷ w) x r u t e =
    let z : r ≡ w ++ u = cc in
    (omega (arith, ap length z, length-append w u), ap (drop (length w)) z ∙ drop-append_seam w u)

end_some : (a b : Bool) {ss : List Piece} → cond (a && b) (some []) none ≡ some ss → T a × T b × (ss ≡ [])
end_some true true e = (tt, tt, cc)
end_some true false e = nothing e
end_some false b e = nothing e

module _ (tb : List Piece) (tc : T (all_begin tb)) where
  abbrev Sound : Mode → Opens → ℕ → Row → List Piece → Type 0
  Sound m o k r ss = Runs m o ss × AllIn ss tb × (k ≤ length r → words ss ≡ drop k r)

  abbrev Sounds : Row → Type 0
  Sounds r = (m : Mode) (o : Opens) (k : ℕ) (ss : List Piece) → walk tb m o k r ≡ some ss → Sound m o k r ss

  sound_one : (x : ℕ) (r : Row) → Sounds r → (m : Mode) (o : Opens) (ss : List Piece) (g : Option (Piece × Mode)) → find tb m o (x ∷ r) ≡ g
      → ◌≡◌ {A = Option (List Piece)} (elim g as (λ _. Option (List Piece))
      [ none ↦ none | some p ↦ add p.0 (walk tb p.1 (turn p.0.1.1 o) (pred_length (word p.0)) r) ]) (some ss)
      → Sound m o 0 (x ∷ r) ss
  unfolding Runs AllIn words
  sound_one x r ih m o ss none q e = nothing e
  sound_one x r ih m o ss (some p) q e =
      let s : Piece = p.0 in
      let n : Mode = p.1 in
      let a = add_some s (walk tb n (turn s.1.1 o) (pred_length (word s)) r) e in
      let f : In s tb × (goes m o s ≡ some n) × T (match (word s) (x ∷ r) (look_of n)) = find_some tb m o (x ∷ r) s n q in
      let g : T (fits o s.1.1) × (step m s.0 (class_at s.1) ≡ some n) = goes_some m o s f.1 in
      let u : (u : Row) × (x ∷ r ≡ word s ++ u) = match_split (word s) (x ∷ r) (look_of n) f.2 in
      let d = tail_split s (word s) x r u.0 (all_begin_in tb tc s f.0) u.1 in
      let h : Sound n (turn s.1.1 o) (pred_length (word s)) r a.0 = ih n (turn s.1.1 o) (pred_length (word s)) a.0 a.1 in
      subst (Sound m o 0 (x ∷ r)) (sym a.2)
      ((n, g.1, g.0, h.0), (f.0, h.1), λ l. ap (λ (v : Row). word s ++ v) (h.2 d.0 ∙ d.1) ∙ sym u.1)

  pub sound : (r : Row) → Sounds r
  unfolding walk Runs AllIn words
  sound [] m o k ss e =
      let h : T (at_rest m) × T (closed o) × (ss ≡ []) = end_some (at_rest m) (closed o) e in
      subst (Sound m o k []) (sym h.2) ((h.0, h.1), tt, λ l. sym (drop-nil k))
  sound (x ∷ r) m o (suc k) ss e = let h : Sound m o k r ss = sound r m o k ss e in (h.0, h.1, λ l. h.2 (le_of_suc-le-suc l))
  sound (x ∷ r) m o zero ss e = sound_one x r (sound r) m o ss (find tb m o (x ∷ r)) refl e
