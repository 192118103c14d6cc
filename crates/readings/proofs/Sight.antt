-- What is known of a row from its first cells, as far as a reader looks: for any word of a sign and any foresight, whether they fit, do not, or are not told
-- apart yet. A byte that is no cell is as good as the row's end. Assumes nothing.
use mathlib.Core.Path.{◌≡◌, refl, sym, ◌∙◌, ap, subst}
use mathlib.Core.Bool.{Bool, true, false, ◌&&◌, not, cond}
use mathlib.Core.List.{List, [], ◌∷◌}
use mathlib.Core.Option.{Option, none, some}
use Prim.Native.Nat.{ℕ, ◌≤◌, ◌<◌}
use native.Mathlib.Omega.{arith}
use lib.Dec.{T, eqb, leb, leb→le}
use borrow.Author.Tests.{ne_eqb, leb-false}
use Rattle.rules.specs.Cells.{Row, dots, cells, last_cell}
use Rattle.rules.specs.Sorts.{among, digit_dots, is_digit_cell}
use Rattle.rules.proofs.Finite.{nothing, every, and_left, and_right}
use Rattle.rules.proofs.States.{Kind, a_digit, a_hyphen, a_lower_zero}
use Rattle.rules.proofs.Reader.{Look, any, wants, shuns, beyond, begins_as, sees_two, open_at, sure, sees, match}
use Rattle.readings.specs.Fields.{no_cell, cell_from}

-- these cells are what the row begins with
abbrev pub Agree : List ℕ → Row → Type 0
Agree [] r = Unit {0}
Agree (x ∷ k) [] = (x ≡ no_cell) × Agree k []
Agree (x ∷ k) (c ∷ r) = (x ≡ cell_from c) × Agree k r

abbrev pub low : ℕ → Bool
low c = leb c last_cell

-- A BYTE THAT IS NO CELL
among_high : (c : ℕ) (ms : List ℕ) → last_cell < c → T (every low ms) → among c ms ≡ false
unfolding among
among_high c [] h t = refl
among_high c (m ∷ ms) h t =
    let l : m ≤ last_cell = leb→le m last_cell (and_left (low m) (every low ms) t) in
    rw (ne_eqb c m (λ e. omega (arith, e, h, l))) (among_high c ms h (and_right (low m) (every low ms) t))

begins_high : (k : Kind) (c : ℕ) → last_cell < c → begins_as k c beyond ≡ false
unfolding begins_as is_digit_cell dots
begins_high a_digit c h = among_high c (cells digit_dots) h tt
begins_high a_hyphen c h = ne_eqb c 36 (λ e. omega (arith, e, h))
begins_high a_lower_zero c h = ne_eqb c 52 (λ e. omega (arith, e, h))

begins_beyond : (k : Kind) → begins_as k no_cell beyond ≡ false
unfolding begins_as is_digit_cell dots
begins_beyond a_digit = refl
begins_beyond a_hyphen = refl
begins_beyond a_lower_zero = refl

begins_cell : (k : Kind) (c : ℕ) → begins_as k c beyond ≡ begins_as k (cell_from c) beyond
begins_cell k c = go (leb c last_cell) refl
  where
    go : (b : Bool) → leb c last_cell ≡ b → begins_as k c beyond ≡ begins_as k (cond b c no_cell) beyond
    go true e = refl
    go false e = begins_high k c (leb-false c last_cell e) ∙ sym (begins_beyond k)

sees_cell : (l : Look) (c : ℕ) → sees_two l c beyond ≡ sees_two l (cell_from c) beyond
sees_cell any c = refl
sees_cell (wants k) c = begins_cell k c
sees_cell (shuns k) c = ap not (begins_cell k c)

never_open : (l : Look) (x : ℕ) → open_at l x ≡ false
never_open any x = refl
never_open (wants a_digit) x = refl
never_open (wants a_hyphen) x = refl
never_open (wants a_lower_zero) x = refl
never_open (shuns a_digit) x = refl
never_open (shuns a_hyphen) x = refl
never_open (shuns a_lower_zero) x = refl

-- foresight is of one cell
foresees : (l : Look) (y : ℕ) (r : Row) → Agree (y ∷ []) r → sees l r ≡ sees_two l y beyond
unfolding sees
foresees l y [] a = ap (λ (c : ℕ). sees_two l c beyond) (sym a.0)
foresees l y (c ∷ []) a = sees_cell l c ∙ ap (λ (d : ℕ). sees_two l d beyond) (sym a.0)
foresees l y (c ∷ d ∷ r) a = sure l c d (never_open l c) ∙ sees_cell l c ∙ ap (λ (e : ℕ). sees_two l e beyond) (sym a.0)

sees_any : (r : Row) → sees any r ≡ true
unfolding sees
sees_any [] = refl
sees_any (x ∷ []) = refl
sees_any (x ∷ y ∷ r) = refl

-- a cell of a word against a byte
same_cell : (a c : ℕ) → a ≤ last_cell → eqb a c ≡ eqb a (cell_from c)
same_cell a c l = go (leb c last_cell) refl
  where
    go : (b : Bool) → leb c last_cell ≡ b → eqb a c ≡ eqb a (cond b c no_cell)
    go true e = refl
    go false e =
        let h : last_cell < c = leb-false c last_cell e in
        ne_eqb a c (λ q. omega (arith, q, h, l)) ∙ sym (ne_eqb a no_cell (λ q. omega (arith, q, l)))

-- WHAT THE CELLS SAY of a word and a foresight: that they fit, that they do not, or not enough
unfoldable pub says : Row → Look → List ℕ → Option Bool
says [] any [] = some true
says [] (wants k) [] = none
says [] (shuns k) [] = none
says [] l (y ∷ k) = some (sees_two l y beyond)
says (a ∷ w) l [] = none
says (a ∷ w) l (x ∷ k) = elim (eqb a x) [ true ↦ says w l k | false ↦ some false ]

some_same : {a b : Bool} → some a ≡ some b → a ≡ b
some_same e = cc

pub says_match : (w : Row) (l : Look) (k : List ℕ) (r : Row) (b : Bool) → T (every low w) → Agree k r → says w l k ≡ some b → match w r l ≡ b
unfolding says match
says_match [] any [] r b t a e = sees_any r ∙ some_same e
says_match [] (wants k) [] r b t a e = nothing e
says_match [] (shuns k) [] r b t a e = nothing e
says_match [] any (y ∷ k) r b t a e = sees_any r ∙ some_same e
says_match [] (wants h) (y ∷ k) [] b t a e = foresees (wants h) y [] (a.0, tt) ∙ some_same e
says_match [] (wants h) (y ∷ k) (c ∷ r) b t a e = foresees (wants h) y (c ∷ r) (a.0, tt) ∙ some_same e
says_match [] (shuns h) (y ∷ k) [] b t a e = foresees (shuns h) y [] (a.0, tt) ∙ some_same e
says_match [] (shuns h) (y ∷ k) (c ∷ r) b t a e = foresees (shuns h) y (c ∷ r) (a.0, tt) ∙ some_same e
says_match (x ∷ w) l [] r b t a e = nothing e
says_match (x ∷ w) l (y ∷ k) [] b t a e = go (eqb x y) (ap (λ (c : ℕ). eqb x c) a.0 ∙ ne_eqb x no_cell (λ q. omega (arith, q, h))) e
  where
    h : x ≤ last_cell
    h = leb→le x last_cell (and_left (low x) (every low w) t)

    go : (c : Bool) → c ≡ false → ◌≡◌ {A = Option Bool} (elim c as (λ _. Option Bool) [ true ↦ says w l k | false ↦ some false ]) (some b) → false ≡ b
    go true f e = absurd (subst T f tt)
    go false f e = some_same e
says_match (x ∷ w) l (y ∷ k) (c ∷ r) b t a e =
    go (eqb x y) (same_cell x c (leb→le x last_cell (and_left (low x) (every low w) t)) ∙ ap (λ (d : ℕ). eqb x d) (sym a.0)) e
    (says_match w l k r b (and_right (low x) (every low w) t) a.1)
  where
    go : (d : Bool) → eqb x c ≡ d → ◌≡◌ {A = Option Bool} (elim d as (λ _. Option Bool) [ true ↦ says w l k | false ↦ some false ]) (some b)
        → (says w l k ≡ some b → match w r l ≡ b) → (eqb x c && match w r l) ≡ b
    go true f e ih = rw f (ih e)
    go false f e ih = rw f (some_same e)
