-- Pairs: the kinds that are counted are all there are. A table's test says that each mark is of a kind below `kinds`; so no other kind is ever
-- opened, and `closed`, which counts those, speaks of all. Assumes nothing.
use mathlib.Core.Path.{◌≡◌, refl, sym, ◌∙◌, ap, subst}
use mathlib.Core.Logic.{⊎_elim}
use mathlib.Core.Bool.{Bool, true, false, not, cond}
use mathlib.Core.List.{List, [], ◌∷◌, reverse_aux}
use mathlib.Core.Option.{Option, none, some}
use Prim.Native.Nat.{ℕ, zero, suc, ◌≤◌, ◌<◌}
use native.Mathlib.Nat.{not-suc-le-zero}
use native.Mathlib.Omega.{arith}
use lib.Dec.{T, eqb, eqb→eq, ltb, ltb→lt}
use Rattle.rules.specs.Cells.{Text}
use Rattle.rules.specs.Sorts.{Sort, Item, Table}
use Rattle.rules.specs.Pairs.{kinds, Opens, leaves_open, mark_of, mark_turns, turn, open_after, closed_below, closed}
use Rattle.rules.specs.Rows.{sort_in, item_in, items_in}
use Rattle.rules.specs.Demands.{ClosedMeansAll}
use Rattle.rules.proofs.Finite.{false_of, le_or_lt, every, and_left, and_right}

abbrev known_kind : Option (ℕ × Bool) → Bool
known_kind none = true
known_kind (some m) = ltb m.0 kinds

unfoldable pub kinds_known : Table → Bool
kinds_known tb = every (λ (i : Item). known_kind (mark_of i.1)) tb

sort_known : (tb : Table) → T (kinds_known tb) → (c : ℕ) → T (known_kind (mark_of (sort_in tb c)))
unfolding kinds_known sort_in mark_of
sort_known [] t c = tt
sort_known (i ∷ tb) t c =
    go (eqb i.0 c) (and_left (known_kind (mark_of i.1)) (kinds_known tb) t)
    (sort_known tb (and_right (known_kind (mark_of i.1)) (kinds_known tb) t) c)
  where
    go : (b : Bool) → T (known_kind (mark_of i.1)) → T (known_kind (mark_of (sort_in tb c)))
        → T (known_kind (mark_of (elim b as (λ _. Sort) [ true ↦ i.1 | false ↦ sort_in tb c ])))
    go true s u = s
    go false s u = u

-- a mark of a known kind leaves the others as they were
other_kind : (m : Option (ℕ × Bool)) (o : Opens) (k : ℕ) → T (known_kind m) → kinds ≤ k → o k ≡ false → mark_turns m o k ≡ false
other_kind none o k t l e = e
other_kind (some m) o k t l e = go (eqb k m.0) refl
  where
    go : (b : Bool) → eqb k m.0 ≡ b → cond b (leaves_open m.1 (o k)) (o k) ≡ false
    go true q =
        let z : k ≡ m.0 = eqb→eq k m.0 (subst T (sym q) tt) in
        let u : m.0 < kinds = ltb→lt m.0 kinds t in
        absurd (omega arith)
    go false q = e

never_open : (tb : Table) → T (kinds_known tb) → (k : ℕ) → kinds ≤ k → (b : List Item) (t : Text) → open_after b k ≡ false
    → open_after (reverse_aux (items_in tb t) b) k ≡ false
unfolding items_in item_in open_after turn
never_open tb s k l b [] e = e
never_open tb s k l b (c ∷ t) e =
    never_open tb s k l (item_in tb c ∷ b) t (other_kind (mark_of (sort_in tb c)) (open_after b) k (sort_known tb s c) l e)

closed_below_lem : (n : ℕ) (o : Opens) → T (closed_below n o) → (k : ℕ) → k < n → o k ≡ false
unfolding closed_below
closed_below_lem zero o t k l = absurd (not-suc-le-zero l)
closed_below_lem (suc n) o t k l =
    ⊎_elim (λ h. closed_below_lem n o (and_right (not (o n)) (closed_below n o) t) k h)
    (λ h. let z : k ≡ n = omega arith in ap o z ∙ false_of (o n) (and_left (not (o n)) (closed_below n o) t)) (le_or_lt (suc k) n)

pub closed_means_all : (tb : Table) → T (kinds_known tb) → ClosedMeansAll tb
unfolding closed open_after
closed_means_all tb s t h k =
    ⊎_elim (λ l. never_open tb s k l [] t refl)
    (λ l. closed_below_lem kinds o (double (closed o) h) k l) (le_or_lt kinds k)
  where
    o : Opens
    o = open_after (reverse_aux (items_in tb t) [])

    double : (b : Bool) → (T (not b) → ⊥) → T b
    double true f = tt
    double false f = f tt
