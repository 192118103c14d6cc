-- Bytes printed at a place, one behind another. In order: nothing; one part behind another (`prints_on`);
-- the same from the front of what is lent; two allowed results; the same of pages; between two parts of a loop (`Mid`): whatever prints what is still to come from here
-- prints the whole. Assumes nothing.
use mathlib.Core.List.{List, [], ◌∷◌, ◌++◌}
use mathlib.Core.Logic.{⊎_elim}
use mathlib.Core.Path.{◌≡◌, refl, sym, ap, subst, ◌∙◌}
use Prim.Native.Nat.{ℕ, suc, ◌+◌, ◌≤◌, ◌<◌}
use native.Mathlib.Omega.{arith}
use native.Mathlib.Nat.{zero-add}
use lib.ListN.{length, get_or, take, drop, set, length-append, drop_of_length-le}
use lib.Seq.{sets, length-sets, sets-eq, drop-cons}
use Rattle.rows.specs.Laid.{laid}
use Rattle.rows.proofs.Laid.{front}
use Rattle.rows.proofs.Stored.{stored_past}
use Rattle.rules.proofs.Finite.{le_or_lt}
use Rattle.printing.specs.Printed.{Prints}
use Rattle.printing.specs.declared.Page.{Page}
use Rattle.printing.specs.Pages.{PagePrints}

-- NOTHING
pub prints_none : (l : List ℕ) (at : ℕ) → Prints l at [] at l
prints_none l at = record { place = omega arith; stored = refl }

-- ONE PART BEHIND ANOTHER
pub sets_on : (x y l : List ℕ) (at : ℕ) → sets l at (x ++ y) ≡ sets (sets l at x) (at + length x) y
sets_on [] y l at = let e : at + 0 ≡ at = omega arith in rw e refl
sets_on (a ∷ x) y l at =
    let e : at + suc (length x) ≡ suc at + length x = omega arith in
    rw e (sets_on x y (set l at a) (suc at))

-- what is printed changes no length, and the place stays inside
pub prints_same : (l : List ℕ) (at : ℕ) (x : List ℕ) (r : ℕ) (new : List ℕ) → Prints l at x r new → length new ≡ length l
prints_same l at x r new p = ap length p.stored ∙ length-sets l at x

pub prints_within : (l : List ℕ) (at : ℕ) (x : List ℕ) (r : ℕ) (new : List ℕ) → Prints l at x r new → at ≤ length l → r ≤ length new
prints_within l at x r new p h = omega (arith, h, p.place, prints_same l at x r new p)

pub prints_on : (l : List ℕ) (at : ℕ) (x : List ℕ) (m : ℕ) (mid y : List ℕ) (r : ℕ) (new : List ℕ)
    → Prints l at x m mid → Prints mid m y r new → Prints l at (x ++ y) r new
prints_on l at x m mid y r new p q = record {
  place = omega (arith, p.place, q.place, prints_same l at x m mid p, length-append x y);
  stored = q.stored ∙ ⊎_elim fit past (le_or_lt (at + length x) (length l)) ∙ ap (λ (k : List ℕ). sets k (at + length x) y) p.stored ∙ sym (sets_on x y l at);
}
  where
    long : length mid ≡ length l
    long = prints_same l at x m mid p

    -- there is room for the first part: the second begins behind it
    fit : at + length x ≤ length l → sets mid m y ≡ sets mid (at + length x) y
    fit h = ap (λ (k : ℕ). sets mid k y) (omega (arith, h, p.place))

    -- there is none: nothing is stored any more
    past : length l < at + length x → sets mid m y ≡ sets mid (at + length x) y
    past h = stored_past y mid m (omega (arith, h, p.place, long)) ∙ sym (stored_past y mid (at + length x) (omega (arith, h, long)))

-- the same bytes
pub prints_as : (l : List ℕ) (at : ℕ) (x y : List ℕ) (r : ℕ) (new : List ℕ) → x ≡ y → Prints l at x r new → Prints l at y r new
prints_as l at x y r new e p = subst (λ (t : List ℕ). Prints l at t r new) e p

-- FROM THE FRONT of what is lent: what is printed is laid there, and it is what stands before the place that is answered
pub prints_laid : (l x : List ℕ) (r : ℕ) (new : List ℕ) → Prints l 0 x r new → length x ≤ length l → new ≡ laid x l
prints_laid l x r new p h =
    let room : 0 + length x ≤ length l = omega (arith, h) in
    p.stored ∙ sets-eq x l 0 room ∙ ap (λ (k : ℕ). x ++ drop k l) (zero-add (length x))

pub prints_front : (l x : List ℕ) (r : ℕ) (new : List ℕ) → Prints l 0 x r new → length x ≤ length l → take r new ≡ x
prints_front l x r new p h =
    front x l new r (omega (arith, h, p.place)) (prints_laid l x r new p h)

-- "any two results allowed by one statement are proved equal"
pub one_printed : (l : List ℕ) (at : ℕ) (x : List ℕ) (r s : ℕ) (new old : List ℕ) → Prints l at x r new → Prints l at x s old → (r ≡ s) × (new ≡ old)
one_printed l at x r s new old p q = (p.place ∙ sym q.place, p.stored ∙ sym q.stored)

-- PAGES
page_none : (page : Page) → PagePrints page [] page
page_none page = record { same = refl; prints = prints_none page.out.now page.at }

pub page_on : (old : Page) (x : List ℕ) (mid : Page) (y : List ℕ) (new : Page) → PagePrints old x mid → PagePrints mid y new → PagePrints old (x ++ y) new
page_on old x mid y new p q = record { same = q.same ∙ p.same; prints = prints_on old.out.now old.at x mid.at mid.out.now y new.at new.out.now p.prints q.prints }

pub page_as : (old : Page) (x y : List ℕ) (new : Page) → x ≡ y → PagePrints old x new → PagePrints old y new
page_as old x y new e p = subst (λ (t : List ℕ). PagePrints old t new) e p

-- a page that begins at the front of what is lent, and what is lent as the page leaves it
pub page_line : (out : List ℕ) (first : Page) (x : List ℕ) (last : Page) (new : List ℕ)
    → first.out.now ≡ out → first.at ≡ 0 → new ≡ last.out.now → PagePrints first x last → Prints out 0 x last.at new
page_line out first x last new e f g p = rw g (subst (λ (l : List ℕ). Prints l 0 x last.at last.out.now) e (subst (λ (k : ℕ). Prints first.out.now k x last.at last.out.now) f p.prints))

-- its first part, at the front of what is lent; and its last, in what is lent as the page leaves it
pub page_first : (out : List ℕ) (first : Page) (x : List ℕ) (next : Page)
    → first.out.now ≡ out → first.at ≡ 0 → PagePrints first x next → Prints out 0 x next.at next.out.now
page_first out first x next e f p = page_line out first x next next.out.now e f refl p

pub page_last : (page : Page) (x : List ℕ) (last : Page) (new : List ℕ) → new ≡ last.out.now → PagePrints page x last → Prints page.out.now page.at x last.at new
page_last page x last new e p = rw e p.prints

-- BETWEEN TWO PARTS of a whole that a loop prints: what is still to come, printed from here on, makes the whole
abbrev pub Mid : Page → List ℕ → List ℕ → Page → Type 0
Mid old all rest now = (new : Page) → PagePrints now rest new → PagePrints old all new

module _ (old : Page) (all : List ℕ) where
  pub mid_start : Mid old all all old
  mid_start new p = p

  module _ (rest : List ℕ) (now : Page) (m : Mid old all rest now) where
    pub mid_on : (x rest' : List ℕ) (next : Page) → rest ≡ x ++ rest' → PagePrints now x next → Mid old all rest' next
    mid_on x rest' next e p new q = m new (page_as now (x ++ rest') rest new (sym e) (page_on now x next rest' new p q))

    pub mid_done : rest ≡ [] → PagePrints old all now
    mid_done e = m now (page_as now [] rest now (sym e) (page_none now))

-- what is still to come at a place: there one, and what is behind it; or nothing
pub rest_on : {A : Type 0} (xs : List A) (i : ℕ) (d : A) → i < length xs → drop i xs ≡ get_or xs i d ∷ drop (i + 1) xs
rest_on xs i d h =
    let e : i + 1 ≡ suc i = omega arith in
    rw e (drop-cons xs i d h)

pub rest_none : {A : Type 0} (xs : List A) (i : ℕ) → length xs ≤ i → drop i xs ≡ []
rest_none xs i h = drop_of_length-le xs {i = i} h
