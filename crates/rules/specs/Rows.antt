-- The row of a text (paper 01, "The signs" to "Pairs"), and what goes with it. In order: a text's code points in a profile's table; its row, and
-- what reading must meet; its faults; the verdict; its signs. Assumes nothing.
use Rattle.std.specs.Prelude.{Bool, true, false, not, cond, List, [], ◌∷◌, ◌++◌, map, reverse, ◌≡◌, ℕ, suc, ◌<◌, eqb, T}
use Rattle.std.proofs.Math.Option.{Option, none, some}
use Rattle.rules.specs.Cells.{Text, Row}
use Rattle.rules.specs.Sorts.{Sort, no_sign, Item, Table}
use Rattle.rules.specs.Signs.{sign_cells, Sign}
use Rattle.rules.specs.Pairs.{fits, open_after, closed}
use Rattle.rules.specs.Places.{Place, place_from, near_of, class_of, Cause, breaks_pair, Faulty, Outcome, fault, silent, sign, outcome}

-- "any number not listed below" has no sign
unfoldable pub sort_in : Table → ℕ → Sort
sort_in [] c = no_sign
sort_in (i ∷ tb) c = elim (eqb i.0 c) [ true ↦ i.1 | false ↦ sort_in tb c ]

unfoldable pub item_in : Table → ℕ → Item
unfolding sort_in
item_in tb c = (c, sort_in tb c)

unfoldable pub items_in : Table → Text → List Item
unfolding item_in
items_in tb t = map (item_in tb) t

abbrev pub at : List Item → Item → List Item → Place
at b i a = record { before = b; here = i; after = a }

abbrev pub outcome_at : Place → Outcome
outcome_at p = outcome (near_of p) (class_of p)

abbrev pub fits_at : Place → Bool
fits_at p = fits (open_after p.before) p.here.1

-- THE ROW: the cells of each place, joined. The rules give none where a place is at fault or a kind is open at the end.
abbrev pub with_cells : Row → Option Row → Option Row
with_cells w none = none
with_cells w (some r) = some (w ++ r)

abbrev pub row_onward : Outcome → Sort → Option Row → Option Row
row_onward (fault c) s r = none
row_onward silent s r = r
row_onward (sign w) s r = with_cells (sign_cells w s) r

unfoldable pub row_from : List Item → List Item → Option Row
row_from b [] = cond (closed (open_after b)) (some []) none
row_from b (i ∷ a) = cond (fits_at (at b i a)) (row_onward (outcome_at (at b i a)) i.1 (row_from (i ∷ b) a)) none

unfoldable pub row_of : Table → Text → Option Row
unfolding row_from items_in
row_of tb t = row_from [] (items_in tb t)

-- What reading must meet: t is a text that the rules accept, and r is its row.
abbrev pub Reads : Table → Row → Text → Type 0
Reads tb r t = row_of tb t ≡ some r

abbrev pub Accepted : Table → Text → Type 0
Accepted tb t = (r : Row) × Reads tb r t

-- FAULTS: the place n of a text is at fault
abbrev pub FaultyPlace : Option Place → Cause → Type 0
FaultyPlace none c = ⊥
FaultyPlace (some p) c = Faulty p c

abbrev pub Fault : Table → Text → ℕ → Cause → Type 0
Fault tb t n c = FaultyPlace (place_from [] (items_in tb t) n) c

-- "the least place among 2 to 5"
pub record FirstFault (tb : Table) (t : Text) (n : ℕ) (c : Cause) : Type 0 where
  pub there : Fault tb t n c
  pub least : (m : ℕ) → m < n → (d : Cause) → Fault tb t m d → ⊥

abbrev pub Faultless : Table → Text → Type 0
Faultless tb t = (n : ℕ) (c : Cause) → Fault tb t n c → ⊥

-- "something is open at the end"
abbrev pub LeftOpen : Table → Text → Type 0
LeftOpen tb t = T (not (closed (open_after (reverse (items_in tb t)))))

-- THE VERDICT on a text: accepted; or why it is refused, and at which place: the text's length if something is open at the end
pub data Verdict : Type 0 where
  good : Verdict
  bad : Cause → ℕ → Verdict

abbrev pub judge : Bool → Outcome → ℕ → Verdict → Verdict
judge false x n v = bad breaks_pair n
judge true (fault c) n v = bad c n
judge true silent n v = v
judge true (sign w) n v = v

unfoldable pub verdict_from : List Item → ℕ → List Item → Verdict
verdict_from b n [] = cond (closed (open_after b)) good (bad breaks_pair n)
verdict_from b n (i ∷ a) = judge (fits_at (at b i a)) (outcome_at (at b i a)) n (verdict_from (i ∷ b) (suc n) a)

unfoldable pub verdict_of : Table → Text → Verdict
unfolding verdict_from items_in
verdict_of tb t = verdict_from [] 0 (items_in tb t)

-- THE SIGNS of a text: "A code point without a cell goes with the sign after it", so those that wait stand first in its print
abbrev pub sign_onward : Outcome → Text → Item → (Text → List Sign) → List Sign
sign_onward (fault c) waiting i rest = rest []
sign_onward silent waiting i rest = rest (waiting ++ i.0 ∷ [])
sign_onward (sign w) waiting i rest = record { shown = waiting ++ i.0 ∷ []; taken = sign_cells w i.1 } ∷ rest []

unfoldable pub signs_from : List Item → Text → List Item → List Sign
signs_from b waiting [] = []
signs_from b waiting (i ∷ a) = sign_onward (outcome_at (at b i a)) waiting i (λ w. signs_from (i ∷ b) w a)

unfoldable pub signs_of : Table → Text → List Sign
unfolding signs_from items_in
signs_of tb t = signs_from [] [] (items_in tb t)
