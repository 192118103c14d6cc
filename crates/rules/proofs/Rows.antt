-- Rows and verdicts, place by place: the laws of specs/Rows.antt, for any table. The row is that of the finite rules where the verdict is good
-- (`row_when_good`). The verdict from a place on is the first fault from there, or the text's end (`verdict_says`): at each place either
-- a fault is found, or the rest decides. Assumes nothing.
use mathlib.Core.Path.{◌≡◌, refl, sym, ◌∙◌, ap, subst}
use mathlib.Core.Logic.{◌⊎◌, inl, inr, ⊎_elim}
use mathlib.Core.Bool.{Bool, true, false, not, cond}
use mathlib.Core.List.{List, [], ◌∷◌, ◌++◌, reverse_aux}
use mathlib.Core.Option.{Option, none, some}
use Prim.Native.Nat.{ℕ, zero, suc, ◌+◌, ◌<◌}
use native.Mathlib.Nat.{le_of_suc-le-suc, not-suc-le-zero}
use native.Mathlib.Omega.{arith}
use lib.Dec.{T, T_not}
use lib.ListN.{length, length-map}
use Rattle.rules.specs.Cells.{Text, Row}
use Rattle.rules.specs.Sorts.{Sort, Item, Table}
use Rattle.rules.specs.Pairs.{open_after, closed}
use Rattle.rules.specs.Places.{Place, place_from, Cause, breaks_pair, Outcome, fault, silent, sign}
use Rattle.rules.specs.Rows.{item_in, items_in, at, outcome_at, fits_at, row_onward, row_from, row_of, Reads, Accepted, FaultyPlace, FirstFault, Faultless, LeftOpen, Verdict, good, bad, judge, verdict_from, verdict_of}
use Rattle.rules.specs.Demands.{OneFaultEach, VerdictMeans, VerdictIsLeast, RowExactly}
use Rattle.rules.proofs.Finite.{nothing}
use Rattle.rules.proofs.States.{free}
use Rattle.rules.proofs.Sides.{outcome_cells, row_on, verdict_on}
use Rattle.rules.proofs.Places.{past, past_of, outcome_at_lem, found, faulty_found, found_faulty}

-- no verdict is bad and good
pub bad_not_good : {B : Type 0} {c : Cause} {n : ℕ} → bad c n ≡ good → B
bad_not_good e = let z : ◌≡◌ {A = ℕ} 0 1 = cc in absurd (omega arith)

-- THE ROW: the finite rules' where the verdict is good, and none elsewhere
pub verdict_is : (b : List Item) (n : ℕ) (a : List Item) → verdict_from b n a ≡ verdict_on (past_of b) (open_after b) n a
unfolding verdict_from verdict_on past open_after
verdict_is b n [] = refl
verdict_is b n (i ∷ a) = cc (outcome_at_lem b i a, verdict_is (i ∷ b) (suc n) a)

abbrev pub row_when : Verdict → Row → Option Row
row_when good r = some r
row_when (bad c n) r = none

row_one : (x : Bool) (y : Outcome) (s : Sort) (n : ℕ) (v : Verdict) (r : Row)
    → cond x (row_onward y s (row_when v r)) none ≡ row_when (judge x y n v) (outcome_cells y s ++ r)
row_one false y s n v r = refl
row_one true (fault c) s n v r = refl
row_one true silent s n v r = refl
row_one true (sign w) s n good r = refl
row_one true (sign w) s n (bad c m) r = refl

row_is : (b : List Item) (n : ℕ) (a : List Item) → row_from b a ≡ row_when (verdict_from b n a) (row_on (past_of b) a)
unfolding row_from verdict_from row_on past
row_is b n [] = go (closed (open_after b))
  where
    go : (x : Bool) → cond x (some []) none ≡ row_when (cond x good (bad breaks_pair n)) []
    go true = refl
    go false = refl
row_is b n (i ∷ a) =
    ap (λ (o : Option Row). cond (fits_at (at b i a)) (row_onward (outcome_at (at b i a)) i.1 o) none) (row_is (i ∷ b) (suc n) a)
    ∙ row_one (fits_at (at b i a)) (outcome_at (at b i a)) i.1 n (verdict_from (i ∷ b) (suc n) a) (row_on (past_of (i ∷ b)) a)
    ∙ ap (λ (y : Outcome). row_when (verdict_from b n (i ∷ a)) (outcome_cells y i.1 ++ row_on (past_of (i ∷ b)) a)) (outcome_at_lem b i a)

module _ (tb : Table) where
  -- a text's row, whether or not it is accepted
  unfoldable pub whole_row : Text → Row
  whole_row t = row_on free (items_in tb t)

  pub row_when_good : (t : Text) → row_of tb t ≡ row_when (verdict_of tb t) (whole_row t)
  unfolding row_of verdict_of whole_row past
  row_when_good t = row_is [] 0 (items_in tb t)

  pub reads_good : (r : Row) (t : Text) → Reads tb r t → (verdict_of tb t ≡ good) × (whole_row t ≡ r)
  reads_good r t e = go (verdict_of tb t) refl
    where
      go : (v : Verdict) → verdict_of tb t ≡ v → (verdict_of tb t ≡ good) × (whole_row t ≡ r)
      go good q =
          let z : some (whole_row t) ≡ some r = ap (λ (v : Verdict). row_when v (whole_row t)) (sym q) ∙ sym (row_when_good t) ∙ e in
          (q, cc)
      go (bad c n) q = nothing (ap (λ (v : Verdict). row_when v (whole_row t)) (sym q) ∙ sym (row_when_good t) ∙ e)

  pub good_reads : (t : Text) → verdict_of tb t ≡ good → Reads tb (whole_row t) t
  good_reads t e = row_when_good t ∙ ap (λ (v : Verdict). row_when v (whole_row t)) e

-- THE VERDICT: what it says from a place on, places counted from there
abbrev SoundFrom : List Item → List Item → Type 0
SoundFrom b a = (k : ℕ) (c : Cause) → FaultyPlace (place_from b a k) c → ⊥

abbrev Says : List Item → ℕ → List Item → Verdict → Type 0
Says b n a good = SoundFrom b a × T (closed (open_after (reverse_aux a b)))
Says b n a (bad c m) =
    (k : ℕ) × (m ≡ n + k)
    × ((FaultyPlace (place_from b a k) c × ((j : ℕ) → j < k → (d : Cause) → FaultyPlace (place_from b a j) d → ⊥))
    ⊎ ((c ≡ breaks_pair) × (k ≡ length a) × SoundFrom b a × T (not (closed (open_after (reverse_aux a b))))))

-- a place where nothing is found leaves it to the rest
sound_cons : (b : List Item) (i : Item) (a : List Item) → found (fits_at (at b i a)) (outcome_at (at b i a)) ≡ none → SoundFrom (i ∷ b) a
    → SoundFrom b (i ∷ a)
unfolding place_from
sound_cons b i a e h zero c f = nothing (sym e ∙ faulty_found (at b i a) c f)
sound_cons b i a e h (suc k) c f = h k c f

says_onward : (b : List Item) (n : ℕ) (i : Item) (a : List Item) → found (fits_at (at b i a)) (outcome_at (at b i a)) ≡ none → (v : Verdict)
    → Says (i ∷ b) (suc n) a v → Says b n (i ∷ a) v
unfolding place_from
says_onward b n i a e good h = (sound_cons b i a e h.0, h.1)
says_onward b n i a e (bad c m) h = (
  suc h.0,
  omega (arith, h.1),
  ⊎_elim (λ f. inl (f.0, least f.1)) (λ f. inr (f.0, ap suc f.1, sound_cons b i a e f.2, f.3)) h.2,
)
  where
    least : ((j : ℕ) → j < h.0 → (d : Cause) → FaultyPlace (place_from (i ∷ b) a j) d → ⊥)
        → (j : ℕ) → j < suc h.0 → (d : Cause) → FaultyPlace (place_from b (i ∷ a) j) d → ⊥
    least g zero l d f = nothing (sym e ∙ faulty_found (at b i a) d f)
    least g (suc j) l d f = g j (le_of_suc-le-suc l) d f

says_first : (b : List Item) (n : ℕ) (i : Item) (a : List Item) (c : Cause) → found (fits_at (at b i a)) (outcome_at (at b i a)) ≡ some c
    → Says b n (i ∷ a) (bad c n)
unfolding place_from
says_first b n i a c e = (0, omega arith, inl (found_faulty (at b i a) c e, λ j l d f. not-suc-le-zero l))

verdict_says : (b : List Item) (n : ℕ) (a : List Item) → Says b n a (verdict_from b n a)
unfolding verdict_from place_from
verdict_says b n [] = go (closed (open_after b)) refl
  where
    go : (x : Bool) → closed (open_after b) ≡ x → Says b n [] (cond x good (bad breaks_pair n))
    go true e = (λ k c f. f, subst T (sym e) tt)
    go false e = (0, omega arith, inr (refl, refl, λ k c f. f, subst (λ (y : Bool). T (not y)) (sym e) tt))
verdict_says b n (i ∷ a) =
    go (fits_at (at b i a)) (outcome_at (at b i a)) refl refl (says_onward b n i a) (says_first b n i a) (verdict_says (i ∷ b) (suc n) a)
  where
    go : (x : Bool) (y : Outcome) → fits_at (at b i a) ≡ x → outcome_at (at b i a) ≡ y
        → (found (fits_at (at b i a)) (outcome_at (at b i a)) ≡ none → (u : Verdict) → Says (i ∷ b) (suc n) a u → Says b n (i ∷ a) u)
        → ((c : Cause) → found (fits_at (at b i a)) (outcome_at (at b i a)) ≡ some c → Says b n (i ∷ a) (bad c n))
        → Says (i ∷ b) (suc n) a (verdict_from (i ∷ b) (suc n) a) → Says b n (i ∷ a) (judge x y n (verdict_from (i ∷ b) (suc n) a))
    go false y ex ey onward first ih = first breaks_pair (ap (λ (x : Bool). found x (outcome_at (at b i a))) ex)
    go true (fault c) ex ey onward first ih = first c (cc (ex, ey))
    go true silent ex ey onward first ih = onward (cc (ex, ey)) (verdict_from (i ∷ b) (suc n) a) ih
    go true (sign w) ex ey onward first ih = onward (cc (ex, ey)) (verdict_from (i ∷ b) (suc n) a) ih

module _ (tb : Table) where
  length_items : (t : Text) → length (items_in tb t) ≡ length t
  unfolding items_in
  length_items t = length-map t (item_in tb)

  pub verdict_is_least : VerdictIsLeast tb
  unfolding verdict_of
  verdict_is_least t = go (verdict_of tb t) refl (verdict_says [] 0 (items_in tb t))
    where
      go : (v : Verdict) → verdict_of tb t ≡ v → Says [] 0 (items_in tb t) v → VerdictMeans tb t v
      go good e h = (whole_row tb t, good_reads tb t e)
      go (bad c n) e h =
          let z : h.0 ≡ n = omega (arith, h.1) in
          ⊎_elim
          (λ f. inl (subst (λ (m : ℕ). FirstFault tb t m c) z (record { there = f.0; least = f.1 })))
          (λ f. inr (f.0, sym z ∙ f.1 ∙ length_items t, f.2, f.3))
          h.2

  pub row_exactly : RowExactly tb
  unfolding verdict_of
  row_exactly t = (sound, accepts (verdict_of tb t) refl (verdict_says [] 0 (items_in tb t)))
    where
      sound : Accepted tb t → Faultless tb t × (LeftOpen tb t → ⊥)
      sound x =
          let h : Says [] 0 (items_in tb t) good = subst (Says [] 0 (items_in tb t)) (reads_good tb x.0 t x.1).0 (verdict_says [] 0 (items_in tb t)) in
          (h.0, λ o. T_not (closed (open_after (reverse_aux (items_in tb t) []))) o h.1)

      accepts : (v : Verdict) → verdict_of tb t ≡ v → Says [] 0 (items_in tb t) v → Faultless tb t × (LeftOpen tb t → ⊥) → Accepted tb t
      accepts good e h x = (whole_row tb t, good_reads tb t e)
      accepts (bad c n) e h x = absurd (⊎_elim (λ f. x.0 h.0 c f.0) (λ f. x.1 f.3) h.2)

  pub one_fault_each : OneFaultEach tb
  one_fault_each t n c d = go (place_from [] (items_in tb t) n)
    where
      go : (p : Option Place) → FaultyPlace p c → FaultyPlace p d → c ≡ d
      go none f g = absurd f
      go (some p) f g = let z : some c ≡ some d = sym (faulty_found p c f) ∙ faulty_found p d g in cc
