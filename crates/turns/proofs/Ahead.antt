-- What stands from a place on, as reading ahead finds it: each law is one test over class and future, moved to a place of a text. A place past the
-- end has code point 0, which has no sign, so that no law asks for the text's length, and what is of any other class stands inside (`stands_inside`).
-- For any table in which 0 has none. Last: in the Castilian one, reading ahead finds the same whether “ is taken for « or not (`future_plainly`).
-- Assumes nothing.
use mathlib.Core.Path.{◌≡◌, refl, sym, ap, ◌∙◌}
use mathlib.Core.Logic.{inl, inr, ⊎_elim}
use mathlib.Core.Bool.{Bool, true, false, ◌&&◌, ◌||◌, not, cond, beq, true≢false}
use mathlib.Core.List.{List, [], ◌∷◌}
use Prim.Native.Nat.{ℕ, zero, suc, ◌+◌, ◌≤◌, ◌<◌}
use native.Mathlib.Numerals.{add-one}
use native.Mathlib.Omega.{arith}
use lib.Dec.{T}
use lib.ListN.{length, drop, get_or-eq_default}
use Rattle.rules.specs.Sorts.{Table, Class, unlisted, a_stop, a_bar, class, ◌is◌, is_digit, is_ordinal}
use Rattle.rules.specs.Rows.{sort_in, item_in, items_in}
use Rattle.rules.specs.Castilian.{castilian}
use Rattle.rules.proofs.Finite.{every2, at2, beq_same, implies, le_or_lt}
use Rattle.rules.proofs.States.{Future, rest}
use Rattle.rules.proofs.Enumerations.{classes, futures}
use Rattle.rules.proofs.Sides.{caps_next, mixed_next, form_next, digit_next, mark_next, look, future}
use Rattle.rules.proofs.Plain.{one_for, plainly, one_law, plainly_drop}
use Rattle.deeds.specs.Acts as act
use Rattle.deeds.specs.Stages.{Supposed}
use Rattle.deeds.proofs.Machine.{settled_capitals}
use Rattle.turns.specs.Ahead.{is_small, is_capital, class_at, future_at, ends_form}

-- a fact of the future by what stands at the place and the future behind it
seen : (g : Future → Bool) (h : Class → Future → Bool) → T (every2 classes futures (λ c f. beq (g (look c f)) (h c f))) → (c : Class) (f : Future)
    → g (look c f) ≡ h c f
seen g h t c f = beq_same (g (look c f)) (h c f) (at2 classes futures (λ c f. beq (g (look c f)) (h c f)) t c f)

-- the same where the place's class passes a test
seen_where : (k : Class → Bool) (g : Future → Bool) (h : Class → Future → Bool)
    → T (every2 classes futures (λ c f. not (k c) || beq (g (look c f)) (h c f))) → (c : Class) (f : Future) → k c ≡ true → g (look c f) ≡ h c f
seen_where k g h t c f e =
    beq_same (g (look c f)) (h c f)
    (implies (k c) (beq (g (look c f)) (h c f)) (rw e tt) (at2 classes futures (λ c f. not (k c) || beq (g (look c f)) (h c f)) t c f))

-- the Castilian one is such a table
pub zero_unlisted : class (sort_in castilian 0) ≡ unlisted
unfolding castilian sort_in class
zero_unlisted = refl

module _ (tb : Table) (none_at_zero : class (sort_in tb 0) ≡ unlisted) where
  step : (text : List ℕ) (i : ℕ) → future_at tb text i ≡ look (class_at tb text i) (future_at tb text (suc i))
  unfolding future_at future items_in item_in look
  step [] zero = sym (ap (λ (c : Class). look c rest) none_at_zero)
  step [] (suc i) = sym (ap (λ (c : Class). look c rest) none_at_zero)
  step (c ∷ t) zero = refl
  step (c ∷ t) (suc i) = step t i

  pub future_step : (text : List ℕ) (i : ℕ) → future_at tb text i ≡ look (class_at tb text i) (future_at tb text (i + 1))
  future_step text i = rw add-one (step text i)

  -- past the end stands nothing of a class that 0 is not of
  pub stands_inside : (g : Class → Bool) → g unlisted ≡ false → (text : List ℕ) (i : ℕ) → g (class_at tb text i) ≡ true → i < length text
  stands_inside g none text i e = ⊎_elim (λ l. absurd (true≢false (sym e ∙ past l))) (λ l. l) (le_or_lt (length text) i)
    where
      past : length text ≤ i → g (class_at tb text i) ≡ false
      past l = ap (λ (c : ℕ). g (class (sort_in tb c))) (get_or-eq_default text 0 l) ∙ ap g none_at_zero ∙ none

  class_past : (text : List ℕ) (i : ℕ) → length text ≤ i → class_at tb text i ≡ unlisted
  class_past text i l = ap (λ (c : ℕ). class (sort_in tb c)) (get_or-eq_default text 0 l) ∙ none_at_zero

  -- what stands directly there
  pub digit_at : (text : List ℕ) (i : ℕ) → digit_next (future_at tb text i) ≡ is_digit (class_at tb text i)
  unfolding look
  digit_at text i = ap digit_next (future_step text i) ∙ seen digit_next (λ c f. is_digit c) tt (class_at tb text i) (future_at tb text (i + 1))

  pub mark_at_lem : (text : List ℕ) (i : ℕ) → mark_next (future_at tb text i) ≡ is_ordinal (class_at tb text i)
  unfolding look
  mark_at_lem text i = ap mark_next (future_step text i) ∙ seen mark_next (λ c f. is_ordinal c) tt (class_at tb text i) (future_at tb text (i + 1))

  -- a run: a small letter is in it if one stands there, and none is if no letter does
  pub small_here : (text : List ℕ) (i : ℕ) → is_small (class_at tb text i) ≡ true → mixed_next (future_at tb text i) ≡ true
  unfolding look
  small_here text i e = ap mixed_next (future_step text i) ∙ seen_where is_small mixed_next (λ c f. true) tt (class_at tb text i) (future_at tb text (i + 1)) e

  pub no_letter_here : (text : List ℕ) (i : ℕ) → is_capital (class_at tb text i) ≡ false → is_small (class_at tb text i) ≡ false
      → mixed_next (future_at tb text i) ≡ false
  unfolding look
  no_letter_here text i e q =
      ap mixed_next (future_step text i)
      ∙ seen_where (λ c. not (is_capital c || is_small c)) mixed_next (λ c f. false) tt (class_at tb text i) (future_at tb text (i + 1)) (rw (e, q))

  pub end_here : (text : List ℕ) (i : ℕ) → length text ≤ i → mixed_next (future_at tb text i) ≡ false
  end_here text i l = no_letter_here text i (ap is_capital (class_past text i l)) (ap is_small (class_past text i l))

  capitals_at : (text : List ℕ) (i : ℕ) → caps_next (future_at tb text i) ≡ is_capital (class_at tb text i) && not (mixed_next (future_at tb text i))
  unfolding look
  capitals_at text i =
      rw (future_step text i)
      (seen caps_next (λ c f. is_capital c && not (mixed_next (look c f))) tt (class_at tb text i) (future_at tb text (i + 1)))

  -- no run of capitals goes on without one
  pub no_run : (text : List ℕ) (i : ℕ) → is_capital (class_at tb text i) ≡ false → caps_next (future_at tb text i) ≡ false
  no_run text i e = capitals_at text i ∙ rw e

  -- where one stands, a run of capitals only goes on, or one with a small letter: that it is the former is supposed
  pub supposed_run : (text : List ℕ) (i d : ℕ) → d ≡ act.begins_run → is_capital (class_at tb text i) ≡ true → Supposed d (future_at tb text i) act.first_of_capitals
  supposed_run text i d e q = go (mixed_next (future_at tb text i)) refl
    where
      go : (b : Bool) → mixed_next (future_at tb text i) ≡ b → Supposed d (future_at tb text i) act.first_of_capitals
      go true m = inr (refl, e, m)
      go false m = inl (settled_capitals d (future_at tb text i) e (capitals_at text i ∙ rw (q, m)))

  -- a form: a digit leaves it open; anything else decides it, with what stands behind
  pub form_on : (text : List ℕ) (i : ℕ) → is_digit (class_at tb text i) ≡ true → form_next (future_at tb text i) ≡ form_next (future_at tb text (i + 1))
  unfolding look
  form_on text i e =
      ap form_next (future_step text i)
      ∙ seen_where is_digit form_next (λ c f. form_next f) tt (class_at tb text i) (future_at tb text (i + 1)) e

  pub form_at : (text : List ℕ) (i : ℕ) → is_digit (class_at tb text i) ≡ false → form_next (future_at tb text i) ≡ ends_form tb text i
  unfolding look ends_form
  form_at text i e =
      ap form_next (future_step text i)
      ∙ seen_where (λ c. not (is_digit c)) form_next (λ c f. cond (c is a_stop) (mark_next f) (cond (c is a_bar) (digit_next f) false)) tt
      (class_at tb text i) (future_at tb text (i + 1)) (ap not e)
      ∙ rw (mark_at_lem text (i + 1), digit_at text (i + 1))

  -- past the end no form goes on
  ends_past : (text : List ℕ) (i : ℕ) → length text ≤ i → ends_form tb text i ≡ false
  unfolding ends_form
  ends_past text i l = rw (class_past text i l)

  pub form_past : (text : List ℕ) (i : ℕ) → length text ≤ i → form_next (future_at tb text i) ≡ ends_form tb text (length text)
  form_past text i l = form_at text i (ap is_digit (class_past text i l)) ∙ ends_past text i l ∙ sym (ends_past text (length text) (omega arith))

-- PRINT TAKEN PLAINLY. To what stands before it, a code point without a sign is as a pair mark is: nothing that a rule asks for.
look_one : (c : ℕ) (f : Future) → look (class (sort_in castilian (one_for c))) f ≡ look (class (sort_in castilian c)) f
unfolding one_for castilian sort_in class look
look_one c f =
    one_law (λ x y. look (class (sort_in castilian x)) f ≡ look (class (sort_in castilian y)) f) (λ k. refl)
    (refl, (refl, (refl, (refl, (refl, tt))))) c

future_whole : (p : List ℕ) → future (items_in castilian (plainly p)) ≡ future (items_in castilian p)
unfolding future items_in item_in plainly
future_whole [] = refl
future_whole (c ∷ p) =
    look_one c (future (items_in castilian (plainly p))) ∙ ap (λ (f : Future). look (class (sort_in castilian c)) f) (future_whole p)

pub future_plainly : (p : List ℕ) (i : ℕ) → future_at castilian (plainly p) i ≡ future_at castilian p i
unfolding future_at
future_plainly p i = ap (λ (t : List ℕ). future (items_in castilian t)) (plainly_drop i p) ∙ future_whole (drop i p)
