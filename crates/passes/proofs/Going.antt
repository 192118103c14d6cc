-- One place of a text, in the rules' words and in the code's numbers. For any table whose words have their fields and whose signs have the cells that
-- the ways say (`Held`): the deed of a place is its outcome (`deed_is`); its cells, its state after it, the row and the verdict go on so.
-- Assumes nothing.
use mathlib.Core.Path.{◌≡◌, refl, sym, ap, ◌∙◌, subst}
use mathlib.Core.Bool.{Bool, true, false, ◌&&◌, ◌||◌, not, cond, true≢false}
use mathlib.Core.List.{List, [], ◌∷◌, ◌++◌}
use Prim.Native.Nat.{ℕ, ◌+◌, ◌*◌, ◌/◌, ◌%◌, ◌≤◌, ◌<◌}
use native.Mathlib.Numerals.{add-one}
use lib.Dec.{T, eqb, eqb→eq}
use lib.ListN.{length, get_or, drop_of_length-le}
use lib.Seq.{drop-cons}
use Rattle.rules.specs.Cells.{Row, dots}
use Rattle.rules.specs.Sorts.{Sort, Table, Class, a_to_j, capital, unlisted, class, class_number, is_digit_cell, ◌is◌, is_digit}
use Rattle.rules.specs.Signs.{Way, bare, one_capital, all_capitals, separated, first_digit, first_lower, lower, denominator, ordinal_mark, inside, own_cells, lower_cells, sign_cells}
use Rattle.rules.specs.Pairs.{Opens, fits, turn, closed, mark_of, open_after}
use Rattle.rules.specs.Places.{breaks_pair, Outcome, fault, silent, sign}
use Rattle.rules.specs.Rows.{sort_in, item_in, items_in, Verdict, good, bad, judge, verdict_of}
use Rattle.rules.specs.Castilian.{castilian}
use Rattle.rules.proofs.Finite.{every, every3, at3, and_left, and_right, implies}
use Rattle.rules.proofs.States.{Past, free, Future}
use Rattle.rules.proofs.Enumerations.{pasts, classes, futures, ways}
use Rattle.rules.proofs.Sides.{rule, after, outcome_cells, row_on, verdict_on}
use Rattle.rules.proofs.Places.{past}
use Rattle.rules.proofs.Rows.{whole_row, verdict_is}
use Rattle.entries.specs.States as state
use Rattle.entries.specs.SignWords.{cells_in, sign_of}
use Rattle.entries.specs.Entries.{word, entry_of, class_in, then_in, usual_in, then_of, usual_states, bits, mark_number, usuals_of}
use Rattle.entries.proofs.Keys.{at_every}
use Rattle.entries.proofs.Facts.{Worded, worded}
use Rattle.deeds.specs.Acts as act
use Rattle.deeds.specs.Stages.{stage_at, deed_of, settled_by, way_of, silent_as, act_of}
use Rattle.deeds.proofs.Machine.{turn_is, usual_is, stage_small, way_number, faultless, done_is, done_low}
use Rattle.turns.specs.Ahead.{items_from, future_at}
use Rattle.turns.proofs.Ahead.{zero_unlisted, future_step}
use Rattle.passes.specs.Passes.{sign_by, cells_by}

-- THE CELLS. Which classes a way is for; the rules give it to no other.
allowed : Way → Class → Bool
allowed bare c = true
allowed one_capital c = c is capital
allowed all_capitals c = c is capital
allowed separated c = c is a_to_j
allowed first_digit c = is_digit c
allowed first_lower c = is_digit c
allowed lower c = is_digit c
allowed denominator c = true
allowed ordinal_mark c = true
allowed inside c = true

allowed_outcome : Outcome → Class → Bool
allowed_outcome (fault x) c = true
allowed_outcome silent c = true
allowed_outcome (sign w) c = allowed w c

outcomes_allowed : T (every3 pasts classes futures (λ p c f. allowed_outcome (rule p c f) c))
unfolding allowed_outcome allowed rule
outcomes_allowed = tt

same_row : Row → Row → Bool
same_row [] [] = true
same_row [] (y ∷ ys) = false
same_row (x ∷ xs) [] = false
same_row (x ∷ xs) (y ∷ ys) = eqb x y && same_row xs ys

row_same : (xs ys : Row) → T (same_row xs ys) → xs ≡ ys
unfolding same_row
row_same [] [] t = refl
row_same [] (y ∷ ys) t = absurd t
row_same (x ∷ xs) [] t = absurd t
row_same (x ∷ xs) (y ∷ ys) t =
    let p : x ≡ y = eqb→eq x y (and_left (eqb x y) (same_row xs ys) t) in
    let q : xs ≡ ys = row_same xs ys (and_right (eqb x y) (same_row xs ys) t) in
    cc

written_right : Sort → Way → Bool
written_right s w = not (allowed w (class s)) || same_row (cells_by (way_of w) (word s)) (sign_cells w s)

pub all_written_right : Sort → Bool
all_written_right s = every (written_right s) ways.members && same_row (cells_by (silent_as (class s)) (word s)) []

-- what a table must pass: its words have their fields, its signs their cells, and 0 has no sign
pub record Held (tb : Table) : Type 0 where
  pub words : Worded tb
  pub zero : class (sort_in tb 0) ≡ unlisted
  pub written : (c : ℕ) → T (all_written_right (sort_in tb c))

pub held : Held castilian
unfolding all_written_right written_right allowed same_row sign_by cells_in way_of silent_as word then_of usuals_of usual_states bits mark_number sign_of sign_cells own_cells lower_cells mark_of class is_digit_cell dots castilian
held = record { words = worded; zero = zero_unlisted; written = λ c. at_every all_written_right castilian tt tt c }

module _ (tb : Table) (h : Held tb) where
  cells_by_lem : (c : ℕ) (x : Outcome) → T (allowed_outcome x (class (sort_in tb c))) → faultless x ≡ true
      → cells_by (way_number (class (sort_in tb c)) x) (entry_of tb c) ≡ outcome_cells x (sort_in tb c)
  unfolding allowed_outcome way_number entry_of all_written_right written_right
  cells_by_lem c (fault x) t e = absurd (true≢false (sym e))
  cells_by_lem c silent t e =
      row_same (cells_by (silent_as (class (sort_in tb c))) (word (sort_in tb c))) []
      (and_right (every (written_right (sort_in tb c)) ways.members) (same_row (cells_by (silent_as (class (sort_in tb c))) (word (sort_in tb c))) []) (h.written c))
  cells_by_lem c (sign w) t e =
      row_same (cells_by (way_of w) (word (sort_in tb c))) (sign_cells w (sort_in tb c))
      (implies (allowed w (class (sort_in tb c))) (same_row (cells_by (way_of w) (word (sort_in tb c))) (sign_cells w (sort_in tb c))) t
      (ways.at (written_right (sort_in tb c))
      (and_left (every (written_right (sort_in tb c)) ways.members) (same_row (cells_by (silent_as (class (sort_in tb c))) (word (sort_in tb c))) []) (h.written c)) w))

  -- A PLACE: i of a text, after a past
  module _ (text : List ℕ) (i : ℕ) (past : Past) where
    abbrev pub sort_here : Sort
    sort_here = sort_in tb (get_or text i 0)

    abbrev pub next : Past
    next = after past (class sort_here)

    abbrev pub ahead : Future
    ahead = future_at tb text (i + 1)

    abbrev pub outcome_here : Outcome
    outcome_here = rule past (class sort_here) ahead

    abbrev pub act_here : ℕ
    act_here = act_of (class sort_here) outcome_here (stage_at next ahead)

    -- the deed that the table and the read-ahead give is that of the rules' outcome
    pub deed_is : (s d : ℕ) → s ≡ stage_at past (future_at tb text i) → d ≡ settled_by (deed_of s (class_in (entry_of tb (get_or text i 0)))) ahead
        → d ≡ act_here
    deed_is s d at e =
        e
        ∙ ap (λ (c : ℕ). settled_by (deed_of s c) ahead) (h.words.class_is (get_or text i 0))
        ∙ ap (λ (s : ℕ). settled_by (deed_of s (class_number (class sort_here))) ahead) (at ∙ ap (stage_at past) (future_step tb h.zero text i))
        ∙ turn_is past (class sort_here) ahead

    -- the same where the word says that it is written as usual
    pub usual_deed : (s : ℕ) → s < state.states → usual_in (entry_of tb (get_or text i 0)) s ≡ true
        → then_in (entry_of tb (get_or text i 0)) * act.ways + act.bare_way ≡ settled_by (deed_of s (class_in (entry_of tb (get_or text i 0)))) ahead
    usual_deed s l e =
        let c : ℕ = get_or text i 0 in
        ap (λ (n : ℕ). n * act.ways + act.bare_way) (h.words.then_is c)
        ∙ sym (usual_is s (class sort_here) ahead l (h.words.usual_class c s l e))
        ∙ sym (ap (λ (k : ℕ). settled_by (deed_of s k) ahead) (h.words.class_is c))

    -- a deed that is no fault: the state after it, and its cells
    module _ (d : ℕ) (is_d : d ≡ act_here) where
      facts : d < act.questions
          → (faultless outcome_here ≡ true) × (act_here / act.ways ≡ stage_at next ahead)
          × (act_here % act.ways ≡ way_number (class sort_here) outcome_here)
      facts l = done_is (class sort_here) outcome_here (stage_at next ahead) (stage_small next ahead) (subst (λ (n : ℕ). n < act.questions) is_d l)

      pub state_after : d < act.questions → d / act.ways ≡ stage_at next ahead
      state_after l = ap (λ (n : ℕ). n / act.ways) is_d ∙ (facts l).1

      pub cells_here : d < act.questions → cells_by (d % act.ways) (entry_of tb (get_or text i 0)) ≡ outcome_cells outcome_here sort_here
      cells_here l =
          ap (λ (n : ℕ). cells_by (n % act.ways) (entry_of tb (get_or text i 0))) is_d
          ∙ ap (λ (n : ℕ). cells_by n (entry_of tb (get_or text i 0))) (facts l).2
          ∙ cells_by_lem (get_or text i 0) outcome_here
          (at3 pasts classes futures (λ p c f. allowed_outcome (rule p c f) c) outcomes_allowed past (class sort_here) ahead) (facts l).0

      pub no_fault : d < act.questions → faultless outcome_here ≡ true
      no_fault l = (facts l).0

      pub low_deed : faultless outcome_here ≡ true → d < act.questions
      low_deed e = subst (λ (n : ℕ). n < act.questions) (sym is_d) (done_low (class sort_here) outcome_here (stage_at next ahead) (stage_small next ahead) e)

    -- the row and the verdict, from this place on
    module _ (inside : i < length text) where
      items_here : items_from tb text i ≡ (get_or text i 0, sort_here) ∷ items_from tb text (i + 1)
      unfolding items_in item_in
      items_here = rw (add-one, drop-cons text i 0 inside)

      pub row_here : row_on past (items_from tb text i) ≡ outcome_cells outcome_here sort_here ++ row_on next (items_from tb text (i + 1))
      unfolding row_on future_at
      row_here = rw items_here

      pub verdict_here : (o : Opens) → verdict_on past o i (items_from tb text i)
          ≡ judge (fits o sort_here) outcome_here i (verdict_on next (turn sort_here o) (i + 1) (items_from tb text (i + 1)))
      unfolding verdict_on future_at
      verdict_here o = rw items_here (rw add-one)

  -- past the last place
  pub row_end : (text : List ℕ) (i : ℕ) (p : Past) → length text ≤ i → row_on p (items_from tb text i) ≡ []
  unfolding row_on items_in
  row_end text i p l = rw (drop_of_length-le text l)

  pub verdict_end : (text : List ℕ) (i : ℕ) (p : Past) (o : Opens) → length text ≤ i
      → verdict_on p o i (items_from tb text i) ≡ cond (closed o) good (bad breaks_pair i)
  unfolding verdict_on items_in
  verdict_end text i p o l = rw (drop_of_length-le text l)

  -- at the first
  pub row_start : (text : List ℕ) → row_on free (items_from tb text 0) ≡ whole_row tb text
  unfolding whole_row
  row_start text = refl

  pub verdict_start : (text : List ℕ) → verdict_on free (λ k. false) 0 (items_from tb text 0) ≡ verdict_of tb text
  unfolding verdict_of past open_after
  verdict_start text = sym (verdict_is [] 0 (items_in tb text))

-- JUDGING. A place that is no fault leaves it to the rest; a fault is the verdict.
pub judge_on : (x : Outcome) (n : ℕ) (v : Verdict) → faultless x ≡ true → judge true x n v ≡ v
judge_on (fault c) n v e = absurd (true≢false (sym e))
judge_on silent n v e = refl
judge_on (sign w) n v e = refl
