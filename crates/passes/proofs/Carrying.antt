-- The part of the first pass that asks nothing (`draw_usual`): from where it begins it comes on, whatever pairs are open, over what is written as usual and over
-- capitals in a run that has a small letter; and what it leaves of a run of capitals. For any table that is `Held`. Assumes nothing.
use mathlib.Core.Path.{◌≡◌, refl, sym, ap, ◌∙◌, subst}
use mathlib.Core.Bool.{Bool, true, false, ◌&&◌, cond, true≢false}
use mathlib.Core.List.{List}
use mathlib.Core.Option.{none}
use Prim.Native.Nat.{ℕ, ◌+◌, ◌*◌, ◌/◌, ◌%◌, ◌^◌, ◌≤◌, ◌<◌}
use native.Mathlib.Omega.{arith}
use lib.Dec.{eqb}
use lib.ListN.{length, take, get_or, set, length-set}
use lib.Seq.{take-set-le}
use Rattle.std.specs.declared.option.Option as rust
use Rattle.std.specs.Prelude.{Some, None}
use borrow.Author.Tests.{eqb-true, eqb-false, ne_eqb}
use Rattle.rules.specs.Sorts.{Sort, letter, digit, full_stop, comma, hyphen, dash, fraction_bar, ordinal, pair_mark, percent, plain, no_sign, Table, Class, class, class_number, capital}
use Rattle.rules.specs.Pairs.{mark_of}
use Rattle.rules.specs.Rows.{sort_in}
use Rattle.rules.proofs.Sides.{mixed_next}
use Rattle.entries.specs.States.{capitals, mixed, states}
use Rattle.entries.specs.SignWords.{count_of}
use Rattle.entries.specs.Entries.{entry_of, class_in, sign_in, then_in, mark_in, usual_in, then_of, usual_states, bits, mark_number}
use Rattle.entries.specs.Numbers.{state_number}
use Rattle.entries.specs.declared.Entry.{Entry}
use Rattle.entries.specs.declared.State.{State}
use Rattle.deeds.specs.Acts as act
use Rattle.deeds.specs.Stages.{deed_of, settled_by}
use Rattle.deeds.proofs.Machine.{mixed_capital, then_small, usual_from_capitals, usual_in_capitals}
use Rattle.turns.specs.Ahead.{future_at}
use Rattle.turns.proofs.Ahead.{future_step}
use Rattle.passes.specs.Middle.{Mid, Carried}
use Rattle.passes.specs.Passes.{sign_by, capital_among_small}
use Rattle.passes.proofs.Going.{Held, ahead}
use Rattle.passes.proofs.Drawing.{passed_none, passed_usual, went_deed, went_usual, mid_on}

-- a capital is no pair mark
capital_unmarked : (s : Sort) → class_number (class s) ≡ class_number capital → mark_of s ≡ none
unfolding class mark_of
capital_unmarked (letter c b) e = refl
capital_unmarked (digit d) e = refl
capital_unmarked (full_stop b) e = refl
capital_unmarked comma e = refl
capital_unmarked hyphen e = refl
capital_unmarked dash e = refl
capital_unmarked fraction_bar e = refl
capital_unmarked (ordinal b) e = refl
capital_unmarked (pair_mark k b w) e = absurd (omega (arith, e))
capital_unmarked (percent w) e = refl
capital_unmarked (plain w) e = refl
capital_unmarked no_sign e = refl

-- its sign has two cells
pub two_cells : (e : ℕ) → 2 ≡ count_of (sign_by act.one_capital_way e)
unfolding sign_by
two_cells e = omega arith

-- tests that are true together
pub and_true : (a b : Bool) → a && b ≡ true → (a ≡ true) × (b ≡ true)
and_true true b e = (refl, e)
and_true false b e = absurd (true≢false (sym e))

some_same : (w x : Entry) → ◌≡◌ {A = rust.Option Entry} (Some w) (Some x) → w ≡ x
some_same w x q = cc

-- what `signs`, `state`, `n` and `i` are between two turns, from the signs, the state, the count and the place at the beginning
pub record Under (tb : Table) (text signs₁ signs : List ℕ) (begun counted from state n i : ℕ) : Type 0 where
  pub on : from ≤ i
  pub inside : i ≤ length text
  pub same : length signs ≡ length signs₁
  pub low : n ≤ 3 * i
  pub small : state < states
  pub kept : take from signs ≡ take from signs₁
  pub still : state ≡ capitals → begun ≡ capitals
  pub run : begun ≡ capitals → mixed_next (future_at tb text from) ≡ cond (eqb state capitals) (mixed_next (future_at tb text i)) false
  pub carries : (signs₀ : List ℕ) (opened : ℕ) → Mid tb text signs₀ signs₁ opened begun counted from → Mid tb text signs₀ signs opened state n i

module _ (tb : Table) (h : Held tb) (text signs₁ : List ℕ) (begun counted from : ℕ) where
  pub under_start : from ≤ length text → counted ≤ 3 * from → begun < states → Under tb text signs₁ signs₁ begun counted from begun counted from
  under_start l k few =
      record {
        on = omega arith;
        inside = l;
        same = refl;
        low = k;
        small = few;
        kept = refl;
        still = λ e. e;
        run = λ e. sym (ap (λ (s : ℕ). cond (eqb s capitals) (mixed_next (future_at tb text from)) false) e);
        carries = λ signs₀ opened m. m;
      }

  -- the place reached, with the state there
  module _ (signs : List ℕ) (s : State) (n i : ℕ) (u : Under tb text signs₁ signs begun counted from (state_number s) n i) where
    at_place : (x : rust.Option Entry) → ((w : Entry) → x ≡ Some w → (i < length text) × (w.word ≡ entry_of tb (get_or text i 0))) → (x ≡ None → length text ≤ i)
        → (i < length text → usual_in (entry_of tb (get_or text i 0)) (state_number s) ≡ false)
        → Carried tb text signs₁ signs begun counted from (record { place = i; entry = x; state = s; cells = n })
    at_place x word no_word unusual =
        record {
          on = u.on;
          word = word;
          no_word = no_word;
          asks = unusual;
          same = u.same;
          kept = u.kept;
          still = u.still;
          run = u.run;
          carries = u.carries;
        }

    pub reached : i < length text → (w : Entry) → w.word ≡ entry_of tb (get_or text i 0) → usual_in (entry_of tb (get_or text i 0)) (state_number s) ≡ false
        → Carried tb text signs₁ signs begun counted from (record { place = i; entry = Some w; state = s; cells = n })
    reached l w is_w unusual = at_place (Some w) (λ x q. (l, ap (λ (v : Entry). v.word) (sym (some_same w x q)) ∙ is_w)) (λ q. cc) (λ k. unusual)

    pub reached_end : (place : ℕ) → place ≡ length text → i ≡ place
        → Carried tb text signs₁ signs begun counted from (record { place = place; entry = None; state = s; cells = n })
    reached_end place is_end at_end =
        subst (λ (k : ℕ). Carried tb text signs₁ signs begun counted from (record { place = k; entry = None; state = s; cells = n })) at_end
        (at_place None (λ x q. cc) (λ q. omega arith) (λ k. absurd (omega arith)))

  module _ (signs : List ℕ) (state n i : ℕ) (u : Under tb text signs₁ signs begun counted from state n i) where
    abbrev e : ℕ
    e = entry_of tb (get_or text i 0)

    module _ (l : i < length text) (w k : ℕ) (new : List ℕ) (count : ℕ) (is_new : new ≡ set signs i w) (is_count : count ≡ n + k) where
      -- s is the state after it: of a run of capitals only where this one is, and as long as it is, the run leaves open what is ahead
      under_on : (s : ℕ) → k ≤ 3 → s < states → (s ≡ capitals → state ≡ capitals)
          → (state ≡ capitals → mixed_next (future_at tb text i) ≡ cond (eqb s capitals) (mixed_next (future_at tb text (i + 1))) false)
          → ((signs₀ : List ℕ) (opened : ℕ) → Mid tb text signs₀ signs opened state n i → Mid tb text signs₀ new opened s count (i + 1))
          → Under tb text signs₁ new begun counted from s count (i + 1)
      under_on s few small back goes f =
          record {
            on = omega (arith, u.on);
            inside = omega arith;
            same = ap length is_new ∙ length-set signs i w ∙ u.same;
            low = omega (arith, u.low, is_count);
            small = small;
            kept = ap (take from) is_new ∙ take-set-le from signs i w u.on ∙ u.kept;
            still = λ e. u.still (back e);
            run = λ b. go (eqb state capitals) refl (u.run b);
            carries = λ signs₀ opened m. f signs₀ opened (u.carries signs₀ opened m);
          }
        where
          go : (b : Bool) → eqb state capitals ≡ b
              → mixed_next (future_at tb text from) ≡ cond (eqb state capitals) (mixed_next (future_at tb text i)) false
              → mixed_next (future_at tb text from) ≡ cond (eqb s capitals) (mixed_next (future_at tb text (i + 1))) false
          go true q e =
              e ∙ ap (λ (x : Bool). cond x (mixed_next (future_at tb text i)) false) q ∙ goes (eqb-true state capitals q)
          go false q e =
              e ∙ ap (λ (x : Bool). cond x (mixed_next (future_at tb text i)) false) q
              ∙ sym (ap (λ (x : Bool). cond x (mixed_next (future_at tb text (i + 1))) false) (ne_eqb s capitals (λ k. eqb-false state capitals q (back k))))

      pub under_usual : usual_in e state ≡ true → (s : ℕ) → w ≡ sign_in e → s ≡ then_in e → k ≡ count_of w → k ≤ 3
          → Under tb text signs₁ new begun counted from s count (i + 1)
      under_usual usual s is_w is_s is_k few =
          under_on s few (subst (λ (j : ℕ). j < states) (sym is_then) (then_small here)) (λ j. usual_from_capitals state here (future_at tb text (i + 1)) u.small told (sym is_then ∙ j))
          (λ j. ap mixed_next (future_step tb h.zero text i) ∙ usual_in_capitals state here (future_at tb text (i + 1)) u.small told j
          ∙ ap (λ (t : ℕ). cond (eqb t capitals) (mixed_next (future_at tb text (i + 1))) false) (sym is_then))
          (λ signs₀ opened m. mid_on tb h text signs₀ signs opened state n i m l opened
          (passed_usual tb h text m.past i state m.at usual opened m.few opened refl) w s k
          (went_usual tb h text m.past i state m.at usual w s is_w is_s) is_k new count is_new is_count)
        where
          here : Class
          here = class (sort_in tb (get_or text i 0))

          told : bits (usual_states here) / 2 ^ (state % 64) % 2 ≡ 1
          told = h.words.usual_class (get_or text i 0) state u.small usual

          is_then : s ≡ then_of here
          is_then = is_s ∙ h.words.then_is (get_or text i 0)

      pub under_capital : state ≡ mixed → class_in e ≡ class_number capital → w ≡ sign_by act.one_capital_way e → k ≡ 2
          → Under tb text signs₁ new begun counted from state count (i + 1)
      unfolding mark_number
      under_capital is_mixed capital_is is_w is_k =
          under_on state (omega (arith, is_k)) u.small (λ j. j) (λ j. absurd (omega (arith, j, is_mixed)))
          (λ signs₀ opened m. mid_on tb h text signs₀ signs opened state n i m l opened
          (passed_none tb h text opened i m.few unmarked opened refl) w state k
          (went_deed tb h text m.past i state m.at act.capital_alone (deed_told m.past) (omega arith) w state is_w is_mixed)
          (is_k ∙ two_cells e ∙ ap count_of (sym is_w)) new count is_new is_count)
        where
          unmarked : mark_in e ≡ 0
          unmarked =
              h.words.mark_is (get_or text i 0)
              ∙ ap mark_number (capital_unmarked (sort_in tb (get_or text i 0)) (sym (h.words.class_is (get_or text i 0)) ∙ capital_is))

          deed_told : (past : _) → act.capital_alone ≡ settled_by (deed_of state (class_in e)) (ahead tb h text i past)
          deed_told past =
              sym (ap (λ (s : ℕ). settled_by (deed_of s (class_in e)) (ahead tb h text i past)) is_mixed
              ∙ ap (λ (c : ℕ). settled_by (deed_of mixed c) (ahead tb h text i past)) capital_is
              ∙ mixed_capital (ahead tb h text i past))

      pub under_apart : capital_among_small state e ≡ true → w ≡ sign_by act.one_capital_way e → k ≡ 2
          → Under tb text signs₁ new begun counted from state count (i + 1)
      under_apart q =
          let b = and_true (eqb state mixed) (eqb (class_in e) (class_number capital)) q in
          under_capital (eqb-true state mixed b.0) (eqb-true (class_in e) (class_number capital) b.1)
