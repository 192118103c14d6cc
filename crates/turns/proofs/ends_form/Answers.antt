-- `ends_form`: the full stop and U+2044 are the only code points of their classes (`neither`), and where one stands is a place of the text, so that
-- there is a next one (`stands_inside`). Assumes nothing.
use mathlib.Core.Path.{◌≡◌, refl, sym, ap, ◌∙◌}
use mathlib.Core.Bool.{true, false}
use mathlib.Core.List.{List, [], ◌∷◌}
use Prim.Native.Nat.{ℕ, ◌+◌, ◌<◌, zero-le}
use Rattle.rules.specs.Castilian.{castilian}
use Rattle.rules.specs.Cells.{dots}
use Rattle.rules.specs.Sorts.{class, is_digit_cell, is_digit, is_ordinal, ◌is◌, a_stop, a_bar}
use Rattle.rules.specs.Rows.{sort_in}
use borrow.Author.Tests.{ne_eqb}
use lib.ListN.{length, get_or}
use Rattle.turns.specs.Ahead.{class_at, ends_form}
use Rattle.turns.proofs.Ahead.{zero_unlisted, stands_inside}
use Rattle.turns.proofs.Points.{told_above, known}
use borrow.Author.Rules.{rules}
use Rattle.turns.proofs.ends_form.Goals as goal
use Rattle.turns.proofs.ends_form.Lts as lts
use Rattle.turns.proofs.ends_form.Tie as tie
use Rattle.turns.proofs.ends_form.Reads as reads

abbrev At-match-keys1 : Type 0
At-match-keys1 = lts.At-match-keys1 tie.the-claims reads.Pre reads.Post

abbrev At-match-keys2 : Type 0
At-match-keys2 = lts.At-match-keys2 tie.the-claims reads.Pre reads.Post

abbrev stop : ℕ
stop = 0x2e

abbrev bar : ℕ
bar = 0x2044

neither : (c : ℕ) → (c ≡ stop → ⊥) → (c ≡ bar → ⊥) → ((class (sort_in castilian c) is a_stop) ≡ false) × ((class (sort_in castilian c) is a_bar) ≡ false)
unfolding castilian sort_in class is_digit_cell dots
neither c no_stop no-bar = (
  known castilian (λ k. k is a_stop) (stop ∷ []) 0 0 tt tt tt refl c ∙ told_above (stop ∷ []) 0 0 c (rw (ne_eqb c stop no_stop)) zero-le,
  known castilian (λ k. k is a_bar) (bar ∷ []) 0 0 tt tt tt refl c ∙ told_above (bar ∷ []) 0 0 c (rw (ne_eqb c bar no-bar)) zero-le,
)

-- what stands at the place decides which of the two may go on there, and that the place is one of the text
module _ (text : List ℕ) (i : ℕ) where
  with-stop : get_or text i 0 ≡ stop → (i < length text) × (is_ordinal (class_at castilian text (i + 1)) ≡ ends_form castilian text i)
  unfolding castilian sort_in class ends_form
  with-stop e =
      let k : (class_at castilian text i is a_stop) ≡ true = ap (λ (n : ℕ). class (sort_in castilian n) is a_stop) e in
      (stands_inside castilian zero_unlisted (λ c. c is a_stop) refl text i k, sym (rw k))

  with-bar : get_or text i 0 ≡ bar → (i < length text) × (is_digit (class_at castilian text (i + 1)) ≡ ends_form castilian text i)
  unfolding castilian sort_in class ends_form
  with-bar e =
      let n : (class_at castilian text i is a_stop) ≡ false = ap (λ (n : ℕ). class (sort_in castilian n) is a_stop) e in
      let k : (class_at castilian text i is a_bar) ≡ true = ap (λ (n : ℕ). class (sort_in castilian n) is a_bar) e in
      (stands_inside castilian zero_unlisted (λ c. c is a_bar) refl text i k, sym (rw (n, k)))

  with-neither : (get_or text i 0 ≡ stop → ⊥) → (get_or text i 0 ≡ bar → ⊥) → false ≡ ends_form castilian text i
  unfolding ends_form
  with-neither a b = let n = neither (get_or text i 0) a b in sym (rw (n.0, n.1))

-- the two places where something may go on
at-stop : (c : At-match-keys1)
    → (c.before.before.before.args.place < length c.before.before.before.args.text.now)
    × (is_ordinal (class_at castilian c.before.before.before.args.text.now (c.before.before.before.args.place + 1))
    ≡ ends_form castilian c.before.before.before.args.text.now c.before.before.before.args.place)
at-stop c = with-stop _ _ (sym c.before.point_at.ensures ∙ c.in-46-1.keys1)

at-bar : (c : At-match-keys2)
    → (c.before.before.before.args.place < length c.before.before.before.args.text.now)
    × (is_digit (class_at castilian c.before.before.before.args.text.now (c.before.before.before.args.place + 1))
    ≡ ends_form castilian c.before.before.before.args.text.now c.before.before.before.args.place)
at-bar c = with-bar _ _ (sym c.before.point_at.ensures ∙ c.in-8260-1.keys2)

pub overflow_add-place : goal.overflow_add-place
overflow_add-place c = let h = (at-stop (lts.walk_of-At-match-keys1 tie.the-claims reads.Pre reads.Post c.before)).0 in search rules

pub overflow_add-place-in-8260 : goal.overflow_add-place-in-8260
overflow_add-place-in-8260 c = let h = (at-bar (lts.walk_of-At-match-keys2 tie.the-claims reads.Pre reads.Post c.before)).0 in search rules

pub returns-in-46 : goal.returns-in-46
returns-in-46 c =
    c.before.is_ordinal.ensures
    ∙ ap (λ (n : ℕ). is_ordinal (class (sort_in castilian n))) c.before.before.point_at-in-46.ensures
    ∙ (at-stop (lts.walk_of-At-match-keys1 tie.the-claims reads.Pre reads.Post c.before.before.before)).1

pub returns-in-8260 : goal.returns-in-8260
returns-in-8260 c =
    c.before.is_digit.ensures
    ∙ ap (λ (n : ℕ). is_digit (class (sort_in castilian n))) c.before.before.point_at-in-8260.ensures
    ∙ (at-bar (lts.walk_of-At-match-keys2 tie.the-claims reads.Pre reads.Post c.before.before.before)).1

pub returns-in_default : goal.returns-in_default
returns-in_default c =
    with-neither c.before.before.before.before.args.text.now c.before.before.before.before.args.place
    (λ e. c.before.in_default.in_default-own.rest.0.1 (c.before.before.point_at.ensures ∙ e)) (λ e. c.before.in_default.in_default-own.rest.1 (c.before.before.point_at.ensures ∙ e))
