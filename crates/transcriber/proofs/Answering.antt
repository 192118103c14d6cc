-- From what the passes answer to the promise. In order: what an answer tells; the answer to a normalised text is the rules' (`carried`); a print that is too long; an empty one.
-- For any table.
-- Assumes nothing.
use mathlib.Core.Path.{◌≡◌, refl, sym, ap, ◌∙◌, subst}
use mathlib.Core.Bool.{Bool, true, false, cond, true≢false}
use mathlib.Core.List.{List, [], ◌∷◌}
use mathlib.Core.Logic.{⊎_elim}
use Prim.Native.Nat.{ℕ, ◌≤◌, ◌<◌}
use native.Mathlib.Omega.{arith}
use lib.Dec.{leb}
use lib.ListN.{length}
use borrow.Author.Tests.{le-leb, lt-leb}
use Rattle.rules.specs.Cells.{Text, Row}
use Rattle.rules.specs.Sorts.{Table}
use Rattle.rules.specs.Places.{lacks_sign, breaks_pair, outside_form, shares_cells}
use Rattle.rules.specs.Pairs.{open_after, closed_below, closed}
use Rattle.rules.specs.Rows.{Verdict, good, bad, verdict_of, items_in, row_from, row_of}
use Rattle.rules.specs.Normal.{normal_of, normal_after}
use Rattle.rules.specs.Refusals.{too_long, at_fault, needs_room, longest_text, reported}
use Rattle.rules.specs.Answers.{gives, refuses, PrintAnswer, print_refused, transcribed, refused_too_long}
use Rattle.rules.proofs.Finite.{le_or_lt}
use Rattle.rules.proofs.Rows.{whole_row}
use Rattle.rules.proofs.Answers.{choose_le, choose_lt, by_verdict, answered, short_answer}
use Rattle.transcriber.specs.Promise.{Transcribed, done, refused}
use Rattle.passes.specs.Passes.{shown, measured_of, fitted_by, written_by, answer_of, out_of, Answer}
use Rattle.transcriber.specs.Answering.{accepted_by}
use Rattle.std.specs.Prelude.{Ok, Err}
use Rattle.passes.specs.declared.Refusal.TheVariants.{TooLong, NoSign, PairBroken, OutsideForm, SharesCells, NeedsRoom}

-- an answer that accepts is to an accepted text; one that does not leaves the row as it was
shown_good : (v : Verdict) (m room : ℕ) → accepted_by (fitted_by (shown v m) room) ≡ true → v ≡ good
shown_good good m room e = refl
shown_good (bad lacks_sign i) m room e = absurd (true≢false (sym e))
shown_good (bad breaks_pair i) m room e = absurd (true≢false (sym e))
shown_good (bad outside_form i) m room e = absurd (true≢false (sym e))
shown_good (bad shares_cells i) m room e = absurd (true≢false (sym e))

shown_kept : (v : Verdict) (m : ℕ) (r : Row) (lent : List ℕ) → accepted_by (fitted_by (shown v m) (length lent)) ≡ false → written_by (shown v m) r lent ≡ lent
shown_kept good m r lent e = absurd (go (leb m (length lent)) e)
  where
    go : (b : Bool) → accepted_by (cond b (Ok m) (Err (NeedsRoom m))) ≡ false → ⊥
    go true e = true≢false e
    go false e = true≢false e
shown_kept (bad lacks_sign i) m r lent e = refl
shown_kept (bad breaks_pair i) m r lent e = refl
shown_kept (bad outside_form i) m r lent e = refl
shown_kept (bad shares_cells i) m r lent e = refl

module _ (tb : Table) (t : Text) (lent : List ℕ) where
  -- what an answer tells: that the text is accepted; or that it is refused, and nothing was written
  pub accepted_good : accepted_by (answer_of tb t (length lent)) ≡ true → verdict_of tb t ≡ good
  unfolding answer_of measured_of
  accepted_good e = shown_good (verdict_of tb t) (length (whole_row tb t)) (length lent) e

  pub refused_kept : accepted_by (answer_of tb t (length lent)) ≡ false → out_of tb t lent ≡ lent
  unfolding answer_of out_of measured_of
  refused_kept e = shown_kept (verdict_of tb t) (length (whole_row tb t)) (whole_row tb t) lent e

-- THE PROMISE
module _ (tb : Table) (p : Text) (lent : List ℕ) where
  module _ (short : length (normal_of p) ≤ longest_text) where
    by : (v : Verdict) → verdict_of tb (normal_of p) ≡ v → PrintAnswer tb p (length lent) (by_verdict v (whole_row tb (normal_of p)) (length lent))
    by v e = subst (PrintAnswer tb p (length lent)) (short_answer tb p (length lent) v short e) (answered tb p (length lent))

    abbrev Kept : Answer → Type 0
    Kept x = Transcribed tb p lent (fitted_by x (length lent)) (written_by x (whole_row tb (normal_of p)) lent)

    kept : (v : Verdict) → verdict_of tb (normal_of p) ≡ v → Kept (shown v (length (whole_row tb (normal_of p))))
    kept good e =
        let n : ℕ = length (whole_row tb (normal_of p)) in
        let r : Row = whole_row tb (normal_of p) in
        ⊎_elim
        (λ l. rw (le-leb n (length lent) l)
        (done r (subst (PrintAnswer tb p (length lent)) (choose_le n (length lent) (gives r) (refuses (needs_room n)) l) (by good e))))
        (λ l. rw (lt-leb n (length lent) l)
        (refused (Err (NeedsRoom n)) (needs_room n) refl
        (subst (PrintAnswer tb p (length lent)) (choose_lt n (length lent) (gives r) (refuses (needs_room n)) l) (by good e)))) (le_or_lt n (length lent))
    kept (bad lacks_sign i) e = refused (Err (NoSign i)) (at_fault lacks_sign i) refl (by (bad lacks_sign i) e)
    kept (bad breaks_pair i) e = refused (Err (PairBroken i)) (at_fault breaks_pair i) refl (by (bad breaks_pair i) e)
    kept (bad outside_form i) e = refused (Err (OutsideForm i)) (at_fault outside_form i) refl (by (bad outside_form i) e)
    kept (bad shares_cells i) e = refused (Err (SharesCells i)) (at_fault shares_cells i) refl (by (bad shares_cells i) e)

    -- the answer to the normalised print
    promised : Transcribed tb p lent (answer_of tb (normal_of p) (length lent)) (out_of tb (normal_of p) lent)
    unfolding answer_of out_of measured_of
    promised = kept (verdict_of tb (normal_of p)) refl

    -- from the answer to a text that is the normalised print
    pub carried : (t : Text) → t ≡ normal_of p → (a : Answer) (new : List ℕ) → (a ≡ answer_of tb t (length lent)) × (new ≡ out_of tb t lent)
        → Transcribed tb p lent a new
    carried t e a new h =
        subst (λ (x : Answer). Transcribed tb p lent x new) (sym (h.0 ∙ ap (λ (u : Text). answer_of tb u (length lent)) e))
        (subst (Transcribed tb p lent (answer_of tb (normal_of p) (length lent))) (sym (h.1 ∙ ap (λ (u : Text). out_of tb u lent) e)) promised)

  pub promised_long : (n : ℕ) → longest_text < length (normal_of p) → n ≡ reported (length (normal_of p)) → Transcribed tb p lent (Err (TooLong n)) lent
  promised_long n l e =
      refused (Err (TooLong n)) (too_long n) refl
      (subst (λ (k : ℕ). PrintAnswer tb p (length lent) (refuses (too_long k))) (sym e) (print_refused (too_long (reported (length (normal_of p)))) (refused_too_long l)))

-- an empty print has the empty row
pub promised_empty : (tb : Table) (p : Text) (lent : List ℕ) → length p ≡ 0 → Transcribed tb p lent (Ok 0) lent
unfolding normal_of normal_after row_of row_from items_in open_after closed closed_below
promised_empty tb [] lent e = done [] (transcribed [] (omega arith) refl (omega arith))
promised_empty tb (c ∷ p) lent e = absurd (omega arith)
