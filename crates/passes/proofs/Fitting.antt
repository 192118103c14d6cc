-- The ends of `fitted` and of `transcribe_with`, over plain values: what the first pass finds is fitted or refused. For any table. Assumes nothing.
use mathlib.Core.Path.{◌≡◌, refl, ap, ◌∙◌}
use mathlib.Core.List.{List}
use Prim.Native.Nat.{ℕ, ◌≤◌, ◌<◌}
use native.Mathlib.Omega.{arith}
use lib.ListN.{length}
use borrow.Author.Tests.{le-leb, lt-leb}
use Rattle.rules.specs.Cells.{Text, Row}
use Rattle.rules.specs.Sorts.{Table}
use Rattle.rules.specs.Places.{lacks_sign, breaks_pair, outside_form, shares_cells}
use Rattle.rules.specs.Rows.{Verdict, good, bad, verdict_of}
use Rattle.rules.proofs.Rows.{whole_row}
use Rattle.rows.specs.Laid.{laid}
use Rattle.passes.specs.Passes.{shown, measured_of, fitted_by, written_by, answer_of, out_of, Answer}
use Rattle.std.specs.Prelude.{Ok, Err}
use Rattle.passes.specs.declared.Refusal.{Refusal}
use Rattle.passes.specs.declared.Refusal.TheVariants.{NeedsRoom}

-- what is measured as cells is accepted, and the count is the row's
shown_cells : (v : Verdict) (m n : ℕ) → shown v m ≡ Ok n → (v ≡ good) × (n ≡ m)
shown_cells good m n e = (refl, cc)
shown_cells (bad lacks_sign i) m n e = let z : ◌≡◌ {A = ℕ} 0 1 = cc in absurd (omega arith)
shown_cells (bad breaks_pair i) m n e = let z : ◌≡◌ {A = ℕ} 0 1 = cc in absurd (omega arith)
shown_cells (bad outside_form i) m n e = let z : ◌≡◌ {A = ℕ} 0 1 = cc in absurd (omega arith)
shown_cells (bad shares_cells i) m n e = let z : ◌≡◌ {A = ℕ} 0 1 = cc in absurd (omega arith)

-- The ends of `fitted`: n cells, which are this row
module _ (n : ℕ) (r : Row) (lent : List ℕ) where
  pub cramped : length lent < n → (Err (NeedsRoom n) ≡ fitted_by (Ok n) (length lent)) × (lent ≡ written_by (Ok n) r lent)
  cramped l = rw (lt-leb n (length lent) l) (refl, refl)

  pub fitting : n ≤ length lent → (k : ℕ) (new : List ℕ) → k ≡ n → new ≡ laid r lent
      → (Ok k ≡ fitted_by (Ok n) (length lent)) × (new ≡ written_by (Ok n) r lent)
  fitting l k new e w = rw (le-leb n (length lent) l) (ap Ok e, w)

module _ (tb : Table) (t : Text) where
  pub measured_cells : (n : ℕ) → measured_of tb t ≡ Ok n → (verdict_of tb t ≡ good) × (n ≡ length (whole_row tb t))
  unfolding measured_of
  measured_cells n e = shown_cells (verdict_of tb t) (length (whole_row tb t)) n e

  module _ (lent : List ℕ) where
    -- the ends of `transcribe_with`
    pub measured_fitted : (n : ℕ) (r : Row) (a : Answer) (new : List ℕ) → Ok n ≡ measured_of tb t → r ≡ whole_row tb t
        → (a ≡ fitted_by (Ok n) (length lent)) × (new ≡ written_by (Ok n) r lent) → (a ≡ answer_of tb t (length lent)) × (new ≡ out_of tb t lent)
    unfolding answer_of out_of
    measured_fitted n r a new e q h = (
      h.0 ∙ ap (λ (m : Answer). fitted_by m (length lent)) e,
      h.1 ∙ ap (λ (x : Row). written_by (Ok n) x lent) q ∙ ap (λ (m : Answer). written_by m (whole_row tb t) lent) e,
    )

    pub measured_refused : (a : Refusal) → Err a ≡ measured_of tb t → (Err a ≡ answer_of tb t (length lent)) × (lent ≡ out_of tb t lent)
    unfolding answer_of out_of
    measured_refused a e = (ap (λ (m : Answer). fitted_by m (length lent)) e, ap (λ (m : Answer). written_by m (whole_row tb t) lent) e)
