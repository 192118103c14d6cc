-- Lengths as they are reported, and the ends of `normalise`: what it answers for each, and what an answer tells. Assumes nothing.
use mathlib.Core.Path.{◌≡◌, refl, sym, ap, ◌∙◌, subst}
use mathlib.Core.Bool.{Bool, true, false, cond}
use mathlib.Core.List.{List}
use mathlib.Core.Logic.{◌⊎◌, inl, inr, ⊎_elim}
use Prim.Native.Nat.{ℕ, ◌≤◌, ◌<◌}
use native.Mathlib.Omega.{arith}
use native.Mathlib.Nat.{min-eq_left, min-eq_right}
use lib.Dec.{leb}
use lib.ListN.{length}
use Rattle.std.specs.Prelude.{Result, Ok, Err}
use borrow.Author.Tests.{le-leb, lt-leb}
use Rattle.rules.specs.Cells.{Text}
use Rattle.rules.specs.Normal.{normal_of}
use Rattle.rules.specs.Refusals.{longest_text, reported}
use Rattle.rules.proofs.Finite.{and_false, le_or_lt}
use Rattle.rows.specs.Laid.{laid}
use Rattle.normal.specs.Copies.{fits_in, no_room, normalised_of, copy_of}
use Rattle.normal.specs.declared.NoRoom.{NoRoom}

abbrev greatest : ℕ
greatest = 4294967295

pub reported_le : (n : ℕ) → reported n ≤ n
reported_le n =
    ⊎_elim (λ l. let e : reported n ≡ n = min-eq_left l in omega (arith, e))
    (λ l. let e : reported n ≡ greatest = min-eq_right (omega arith) in omega (arith, e, l)) (le_or_lt n greatest)

-- a length that is reported as a short one is that
pub reported_short : (n : ℕ) → reported n ≤ longest_text → reported n ≡ n
reported_short n h =
    ⊎_elim (λ l. min-eq_left l) (λ l. let e : reported n ≡ greatest = min-eq_right (omega arith) in absurd (omega (arith, e, h))) (le_or_lt n greatest)

module _ (p : Text) where
  -- the ends of `normalise`
  module _ (lent : List ℕ) (n : ℕ) (is_n : n ≡ reported (length (normal_of p))) where
    abbrev pub Answered : Result ℕ NoRoom → List ℕ → Type 0
    Answered r new = (r ≡ normalised_of p (length lent)) × (new ≡ copy_of p lent)

    pub refused : (longest_text < n) ⊎ (n ≤ longest_text) × (length lent < n) → Answered (Err (no_room n)) lent
    unfolding normalised_of copy_of
    refused (inl l) =
        let k : longest_text < length (normal_of p) = omega (arith, reported_le (length (normal_of p)), is_n) in
        rw (lt-leb (length (normal_of p)) longest_text k) (ap (λ (k : ℕ). Err (no_room k)) is_n, refl)
    refused (inr l) =
        let k : length lent < length (normal_of p) = omega (arith, reported_le (length (normal_of p)), is_n) in
        rw (lt-leb (length (normal_of p)) (length lent) k, and_false (leb (length (normal_of p)) longest_text)) (ap (λ (k : ℕ). Err (no_room k)) is_n, refl)

    module _ (short : n ≤ longest_text) where
      pub length_is : n ≡ length (normal_of p)
      length_is = is_n ∙ reported_short (length (normal_of p)) (omega (arith, is_n))

      pub copied : n ≤ length lent → (r : ℕ) (new : List ℕ) → r ≡ length (normal_of p) → new ≡ laid (normal_of p) lent → Answered (Ok r) new
      unfolding normalised_of copy_of
      copied l r new e f =
          let j : length (normal_of p) ≤ longest_text = omega (arith, length_is) in
          let k : length (normal_of p) ≤ length lent = omega (arith, length_is) in
          rw (le-leb (length (normal_of p)) longest_text j, le-leb (length (normal_of p)) (length lent) k) (ap Ok e, f)

  -- WHAT AN ANSWER TELLS, where there was room for any text that is not too long
  abbrev pub Tells : Result ℕ NoRoom → List ℕ → List ℕ → Type 0
  Tells (Ok n) lent new = (length (normal_of p) ≤ longest_text) × (n ≡ length (normal_of p)) × (new ≡ laid (normal_of p) lent)
  Tells (Err e) lent new = (longest_text < length (normal_of p)) × (e.length ≡ reported (length (normal_of p)))

  pub tells : (lent new : List ℕ) (r : Result ℕ NoRoom) → (length (normal_of p) ≤ longest_text → length (normal_of p) ≤ length lent)
      → r ≡ normalised_of p (length lent) → new ≡ copy_of p lent → Tells r lent new
  unfolding normalised_of copy_of
  tells lent new r room e f = ⊎_elim short long (le_or_lt (length (normal_of p)) longest_text)
    where
      short : length (normal_of p) ≤ longest_text → Tells r lent new
      short l =
          let k : length (normal_of p) ≤ length lent = room l in
          let q : fits_in p (length lent) ≡ true = rw (le-leb (length (normal_of p)) longest_text l, le-leb (length (normal_of p)) (length lent) k) in
          subst (λ (x : Result ℕ NoRoom). Tells x lent new)
          (sym (e ∙ ap (λ (b : Bool). cond b (Ok (length (normal_of p))) (Err (no_room (reported (length (normal_of p)))))) q))
          (l, refl, f ∙ ap (λ (b : Bool). cond b (laid (normal_of p) lent) lent) q)

      long : longest_text < length (normal_of p) → Tells r lent new
      long l =
          let q : fits_in p (length lent) ≡ false = rw (lt-leb (length (normal_of p)) longest_text l) in
          subst (λ (x : Result ℕ NoRoom). Tells x lent new)
          (sym (e ∙ ap (λ (b : Bool). cond b (Ok (length (normal_of p))) (Err (no_room (reported (length (normal_of p)))))) q)) (l, refl)
