-- What is written to a lent text, if there is room (`Wrote`): nothing; one print behind another; stores; the ends of `put`. Assumes nothing.
use mathlib.Core.Path.{◌≡◌, refl, sym, ap, ◌∙◌}
use mathlib.Core.List.{List, [], ◌∷◌, ◌++◌, append_assoc}
use mathlib.Core.Logic.{◌⊎◌, ⊎_elim}
use Prim.Native.Nat.{ℕ, suc, ◌+◌, ◌≤◌, ◌<◌}
use native.Mathlib.Omega.{arith}
use lib.ListN.{length, set, take, drop, length-append}
use lib.Seq.{sets, length-sets, sets-eq, drop-drop}
use Rattle.rules.specs.Cells.{Text}
use Rattle.rows.specs.Laid.{laid}
use Rattle.rows.proofs.Laid.{laid_none, laid_step}
use Rattle.std.specs.Prelude.{Some, None}
use Rattle.readings.specs.Print.{points}
use Rattle.walks.specs.Walks.{Wrote}

pub wrote_none : (t : List ℕ) (n : ℕ) → Wrote t t n []
wrote_none t n = (refl, λ h. sym (laid_none t n))

-- where all is full already, whatever
pub wrote_full : (t : List ℕ) (n : ℕ) (p : Text) → length t ≤ n → Wrote t t n p
wrote_full t n [] h = wrote_none t n
wrote_full t n (x ∷ p) h = (refl, λ k. absurd (omega (arith, h, k)))

pub wrote_on : (t u v : List ℕ) (n m : ℕ) (p q : Text) → Wrote t u n p → m ≡ n + length p → Wrote u v m q → Wrote t v n (p ++ q)
wrote_on t u v n m p q a e b = (
  b.0 ∙ a.0,
  λ h.
      let f : u ≡ take n t ++ laid p (drop n t) = a.1 (omega (arith, length-append p q)) in
      let g : v ≡ take m u ++ laid q (drop m u) = b.1 (omega (arith, length-append p q, a.0)) in
      g ∙ ap (λ (i : ℕ). take i u ++ laid q (drop i u)) e
      ∙ ap (λ (x : List ℕ). take (n + length p) x ++ laid q (drop (n + length p) x)) f ∙ laid_step t n p q (omega (arith, length-append p q)),
)

-- STORES one behind another lay a print, if there is room
pub stores : (t : List ℕ) (n : ℕ) (p : Text) → n + length p ≤ length t → sets t n p ≡ take n t ++ laid p (drop n t)
stores t n p h =
    sets-eq p t n h ∙ append_assoc (take n t) p (drop (n + length p) t)
    ∙ ap (λ (r : List ℕ). take n t ++ (p ++ r)) (sym (drop-drop (length p) n t))

wrote_stores : (t new : List ℕ) (n : ℕ) (p : Text) → new ≡ sets t n p → Wrote t new n p
wrote_stores t new n p e = (ap length e ∙ length-sets t n p, λ h. e ∙ stores t n p h)

wrote_nowhere : (t new : List ℕ) (n : ℕ) (p : Text) → length t < n + length p → new ≡ t → Wrote t new n p
wrote_nowhere t new n p h e = (ap length e, λ k. absurd (omega (arith, h, k)))

-- THE ENDS OF `put`: a sign without a lead, or with one, behind n elements
module _ (t new : List ℕ) (n p : ℕ) where
  pub put_one : new ≡ set t n p → (n + 1 ≡ n + length (points None p)) × Wrote t new n (points None p)
  put_one stored = (refl, wrote_stores t new n (p ∷ []) stored)

  pub put_two : (l : ℕ) → (new ≡ set (set t n l) (n + 1) p) ⊎ ((length t < n + 2) × (new ≡ t))
      → (n + 2 ≡ n + length (points (Some l) p)) × Wrote t new n (points (Some l) p)
  put_two l came =
      let next : n + 1 ≡ suc n = omega arith in (
        refl,
        ⊎_elim (λ h. wrote_stores t new n (l ∷ p ∷ []) (h ∙ ap (λ (k : ℕ). set (set t n l) k p) next))
            (λ h. wrote_nowhere t new n (l ∷ p ∷ []) (omega (arith, h.0)) h.1) came,
      )
