-- Numbers below a bound: the one that is none of the others. Assumes nothing.
use mathlib.Core.Path.{◌≡◌, refl, sym, ◌∙◌}
use mathlib.Core.Bool.{Bool, true, false, ◌||◌, true≢false}
use mathlib.Core.List.{List, [], ◌∷◌}
use mathlib.Core.Logic.{⊎_elim}
use Prim.Native.Nat.{ℕ, zero, suc, ◌+◌, ◌≤◌, ◌<◌}
use native.Mathlib.Omega.{arith}
use lib.Dec.{eqb}
use borrow.Author.Tests.{eqb-false}
use Rattle.rules.proofs.Finite.{le_or_lt}
use Rattle.entries.proofs.Keys.{among}

-- the numbers below a bound, from 0 on
abbrev from : ℕ → ℕ → List ℕ
from k zero = []
from k (suc n) = k ∷ from (suc k) n

unfoldable pub upto : ℕ → List ℕ
upto n = from 0 n

among_from : (n k c : ℕ) → k ≤ c → c < k + n → among (from k n) c ≡ true
among_from zero k c l h = absurd (omega arith)
among_from (suc n) k c l h = go (eqb c k) refl (λ q. among_from n (suc k) c q (omega arith))
  where
    go : (b : Bool) → eqb c k ≡ b → (suc k ≤ c → among (from (suc k) n) c ≡ true) → b || among (from (suc k) n) c ≡ true
    go true e ih = refl
    go false e ih = ih (⊎_elim (λ q. absurd (eqb-false c k e (omega (arith, q, l)))) (λ q. q) (le_or_lt c k))

-- none of those below n
pub none_below : (n c : ℕ) → among (upto n) c ≡ false → n ≤ c
unfolding upto
none_below n c e = ⊎_elim (λ l. absurd (let z = among_from n 0 c (omega arith) (omega arith) in true≢false (sym z ∙ e))) (λ l. omega arith) (le_or_lt (suc c) n)

-- and below n + 1
pub only_last : (n c : ℕ) → c < suc n → among (upto n) c ≡ false → c ≡ n
only_last n c h e = omega (arith, none_below n c e)
