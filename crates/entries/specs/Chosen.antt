-- What a `match` on a number says, as a list of numbers and what stands beside each. Assumes nothing.
use Rattle.std.specs.Prelude.{cond, List, [], ◌∷◌, ℕ, eqb}

-- by a number: what stands beside it, or else d
abbrev pub choose : {A : Type 0} → List (ℕ × A) → ℕ → A → A
choose [] n d = d
choose (e ∷ es) n d = cond (eqb n e.0) e.1 (choose es n d)
