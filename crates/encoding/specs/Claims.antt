-- What is proved of the promise, as a type; it is proved under the same name in snake case in proofs/Claims.antt. Assumes nothing.
use Rattle.std.specs.Prelude.{List, ◌≡◌, ℕ}
use Rattle.encoding.specs.Encoding.{Encoded}

-- "any two results allowed by one statement are proved equal"
abbrev pub OneEncoded : Type 0
OneEncoded = (c : ℕ) (lent : List ℕ) (r q : ℕ) (new old : List ℕ) → Encoded c lent r new → Encoded c lent q old → (r ≡ q) × (new ≡ old)
