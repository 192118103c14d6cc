-- What is proved of the promise, as a type; it is proved under the same name in snake case in proofs/Claims.antt. Assumes nothing.
use Rattle.std.specs.Prelude.{List, ◌≡◌, ℕ}
use Rattle.sign_lines.specs.Walk.{SignsPrinted}

-- "any two results allowed by one statement are proved equal"
abbrev pub OneSignsPrinted : Type 0
OneSignsPrinted = (row lent : List ℕ) (at r s : ℕ) (new old : List ℕ) → SignsPrinted row lent at r new → SignsPrinted row lent at s old → (r ≡ s) × (new ≡ old)
