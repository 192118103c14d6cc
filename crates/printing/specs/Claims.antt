-- What is proved of printing, as types; each is proved under the same name in snake case in proofs/Claims.antt. In order: one outcome; what is printed from the front of
-- what was lent; part behind part; the characters of a row and of a text. Assumes nothing.
use Rattle.std.specs.Prelude.{List, ◌++◌, ◌≡◌, ℕ, ◌≤◌, length, take}
use Rattle.rows.specs.Laid.{laid}
use Rattle.rules.specs.Cells.{Text, Row}
use Rattle.printing.specs.Printed.{bytes_of_text, characters_of, pattern_of, character_bytes, Prints}

-- "any two results allowed by one statement are proved equal"
abbrev pub OnePrinted : Type 0
OnePrinted =
    (l : List ℕ) (at : ℕ) (x : List ℕ) (r s : ℕ) (new old : List ℕ) → Prints l at x r new → Prints l at x s old → (r ≡ s) × (new ≡ old)

-- From the front: what is printed is what stands before the place that is answered, and behind it all is as it was.
abbrev pub PrintedInFront : Type 0
PrintedInFront =
    (l x : List ℕ) (r : ℕ) (new : List ℕ) → length x ≤ length l → Prints l 0 x r new → (take r new ≡ x) × (new ≡ laid x l)

-- Part behind part is the whole, also where there is no room for it.
abbrev pub PrintedOn : Type 0
PrintedOn =
    (l : List ℕ) (at : ℕ) (x : List ℕ) (m : ℕ) (mid y : List ℕ) (r : ℕ) (new : List ℕ) → Prints l at x m mid → Prints mid m y r new → Prints l at (x ++ y) r new

-- "one character U+2800 plus the cell for each cell"; and a text in UTF-8
abbrev pub CellsShown : Type 0
CellsShown = (r : Row) → character_bytes pattern_of r ≡ characters_of r

abbrev pub TextShown : Type 0
TextShown = (t : Text) → character_bytes (λ point. point) t ≡ bytes_of_text t
