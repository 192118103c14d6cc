-- Bytes that are printed at a place of a lent slice. In order: numbers in decimal; text in UTF-8; cells in characters; both as one; what printing promises. Not here: the
-- methods of a page (`Pages`), the forms of a printed line (crate `replies`). Assumes nothing.
use Rattle.std.specs.Prelude.{cond, List, [], ◌∷◌, ◌++◌, ◌≡◌, ℕ, zero, suc, ◌+◌, ◌/◌, ◌%◌, min, max, ltb, length}
use Rattle.std.proofs.lemmas.List.Edits.{sets}
use Rattle.rules.specs.Cells.{Text, Row}
use Rattle.encoding.specs.Encoding.{encoded_of}

-- A NUMBER IN DECIMAL, with no nought in front: of at most `fuel` digits; a number of the machine, below 2 ^ 64, has at most 20
abbrev pub digits_of : ℕ → ℕ → List ℕ
digits_of zero n = []
digits_of (suc fuel) n = cond (ltb n 10) ((48 + n) ∷ []) (digits_of fuel (n / 10) ++ (48 + n % 10) ∷ [])

abbrev pub decimal_of : ℕ → List ℕ
decimal_of n = digits_of 20 n

-- A TEXT IN UTF-8
abbrev pub bytes_of_text : Text → List ℕ
bytes_of_text [] = []
bytes_of_text (c ∷ t) = encoded_of c ++ bytes_of_text t

-- "one character U+2800 plus the cell for each cell"
abbrev pub characters_of : Row → List ℕ
characters_of [] = []
characters_of (c ∷ r) = encoded_of (0x2800 + c) ++ characters_of r

-- CELLS AND CODE POINTS are printed as characters, by what code point each is shown as: a code point of a text as it is, a cell as this one
abbrev pub pattern_of : ℕ → ℕ
pattern_of cell = 0x2800 + cell

abbrev pub character_bytes : {A : Type 0} → (A → ℕ) → List A → List ℕ
character_bytes shown [] = []
character_bytes shown (x ∷ xs) = encoded_of (shown x) ++ character_bytes shown xs

-- WHAT PRINTING PROMISES, of bytes x at a place of what was lent: they are stored from that place on, one behind another, as far as there is room (`sets`: a store behind the end changes nothing), and nothing
-- else is changed; the answer is the place behind them, or the end where there is no room for all.
pub record Prints (lent : List ℕ) (at : ℕ) (x : List ℕ) (r : ℕ) (new : List ℕ) : Type 0 where
  pub place : r ≡ max at (min (at + length x) (length lent))
  pub stored : new ≡ sets lent at x
