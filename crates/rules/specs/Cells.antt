-- Cells and code points (paper 01, "What the desk takes and gives"). In order: a row's cells by their dots; a text's code points by their
-- characters. Not here: what a code point is written as (`Castilian`). Assumes nothing.
use Rattle.std.specs.Prelude.{true, false, List, [], ◌∷◌, map, ℕ, zero, suc, ◌+◌, ◌-◌, ◌/◌, ◌%◌, ◌^◌, eqb}
use Prim.Native.Char.{code}
use Prim.Native.String.{String, [] as nothing, ◌∷◌ as ◌before◌}

-- "Print is a lent sequence of code points", "Cells are bytes 0 to 63": both are lists of numbers.
abbrev pub Text : Type 0
Text = List ℕ

abbrev pub Row : Type 0
Row = List ℕ

abbrev pub last_cell : ℕ
last_cell = 63

-- "dot 1 counts 1, dot 2 counts 2, dot 3 counts 4, dot 4 counts 8, dot 5 counts 16, dot 6 counts 32; the blank cell is 0."
dots_of : ℕ → ℕ → ℕ
dots_of zero n = 0
dots_of (suc most) n = elim (eqb n 0) [ true ↦ 0 | false ↦ 2 ^ (n % 10 - 1) + dots_of most (n / 10) ]

-- `dots 3456` is the cell of dots 3, 4, 5 and 6; `dots 0` is the blank.
unfoldable pub dots : ℕ → ℕ
unfolding dots_of
dots n = dots_of 6 n

-- "46-1" means the cell of dots 4 and 6, then that of dot 1: `cells (46 ∷ 1 ∷ [])`.
abbrev pub cells : List ℕ → Row
cells ds = map dots ds

-- the code points of quoted text, as the paper shows it
abbrev pub print : String → Text
print nothing = []
print (◌before◌ c s) = code c ∷ print s
