-- What the second pass writes: the cells of signs, one behind another. Assumes nothing.
use Rattle.std.specs.Prelude.{List, [], ◌∷◌, ◌++◌, ℕ}
use Rattle.rules.specs.Cells.{Row}
use Rattle.entries.specs.SignWords.{cells_in}

abbrev pub joined : List ℕ → Row
joined [] = []
joined (s ∷ ss) = cells_in s ++ joined ss
