-- What a lent slice holds once a row has been written to it (paper 01: "from the first element on; all elements after the count are as they
-- were"). Assumes nothing.
use Rattle.std.specs.Prelude.{ℕ, List, ◌++◌, length, drop}

-- a row laid over the front of what was lent: behind it, all is as it was
abbrev pub laid : List ℕ → List ℕ → List ℕ
laid row lent = row ++ drop (length row) lent
