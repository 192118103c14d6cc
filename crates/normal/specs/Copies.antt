-- What `normalise` promises: the normalised print, laid over the front of what was lent, where it is short enough and there is room; and otherwise its
-- length as it is reported, and nothing written. Assumes nothing.
use Rattle.std.specs.Prelude.{Bool, ◌&&◌, cond, List, Result, Ok, Err, ℕ, leb, length}
use Rattle.rules.specs.Cells.{Text}
use Rattle.rules.specs.Normal.{normal_of}
use Rattle.rules.specs.Refusals.{longest_text, reported}
use Rattle.rows.specs.Laid.{laid}
use Rattle.normal.specs.declared.NoRoom.{NoRoom}

abbrev pub fits_in : Text → ℕ → Bool
fits_in p room = leb (length (normal_of p)) longest_text && leb (length (normal_of p)) room

abbrev pub no_room : ℕ → NoRoom
no_room n = record { length = n }

unfoldable pub normalised_of : Text → ℕ → Result ℕ NoRoom
normalised_of p room = cond (fits_in p room) (Ok (length (normal_of p))) (Err (no_room (reported (length (normal_of p)))))

unfoldable pub copy_of : Text → List ℕ → List ℕ
copy_of p lent = cond (fits_in p (length lent)) (laid (normal_of p) lent) lent
