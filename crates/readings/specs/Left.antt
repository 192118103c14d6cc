-- The signs that are left of a row, from a mode and the open pairs, as the rules' own reader finds them (crates/rules/proofs/Reader.antt, `walk`). Inner
-- promises only: what is promised to a caller is said with `Reads` and `signs_of` alone. Assumes nothing.
use Rattle.std.specs.Prelude.{List, ◌∷◌, map, ℕ}
use Rattle.std.proofs.Math.Option.{Option, none, some}
use Rattle.rules.specs.Castilian.{castilian}
use Rattle.rules.specs.Cells.{Row}
use Rattle.rules.specs.Signs.{Sign}
use Rattle.rules.proofs.Pieces.{Piece, sign_of}
use Rattle.rules.proofs.Reader.{walk, all_pieces}
use Rattle.pairs.specs.Opened.{opens_of}
use Rattle.readings.specs.Modes.{mode_of, free}

abbrev pub signs_by : Option (List Piece) → Option (List Sign)
signs_by none = none
signs_by (some ss) = some (map sign_of ss)

abbrev pub left : ℕ → ℕ → Row → Option (List Sign)
left m o r = signs_by (walk (all_pieces castilian) (mode_of m) (opens_of o) 0 r)

-- those of a whole row: nothing is begun, and no pair is open
abbrev pub signs_in : Row → Option (List Sign)
signs_in r = left free 0 r

-- one sign more in front
abbrev pub add_sign : Sign → Option (List Sign) → Option (List Sign)
add_sign s none = none
add_sign s (some ss) = some (s ∷ ss)
