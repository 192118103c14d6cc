-- What normalising adds to a print, counted: an … becomes three code points, and º or ª directly after a digit gets a full stop; any other becomes one.
-- Assumes nothing.
use Rattle.std.specs.Prelude.{Bool, true, false, ◌&&◌, [], ◌∷◌, ℕ, ◌+◌, eqb}
use Prim.Native.Char.{code}
use Rattle.rules.specs.Cells.{Text}
use Rattle.rules.specs.Normal.{is_digit_point, is_ordinal_point}

-- the greatest number of 32 bits: print of at most this length has no more of anything
abbrev pub greatest_count : ℕ
greatest_count = 4294967295

abbrev pub one_if : Bool → ℕ
one_if true = 1
one_if false = 0

abbrev pub ellipses_in : Text → ℕ
ellipses_in [] = 0
ellipses_in (c ∷ t) = one_if (eqb c (code "…")) + ellipses_in t

-- the first argument: a digit stands directly before
abbrev pub stops_after : Bool → Text → ℕ
stops_after d [] = 0
stops_after d (c ∷ t) = one_if (d && is_ordinal_point c) + stops_after (is_digit_point c) t

abbrev pub stops_in : Text → ℕ
stops_in t = stops_after false t
