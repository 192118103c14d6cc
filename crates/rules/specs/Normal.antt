-- Normalised print (paper 01, "Normalised print"). "Normalising is done first, to any sequence, and never refuses." Assumes nothing.
use Rattle.std.specs.Prelude.{Bool, true, false, ◌&&◌, ◌||◌, cond, List, [], ◌∷◌, ◌++◌, ℕ, eqb, leb}
use Prim.Native.Char.{Char, code}
use Prim.Native.String.{String}
use Rattle.rules.specs.Cells.{Text, print}

-- "U+2026 becomes three full stops." "“ and « become «; ” and » become ». ‹ becomes ‘ and › becomes ’."
unfoldable pub replacements : List (Char × String)
replacements = ("…", "...") ∷ ("“", "«") ∷ ("”", "»") ∷ ("‹", "‘") ∷ ("›", "’") ∷ []

-- "All else is kept, repeated blanks included."
unfoldable pub replaced_by : List (Char × String) → ℕ → Text
replaced_by [] c = c ∷ []
replaced_by (r ∷ rs) c = elim (eqb (code r.0) c) [ true ↦ print r.1 | false ↦ replaced_by rs c ]

unfoldable pub is_digit_point : ℕ → Bool
is_digit_point c = leb (code "0") c && leb c (code "9")

unfoldable pub is_ordinal_point : ℕ → Bool
is_ordinal_point c = eqb c (code "º") || eqb c (code "ª")

-- What a code point becomes; the first argument: a digit stands directly before. "º or ª directly after a digit gets a full stop before it."
abbrev pub becomes : Bool → ℕ → Text
becomes d c = cond (d && is_ordinal_point c) (code "." ∷ c ∷ []) (replaced_by replacements c)

unfoldable pub normal_after : Bool → Text → Text
unfolding replacements replaced_by is_digit_point is_ordinal_point
normal_after d [] = []
normal_after d (c ∷ t) = becomes d c ++ normal_after (is_digit_point c) t

unfoldable pub normal_of : Text → Text
unfolding normal_after
normal_of t = normal_after false t
