-- Signs: how a code point is written at a place, and its cells there (paper 01, "The signs" and the proofing screen's "A sign is ..").
-- In order: the ways of writing; the cells of a sort in each; the sign that a screen's step gives. Not here: which way a place has (`Places`).
-- Assumes nothing.
use Rattle.std.specs.Prelude.{true, false, List, [], ◌∷◌, ◌++◌, ℕ, ◌+◌, ◌%◌, get_or}
use Rattle.rules.specs.Cells.{Text, Row, dots, cells}
use Rattle.rules.specs.Sorts.{Sort, letter, digit, full_stop, comma, hyphen, dash, fraction_bar, ordinal, pair_mark, percent, plain, no_sign, digit_dots}

-- "A sign is the cells of one code point, with any 46-46, 46, 3456 or separating 5 before them. A code point without a cell goes with the sign
-- after it": so `denominator` (after U+2044) and `ordinal_mark` (after the full stop) are ways of their own.
pub data Way : Type 0 where
  -- its cells; after 46; after 46-46; after a separating 5
  bare one_capital all_capitals separated : Way
  -- the first digit of a number; of an ordinal or a fraction; a later lower digit
  first_digit first_lower lower : Way
  -- the first digit of a denominator; º or ª of an ordinal; a point or comma inside a number
  denominator ordinal_mark inside : Way

-- "Lower digits 1 to 9 and 0 are 2, 23, 25, 256, 26, 235, 2356, 236, 35, 356."
abbrev pub lower_dots : List ℕ
lower_dots = 2 ∷ 23 ∷ 25 ∷ 256 ∷ 26 ∷ 235 ∷ 2356 ∷ 236 ∷ 35 ∷ 356 ∷ []

-- both lists are in the order 1 to 9 and 0
abbrev digit_in : List ℕ → ℕ → ℕ
digit_in ds d = dots (get_or ds ((d + 9) % 10) 0)

-- the cells by themselves: the points are 3, the commas 2; U+2014 is 36-36; ". º" stands on one 135; U+2044 has none
unfoldable pub own_cells : Sort → Row
own_cells (letter c b) = c ∷ []
own_cells (digit d) = digit_in digit_dots d ∷ []
own_cells (full_stop b) = cells (3 ∷ [])
own_cells comma = cells (2 ∷ [])
own_cells hyphen = cells (36 ∷ [])
own_cells dash = cells (36 ∷ 36 ∷ [])
own_cells fraction_bar = []
own_cells (ordinal true) = cells (1 ∷ [])
own_cells (ordinal false) = cells (135 ∷ [])
own_cells (pair_mark k b w) = w
own_cells (percent w) = w
own_cells (plain w) = w
own_cells no_sign = []

-- the lower digit; nothing else is written low
unfoldable pub lower_cells : Sort → Row
lower_cells (letter c b) = []
lower_cells (digit d) = digit_in lower_dots d ∷ []
lower_cells (full_stop b) = []
lower_cells comma = []
lower_cells hyphen = []
lower_cells dash = []
lower_cells fraction_bar = []
lower_cells (ordinal b) = []
lower_cells (pair_mark k b w) = []
lower_cells (percent w) = []
lower_cells (plain w) = []
lower_cells no_sign = []

unfoldable pub sign_cells : Way → Sort → Row
sign_cells bare s = own_cells s
sign_cells one_capital s = cells (46 ∷ []) ++ own_cells s
sign_cells all_capitals s = cells (46 ∷ 46 ∷ []) ++ own_cells s
sign_cells separated s = cells (5 ∷ []) ++ own_cells s
sign_cells first_digit s = cells (3456 ∷ []) ++ own_cells s
sign_cells first_lower s = cells (3456 ∷ []) ++ lower_cells s
sign_cells lower s = lower_cells s
sign_cells denominator s = own_cells s
sign_cells ordinal_mark s = own_cells s
sign_cells inside s = own_cells s

-- what a step of the screen shows: "one or two code points", and the cells that it passes over
pub record Sign : Type 0 where
  pub shown : Text
  pub taken : Row

-- the signs' code points, joined; their cells, joined
abbrev pub print_of : List Sign → Text
print_of [] = []
print_of (s ∷ ss) = s.shown ++ print_of ss

abbrev pub cells_of : List Sign → Row
cells_of [] = []
cells_of (s ∷ ss) = s.taken ++ cells_of ss
