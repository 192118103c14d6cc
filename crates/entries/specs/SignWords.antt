-- A sign: the cells that are written at a place, at most three, with their count, in one word. In order: the fields; the cells of a sign; the sign of cells.
-- The code's constants are these (src/sign.rt). Assumes nothing.
use Rattle.std.specs.Prelude.{List, [], ◌∷◌, ℕ, ◌+◌, ◌*◌, ◌/◌, ◌%◌}
use Rattle.rules.specs.Cells.{Row}
use Rattle.entries.specs.Chosen.{choose}

-- THE FIELDS, from the lowest: how many cells; the first, the second, the third. Above them anything may stand: a sign is known by its fields alone.
abbrev pub count_places : ℕ
count_places = 4

abbrev pub first_cell : ℕ
first_cell = 4

abbrev pub second_cell : ℕ
second_cell = 256

abbrev pub third_cell : ℕ
third_cell = 16384

abbrev pub cell_places : ℕ
cell_places = 64

abbrev pub count_of : ℕ → ℕ
count_of w = w % count_places

abbrev pub first_of : ℕ → ℕ
first_of w = w / first_cell % cell_places

abbrev pub second_of : ℕ → ℕ
second_of w = w / second_cell % cell_places

abbrev pub third_of : ℕ → ℕ
third_of w = w / third_cell % cell_places

-- THE CELLS of a sign, by their count
abbrev pub counts : ℕ → List (ℕ × Row)
counts w = (1, first_of w ∷ []) ∷ (2, first_of w ∷ second_of w ∷ []) ∷ (3, first_of w ∷ second_of w ∷ third_of w ∷ []) ∷ []

unfoldable pub cells_in : ℕ → Row
cells_in w = choose (counts w) (count_of w) []

-- THE SIGN of one, two and three cells. (A cell is below 64, so that the remainder is the cell.)
abbrev pub sign_of_one : ℕ → ℕ
sign_of_one a = 1 + first_cell * (a % cell_places)

abbrev pub sign_of_two : ℕ → ℕ → ℕ
sign_of_two a b = 2 + first_cell * (a % cell_places) + second_cell * (b % cell_places)

abbrev pub sign_of_three : ℕ → ℕ → ℕ → ℕ
sign_of_three a b c = 3 + first_cell * (a % cell_places) + second_cell * (b % cell_places) + third_cell * (c % cell_places)

-- of a row; of more than three cells there is no sign
unfoldable pub sign_of : Row → ℕ
sign_of [] = 0
sign_of (a ∷ []) = sign_of_one a
sign_of (a ∷ b ∷ []) = sign_of_two a b
sign_of (a ∷ b ∷ c ∷ []) = sign_of_three a b c
sign_of (a ∷ b ∷ c ∷ d ∷ r) = 0
