-- What a code point is to the rules (paper 01, "The signs"). In order: the sort of a code point; its class, all that a rule asks of a
-- neighbour. A new kind of sign is a sort with its cells (`Signs`); a class of its own only where a rule or the reader asks for it.
-- Assumes nothing.
use Rattle.std.specs.Prelude.{Bool, true, false, ◌||◌, cond, List, [], ◌∷◌, ℕ, eqb}
use Rattle.rules.specs.Cells.{Row, cells}

pub data Sort : Type 0 where
  -- a letter: its cell; is it a capital
  letter : ℕ → Bool → Sort
  -- a digit: its value
  digit : ℕ → Sort
  -- the full stop: has its profile an apostrophe, with the same cell
  full_stop : Bool → Sort
  -- , and - and U+2014 and U+2044
  comma hyphen dash fraction_bar : Sort
  -- º or ª: is it ª
  ordinal : Bool → Sort
  -- a pair mark: its kind; is it the opener; its cells
  pair_mark : ℕ → Bool → Row → Sort
  -- %: its cells, with which ‰ begins
  percent : Row → Sort
  -- any other sign: its cells
  plain : Row → Sort
  -- "a code point with no sign"
  no_sign : Sort

-- a code point and its sort; a profile's table of them
abbrev pub Item : Type 0
Item = ℕ × Sort

abbrev pub Table : Type 0
Table = List Item

-- "digits 1 to 9 and 0 are the cells of a to j" (paper 01, "Numbers")
abbrev pub digit_dots : List ℕ
digit_dots = 1 ∷ 12 ∷ 14 ∷ 145 ∷ 15 ∷ 124 ∷ 1245 ∷ 125 ∷ 24 ∷ 245 ∷ []

unfoldable pub among : ℕ → List ℕ → Bool
among n [] = false
among n (m ∷ ms) = eqb n m || among n ms

unfoldable pub is_digit_cell : ℕ → Bool
unfolding among
is_digit_cell c = among c (cells digit_dots)

-- All that a rule asks of a neighbour. (No rule asks for %: it has a class because the reader must see that no ‰ stands there.)
pub data Class : Type 0 where
  a_to_j other_small capital one other_digit a_stop a_comma a_hyphen a_dash a_bar masculine feminine a_percent other_sign unlisted : Class

-- (a to j are the small letters whose cells are digits')
unfoldable pub class : Sort → Class
unfolding is_digit_cell
class (letter c true) = capital
class (letter c false) = cond (is_digit_cell c) a_to_j other_small
class (digit d) = cond (eqb d 1) one other_digit
class (full_stop b) = a_stop
class comma = a_comma
class hyphen = a_hyphen
class dash = a_dash
class fraction_bar = a_bar
class (ordinal true) = feminine
class (ordinal false) = masculine
class (pair_mark k b w) = other_sign
class (percent w) = a_percent
class (plain w) = other_sign
class no_sign = unlisted

-- classes told apart by a number for each
abbrev pub class_number : Class → ℕ
class_number a_to_j = 0
class_number other_small = 1
class_number capital = 2
class_number one = 3
class_number other_digit = 4
class_number a_stop = 5
class_number a_comma = 6
class_number a_hyphen = 7
class_number a_dash = 8
class_number a_bar = 9
class_number masculine = 10
class_number feminine = 11
class_number a_percent = 12
class_number other_sign = 13
class_number unlisted = 14

infix 40 ◌is◌
abbrev pub ◌is◌ : Class → Class → Bool
c is d = eqb (class_number c) (class_number d)

abbrev pub is_letter : Class → Bool
is_letter c = c is a_to_j || c is other_small || c is capital

abbrev pub is_digit : Class → Bool
is_digit c = c is one || c is other_digit

abbrev pub is_stop : Class → Bool
is_stop c = c is a_stop

-- "full stop or comma", also called a point or comma
abbrev pub is_point : Class → Bool
is_point c = is_stop c || c is a_comma

abbrev pub is_ordinal : Class → Bool
is_ordinal c = c is masculine || c is feminine
