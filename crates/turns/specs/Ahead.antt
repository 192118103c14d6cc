-- What stands at and from a place of a text, in the rules' words: what reading ahead finds. `Future` and `future` are those of the rules' proofs
-- (crates/rules/proofs/Sides.antt): inner promises may speak of them, the public one does not. Assumes nothing.
use Rattle.std.specs.Prelude.{Bool, false, ◌||◌, cond, List, ℕ, ◌+◌, drop, get_or}
use Rattle.rules.specs.Sorts.{Item, Table, Class, a_to_j, other_small, capital, a_stop, a_bar, class, ◌is◌, is_digit, is_ordinal}
use Rattle.rules.specs.Rows.{sort_in, items_in}
use Rattle.rules.proofs.States.{Future}
use Rattle.rules.proofs.Sides.{future}

abbrev pub is_small : Class → Bool
is_small c = c is a_to_j || c is other_small

abbrev pub is_capital : Class → Bool
is_capital c = c is capital

abbrev pub class_at : Table → List ℕ → ℕ → Class
class_at tb text i = class (sort_in tb (get_or text i 0))

abbrev pub items_from : Table → List ℕ → ℕ → List Item
items_from tb text i = items_in tb (drop i text)

unfoldable pub future_at : Table → List ℕ → ℕ → Future
future_at tb text i = future (items_from tb text i)

-- a form goes on at a place, behind its digits: with a full stop and º or ª, or with U+2044 and a digit
unfoldable pub ends_form : Table → List ℕ → ℕ → Bool
ends_form tb text i =
    cond (class_at tb text i is a_stop) (is_ordinal (class_at tb text (i + 1))) (cond (class_at tb text i is a_bar) (is_digit (class_at tb text (i + 1))) false)
