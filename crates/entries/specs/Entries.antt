-- What a code point is to the transcriber, in one word of named fields. In order: where the fields stand; what each class is in most states;
-- the word of a sort and of a code point. The code's constants are these (src/lib.rt). Assumes nothing.
use Rattle.std.specs.Prelude.{Bool, cond, List, [], ◌∷◌, ℕ, ◌+◌, ◌*◌, ◌/◌, ◌%◌, ◌^◌, eqb, get_or}
use Rattle.std.proofs.Math.Option.{Option, none, some}
use Rattle.rules.specs.Sorts.{Sort, Table, Class, a_to_j, other_small, capital, one, other_digit, a_stop, a_comma, a_hyphen, a_dash, a_bar, masculine, feminine, a_percent, other_sign, unlisted, class, class_number}
use Rattle.rules.specs.Signs.{own_cells, lower_cells}
use Rattle.rules.specs.Pairs.{kinds, mark_of}
use Rattle.rules.specs.Rows.{sort_in}
use Rattle.entries.specs.SignWords.{cell_places, sign_of}
use Rattle.entries.specs.States.{free, capitals, mixed, number, lowered, ordinal, barred, under, guarded, hyphened, dashed}

-- THE FIELDS, from the lowest: the states in which it is written as usual, a bit for each; the class; the pair mark; the cell of the lower digit; the sign,
-- which is the cells with their count (`SignWords`); the state after it
abbrev pub class_at : ℕ
class_at = 65536

abbrev pub class_places : ℕ
class_places = 16

-- how many of them there are
abbrev pub classes : ℕ
classes = 15

abbrev pub mark_at : ℕ
mark_at = 1048576

abbrev pub lower_at : ℕ
lower_at = 16777216

abbrev pub sign_at : ℕ
sign_at = 4294967296

abbrev pub first_at : ℕ
first_at = 17179869184

abbrev pub then_at : ℕ
then_at = 1152921504606846976

-- is it written as usual in this state: with its own cells alone, and then the state is `then_in`. (A state is below 16, and the bits above it are not its.)
abbrev pub usual_in : ℕ → ℕ → Bool
usual_in e s = eqb (e / 2 ^ (s % 64) % 2) 1

abbrev pub class_in : ℕ → ℕ
class_in e = e / class_at % class_places

abbrev pub mark_in : ℕ → ℕ
mark_in e = e / mark_at % 16

abbrev pub lower_in : ℕ → ℕ
lower_in e = e / lower_at % cell_places

-- the sign, with the state after it above its cells
abbrev pub sign_in : ℕ → ℕ
sign_in e = e / sign_at

-- the first cell of the sign
abbrev pub first_in : ℕ → ℕ
first_in e = e / first_at % cell_places

abbrev pub then_in : ℕ → ℕ
then_in e = e / then_at

-- AS USUAL. The state after a code point that is written with its own cells alone, as most are in most states. (U+2044 has no cell of its own,
-- and none is written for it.)
unfoldable pub then_of : Class → ℕ
then_of a_to_j = mixed
then_of other_small = mixed
then_of capital = capitals
then_of one = number
then_of other_digit = number
then_of a_stop = free
then_of a_comma = free
then_of a_hyphen = hyphened
then_of a_dash = dashed
then_of a_bar = barred
then_of masculine = free
then_of feminine = guarded
then_of a_percent = free
then_of other_sign = free
then_of unlisted = free

-- the states in which it is. (A small letter in a run that was supposed to be of capitals only is not: such a run is drawn anew, `Supposing` of the crate `passes`.)
abbrev every : List ℕ
every = free ∷ capitals ∷ mixed ∷ number ∷ lowered ∷ ordinal ∷ barred ∷ under ∷ guarded ∷ hyphened ∷ dashed ∷ []

abbrev but : ℕ → List ℕ → List ℕ
but n [] = []
but n (m ∷ ms) = cond (eqb n m) (but n ms) (m ∷ but n ms)

unfoldable pub usual_states : Class → List ℕ
usual_states a_to_j = but capitals (but number (but under (but guarded every)))
usual_states other_small = but capitals every
usual_states capital = capitals ∷ []
usual_states one = number ∷ []
usual_states other_digit = number ∷ []
usual_states a_stop = but number (but lowered every)
usual_states a_comma = but number every
usual_states a_hyphen = but hyphened (but dashed every)
usual_states a_dash = but hyphened every
usual_states a_bar = lowered ∷ []
usual_states masculine = ordinal ∷ []
usual_states feminine = ordinal ∷ []
usual_states a_percent = every
usual_states other_sign = every
usual_states unlisted = []

-- a bit for each state
unfoldable pub bits : List ℕ → ℕ
bits [] = 0
bits (s ∷ ss) = 2 ^ s + bits ss

-- 0 for no mark; 2k + 1 for the opener of kind k, 2k + 2 for its closer; how many there are
abbrev pub marks : ℕ
marks = 2 * kinds + 1

unfoldable pub mark_number : Option (ℕ × Bool) → ℕ
mark_number none = 0
mark_number (some m) = 2 * m.0 + cond m.1 1 2

-- A pair mark is never written as usual: whether its pair allows it is asked first.
unfoldable pub usuals_of : Sort → ℕ
unfolding usual_states bits mark_number
usuals_of s = cond (eqb (mark_number (mark_of s)) 0) (bits (usual_states (class s))) 0

unfoldable pub word : Sort → ℕ
unfolding then_of usuals_of mark_number sign_of
word s =
    usuals_of s + class_at * class_number (class s) + mark_at * mark_number (mark_of s) + lower_at * get_or (lower_cells s) 0 0
    + sign_at * sign_of (own_cells s) + then_at * then_of (class s)

-- the word of a code point in a profile's table
unfoldable pub entry_of : Table → ℕ → ℕ
unfolding word
entry_of tb c = word (sort_in tb c)
