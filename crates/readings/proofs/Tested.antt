-- The tests: at every mode and every cell, what the code reads is what the rules' reader finds; where the code asks for a second cell or a third, at every
-- one of those too. Each is computed once. Assumes nothing.
use mathlib.Core.Bool.{Bool, true, false, ◌&&◌, ◌||◌, not}
use mathlib.Core.List.{List, [], ◌∷◌}
use mathlib.Core.Option.{Option, none, some}
use Prim.Native.Nat.{ℕ, ◌+◌}
use Prim.Native.Char.{code}
use lib.Dec.{T, eqb, leb}
use lib.ListN.{length}
use Rattle.rules.specs.Cells.{dots}
use Rattle.rules.specs.Sorts.{class, is_digit_cell}
use Rattle.rules.specs.Signs.{sign_cells, own_cells, lower_cells}
use Rattle.rules.specs.Places.{class_at}
use Rattle.rules.specs.Pairs.{mark_of}
use Rattle.rules.specs.Castilian.{castilian}
use Rattle.rules.proofs.Finite.{every, below}
use Rattle.rules.proofs.States.{Mode}
use Rattle.rules.proofs.Enumerations.{mode_number}
use Rattle.rules.proofs.Machine.{step, at_rest, lead_of}
use Rattle.rules.proofs.Pieces.{Piece, word}
use Rattle.rules.proofs.Reader.{all_pieces, ways_of, begins_as, look_of}
use Rattle.entries.proofs.Keys.{among, keys_of}
use Rattle.readings.specs.Modes.{mode_of, mode_count, spare}
use Rattle.readings.specs.Acts as act
use Rattle.readings.specs.Deeds.{deeds}
use Rattle.readings.specs.Fields.{deed_of, class_in, usual_in, no_cell}
use Rattle.readings.specs.Words.{words, word_of, seconds}
use Rattle.readings.specs.Readings.{once_list, reading_of, by_word, asked_by, capital_by, after_capital, number_by, percent_by, two_of, longer_by, prefix_by, opener_of, closer_of, shown}
use Rattle.readings.specs.Print.{points}
use Rattle.readings.proofs.Sight.{says}
use Rattle.readings.proofs.Settling.{Cand, cands, bucket, sound_word, closes, settle}

-- the pieces that begin with a cell
unfoldable pub begun : ℕ → List Piece
unfolding bucket all_pieces castilian
begun x = bucket x (all_pieces castilian)

-- does the code ask for the second cell; and for the third
abbrev pub asks : ℕ → ℕ → Bool
asks m w = not (usual_in w m || among (keys_of (once_list w)) (deed_of m (class_in w)))

abbrev pub deeper : ℕ → ℕ → ℕ → Bool
deeper d w y = (eqb d act.capital && eqb y (dots 46)) || eqb (two_of w y) (code "%")

-- how many there are to try: the cells, and none
abbrev pub sights : ℕ
sights = 65

unfoldable pub right_two : ℕ → ℕ → ℕ → List Cand → Bool
unfolding settle reading_of
right_two m x y cs =
    elim (deeper (deed_of m (class_in (word_of x))) (word_of x) y) [
      | true ↦ below (λ z. settle (x ∷ y ∷ z ∷ []) cs (reading_of m x y z)) sights
      | false ↦ settle (x ∷ y ∷ []) cs (reading_of m x y no_cell)
    ]

unfoldable pub right_one : ℕ → ℕ → List Cand → Bool
unfolding settle reading_of right_two
right_one m x cs =
    elim (asks m (word_of x)) [
      | true ↦ below (λ y. right_two m x y cs) sights
      | false ↦ settle (x ∷ []) cs (reading_of m x no_cell no_cell)
    ]

unfoldable pub right_at : ℕ → Bool
unfolding right_one begun cands
right_at x = below (λ m. right_one m x (cands (mode_of m) (begun x))) mode_count

pub all_right : T (below right_at sights)
unfolding right_at right_one right_two begun cands bucket settle closes says reading_of by_word asked_by capital_by after_capital number_by percent_by two_of longer_by prefix_by opener_of closer_of words seconds deeds all_pieces castilian ways_of begins_as look_of class is_digit_cell dots sign_cells own_cells lower_cells mark_of step at_rest lead_of
all_right = tt

pub all_sound : T (every (λ (s : Piece). sound_word (word s)) (all_pieces castilian))
unfolding sound_word all_pieces castilian ways_of class is_digit_cell dots sign_cells own_cells lower_cells
all_sound = tt

-- no piece has more code points than cells, but for the cell to spare before it; where one is to spare behind it, it has fewer
abbrev pub thrifty : Piece → ℕ → Option Mode → Bool
thrifty s m none = true
thrifty s m (some n) = leb (length (points (shown (lead_of s.0)) s.1.0) + spare (mode_number n)) (length (word s) + spare m)

pub all_thrifty : T (every (λ (s : Piece). below (λ m. thrifty s m (step (mode_of m) s.0 (class_at s.1))) mode_count) (all_pieces castilian))
unfolding all_pieces castilian ways_of class is_digit_cell dots sign_cells own_cells lower_cells step lead_of
all_thrifty = tt
