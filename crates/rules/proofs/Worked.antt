-- The sixteen lines hold: the computed answers are the paper's, one comparison of two lists, and what is computed is the rules' answer.
-- Assumes nothing.
use mathlib.Core.Path.{◌≡◌, refl}
use mathlib.Core.List.{List, [], ◌∷◌, map}
use Rattle.rules.specs.Cells.{dots}
use Rattle.rules.specs.Sorts.{class, is_digit_cell}
use Rattle.rules.specs.Signs.{own_cells, lower_cells, sign_cells}
use Rattle.rules.specs.Pairs.{mark_of, fits, turn, open_after, closed}
use Rattle.rules.specs.Places.{near, outcome}
use Rattle.rules.specs.Rows.{sort_in, item_in, items_in, verdict_of}
use Rattle.rules.specs.Castilian.{castilian}
use Rattle.rules.specs.Normal.{normal_of}
use Rattle.rules.specs.Refusals.{number_of, second_of, longest_text, longest_row}
use Rattle.rules.specs.Answers.{Answer}
use Rattle.rules.specs.Worked.{Question, offered, stored, Line, lines, shown_as, Answered, AllHold}
use Rattle.rules.specs.Demands.{Worked}
use Rattle.rules.proofs.Sides.{look, after, rule, future, row_on}
use Rattle.rules.proofs.Machine.{step, at_rest}
use Rattle.rules.proofs.Rows.{whole_row}
use Rattle.rules.proofs.Reader.{walk, find, match, goes, hit, add, all_pieces, ways_of, begins_as, sees, look_of}
use Rattle.rules.proofs.Profile.{decode}
use Rattle.rules.proofs.Castilian.{sane}
use Rattle.rules.proofs.Answers.{choose, answer, answered, first_high, row_answer, row_answered}

-- the answer to a question, computed
abbrev computed : Question → Answer
computed (offered p) = answer castilian p longest_row
computed (stored r) = row_answer castilian sane r longest_text

computed_right : (q : Question) → Answered q (computed q)
computed_right (offered p) = answered castilian p longest_row
computed_right (stored r) = row_answered castilian sane r longest_text

all_hold : (ls : List Line) → map (λ (l : Line). shown_as (computed l.0)) ls ≡ map (λ (l : Line). l.1) ls → AllHold ls
all_hold [] e = tt
all_hold (l ∷ ls) e =
    let a : shown_as (computed l.0) ≡ l.1 = cc in
    let b : map (λ (l : Line). shown_as (computed l.0)) ls ≡ map (λ (l : Line). l.1) ls = cc in
    ((computed l.0, computed_right l.0, a), all_hold ls b)

lines_computed : map (λ (l : Line). shown_as (computed l.0)) lines ≡ map (λ (l : Line). l.1) lines
unfolding lines answer row_answer choose number_of second_of normal_of first_high verdict_of dots closed fits turn mark_of decode open_after castilian sort_in item_in items_in walk find match goes hit add all_pieces ways_of begins_as sees look_of step at_rest whole_row row_on outcome near class is_digit_cell rule sign_cells own_cells lower_cells future look after
lines_computed = refl

pub worked : Worked
worked = all_hold lines lines_computed
