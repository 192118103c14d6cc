-- What is read at a place, from the mode and three cells. In order: a reading; what the cell alone decides; what the cells that follow decide; the reading at a
-- place; the step that it is. These are the inner functions' promises: that a reading is what the rules find is shown in proofs/. Assumes nothing.
use Rattle.std.specs.Prelude.{Bool, Option, Some, None, cond, not, ◌&&◌, List, [], ◌∷◌, ℕ, ◌+◌, ◌*◌, ◌%◌, eqb, get_or}
use Prim.Native.Char.{code}
use Rattle.rules.specs.Cells.{Row, dots}
use Rattle.entries.specs.Chosen.{choose}
use Rattle.pairs.specs.Opened.{is_open, turned_by}
use Rattle.readings.specs.Modes as mode
use Rattle.readings.specs.Acts as act
use Rattle.readings.specs.Fields.{deed_of, class_in, point_in, capital_in, figure_in, lower_in, kind_in, then_in, usual_in, field_in, cell_of}
use Rattle.readings.specs.Words.{word_of, second_of}
use Rattle.readings.specs.declared.Step.{Step}

-- no code point
abbrev pub no_point : ℕ
no_point = 0

-- A READING
pub data Reading : Type 0 where
  -- no sign that the rules allow
  nothing : Reading
  -- a code point without a cell that goes with it (or `no_point`), the code point, how many cells, the mode after it
  reads : ℕ → ℕ → ℕ → ℕ → Reading
  -- the pair mark of a kind, of so many cells
  a_mark : ℕ → ℕ → Reading

-- one code point
abbrev pub one : ℕ → ℕ → ℕ → Reading
one point cells mode = reads no_point point cells mode

-- AS USUAL, by the cell's word: its small letter or its sign, or else its pair mark
abbrev pub usual_by : ℕ → Reading
usual_by w = cond (eqb (point_in w) no_point) (a_mark (kind_in w) 1) (one (point_in w) 1 (then_in w))

-- FROM THE CELL ALONE, otherwise
abbrev pub once_list : ℕ → List (ℕ × Reading)
once_list w =
    (act.no_sign, nothing)
    ∷ (act.digit, one (figure_in w) 1 mode.num)
    ∷ (act.digit_under, one (figure_in w) 1 mode.under)
    ∷ (act.capital_of_many, one (capital_in w) 1 mode.whole2)
    ∷ (act.lower_digit, one (lower_in w) 1 mode.low)
    ∷ (act.denominator, reads (code "⁄") (figure_in w) 1 mode.under)
    ∷ (act.masculine_mark, reads (code ".") (code "º") 1 mode.free)
    ∷ []

-- FROM THE CELLS THAT FOLLOW: y is the second cell and z the third
abbrev pub digit_cell : ℕ → Bool
digit_cell y = not (eqb (figure_in (word_of y)) no_point)

-- the mode after a capital that has a 46 of its own, in the order of the modes before it: `lone` where a run begins, and `free` where no such capital stands
abbrev pub capital_modes : List ℕ
capital_modes =
    -- free, lone, mixed
    mode.lone ∷ mode.owing ∷ mode.mixed
    -- whole1, under1
    ∷ mode.free ∷ mode.free
    -- end, hyphen, fem, percent
    ∷ mode.lone ∷ mode.lone ∷ mode.lone ∷ mode.lone
    -- owing, dash, whole2
    ∷ mode.owing ∷ mode.lone ∷ mode.free
    -- num, low, under, mid
    ∷ mode.lone ∷ mode.free ∷ mode.lone ∷ mode.free
    ∷ []

unfoldable pub after_capital : ℕ → ℕ
after_capital m = get_or capital_modes (m % 16) mode.free

-- a is that mode
abbrev pub first_of_run : ℕ → ℕ → Reading
first_of_run a first = cond (eqb first no_point) nothing (cond (eqb a mode.lone) (one first 3 mode.whole1) nothing)

abbrev pub capital_letter : ℕ → ℕ → Reading
capital_letter a letter = cond (eqb letter no_point) nothing (cond (eqb a mode.free) nothing (one letter 2 a))

unfoldable pub capital_by : ℕ → ℕ → ℕ → Reading
unfolding after_capital
capital_by m y z =
    cond (eqb y (dots 46)) (first_of_run (after_capital m) (capital_in (word_of z)))
    (cond (eqb y (dots 2)) (cond (eqb m mode.owing) nothing (one (code ">") 2 mode.free)) (capital_letter (after_capital m) (capital_in (word_of y))))

unfoldable pub number_by : ℕ → Reading
number_by w =
    cond (eqb (figure_in w) no_point) (cond (eqb (lower_in w) no_point) nothing (one (lower_in w) 2 mode.low)) (one (figure_in w) 2 mode.num)

unfoldable pub percent_by : ℕ → Reading
percent_by z = cond (eqb z (dots 356)) (one (code "‰") 3 mode.free) (one (code "%") 2 mode.percent)

-- the kind of ‘ and ’
abbrev pub inner_quotes : ℕ
inner_quotes = 3

-- the sign of two cells, or `no_point`, w being the word of the first; of a pair mark the opener
unfoldable pub two_of : ℕ → ℕ → ℕ
two_of w y = field_in (second_of y) (kind_in w * 16)

abbrev pub two_list : ℕ → List (ℕ × Reading)
two_list z = (no_point, nothing) ∷ (code "%", percent_by z) ∷ (code "‘", a_mark inner_quotes 2) ∷ []

unfoldable pub longer_by : ℕ → ℕ → ℕ → Reading
unfolding percent_by two_of
longer_by w y z = choose (two_list z) (two_of w y) (one (two_of w y) 2 mode.free)

unfoldable pub prefix_by : ℕ → ℕ → ℕ → ℕ → Reading
unfolding longer_by
prefix_by d w y z = cond (eqb d act.separates && digit_cell y) (one (point_in (word_of y)) 2 mode.mixed) (longer_by w y z)

abbrev pub ask_list : ℕ → ℕ → ℕ → ℕ → List (ℕ × Reading)
ask_list m w y z =
    (act.point, cond (digit_cell y) (one (point_in w) 1 mode.mid) (one (point_in w) 1 mode.end))
    ∷ (act.one_or_feminine, cond (digit_cell y) (reads (code "⁄") (code "1") 1 mode.under1) (reads (code ".") (code "ª") 1 mode.fem))
    ∷ (act.hyphen_or_dash, cond (eqb y (dots 36)) (one (code "—") 2 mode.dash) (one (code "-") 1 mode.hyphen))
    ∷ (act.dash_only, cond (eqb y (dots 36)) (one (code "—") 2 mode.dash) nothing)
    ∷ (act.number_sign, number_by (word_of y))
    ∷ (act.capital, capital_by m y z)
    ∷ []

unfoldable pub asked_by : ℕ → ℕ → ℕ → ℕ → ℕ → Reading
unfolding number_by prefix_by capital_by
asked_by m d w y z = choose (ask_list m w y z) d (prefix_by d w y z)

-- THE READING, from the mode and three cells
unfoldable pub by_word : ℕ → ℕ → ℕ → ℕ → Reading
unfolding asked_by
by_word m w y z =
    cond (usual_in w m) (usual_by w)
    (choose (once_list w) (deed_of m (class_in w)) (asked_by m (deed_of m (class_in w)) w y z))

unfoldable pub reading_of : ℕ → ℕ → ℕ → ℕ → Reading
unfolding by_word
reading_of m x y z = by_word m (word_of x) y z

-- THE STEP that a reading is, at a place and with these pairs open
-- The marks, in the order of the kinds, of which there are fewer than 8.
abbrev pub openers : List ℕ
openers = code "¿" ∷ code "¡" ∷ code "«" ∷ code "‘" ∷ 0xe000 ∷ []

unfoldable pub opener_of : ℕ → ℕ
opener_of k = get_or openers (k % 8) no_point

abbrev pub closers : List ℕ
closers = code "?" ∷ code "!" ∷ code "»" ∷ code "’" ∷ 0xe001 ∷ []

unfoldable pub closer_of : ℕ → ℕ
closer_of k = get_or closers (k % 8) no_point

-- a field as a code point, if it has one
abbrev pub shown : ℕ → Option ℕ
shown n = cond (eqb n no_point) None (Some n)

-- by its lead (or `no_point`), its code point, the place after it, the mode and the open pairs
abbrev pub a_step : ℕ → ℕ → ℕ → ℕ → ℕ → Step
a_step l p next m o = record { lead = shown l; point = p; next = next; mode = mode.mode_at m; opened = o }

abbrev pub mark_step : ℕ → ℕ → ℕ → Step
mark_step next o k = a_step no_point (cond (is_open o k) (closer_of k) (opener_of k)) next mode.free (turned_by o k)

abbrev pub step_of : ℕ → ℕ → Reading → Option Step
step_of at o nothing = None
step_of at o (reads l p c m) = Some (a_step l p (at + c) m o)
step_of at o (a_mark k c) = Some (mark_step (at + c) o k)

unfoldable pub step_at : Row → ℕ → ℕ → ℕ → Option Step
unfolding reading_of
step_at row at m o = step_of at o (reading_of m (cell_of row at) (cell_of row (at + 1)) (cell_of row (at + 2)))
