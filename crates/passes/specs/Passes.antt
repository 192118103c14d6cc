-- What the passes over a text promise: the sign of a word by its way; what the first pass finds; the answer to a normalised text. Not here: what the second
-- pass writes (`Joined` of the crate `writing`). Assumes nothing.
use Rattle.std.specs.Prelude.{Bool, ◌&&◌, cond, List, [], ◌∷◌, ◌≡◌, ℕ, Result, Ok, Err, eqb, leb, ltb, length}
use Rattle.rules.specs.Cells.{Text, Row}
use Rattle.rules.specs.Sorts.{Table, capital, class_number}
use Rattle.rules.specs.Places.{lacks_sign, breaks_pair, outside_form, shares_cells}
use Rattle.rules.specs.Rows.{Verdict, good, bad, verdict_of}
use Rattle.rules.proofs.Rows.{whole_row}
use Rattle.entries.specs.Chosen.{choose}
use Rattle.entries.specs.SignWords.{third_of, cells_in, sign_of_one, sign_of_two, sign_of_three}
use Rattle.entries.specs.States.{capitals, mixed}
use Rattle.entries.specs.Entries.{class_in, sign_in, first_in, lower_in}
use Rattle.deeds.specs.Acts as act
use Rattle.rows.specs.Laid.{laid}
use Rattle.writing.specs.Joined.{joined}
use Rattle.passes.specs.declared.Refusal.{Refusal}
use Rattle.passes.specs.declared.Refusal.TheVariants.{NoSign, PairBroken, OutsideForm, SharesCells, NeedsRoom}

-- THE ANSWER to a print: the count of cells written, or the refusal
abbrev pub Answer : Type 0
Answer = Result ℕ Refusal

-- THE SIGN of a word, by its way of writing: the cells before its own, and its own or the lower digit's
abbrev pub dots46 : ℕ
dots46 = 40

abbrev dots5 : ℕ
dots5 = 16

abbrev dots3456 : ℕ
dots3456 = 60

-- none, though it has one: the full stop of an ordinal
abbrev pub no_cell : ℕ
no_cell = 0

abbrev pub ways_of : ℕ → List (ℕ × ℕ)
ways_of e =
    (act.bare_way, sign_in e) ∷ (act.one_capital_way, sign_of_two dots46 (first_in e)) ∷ (act.all_capitals_way, sign_of_three dots46 dots46 (first_in e))
    ∷ (act.separated_way, sign_of_two dots5 (first_in e)) ∷ (act.first_digit_way, sign_of_two dots3456 (first_in e))
    ∷ (act.first_lower_way, sign_of_two dots3456 (lower_in e)) ∷ (act.lower_way, sign_of_one (lower_in e)) ∷ []

unfoldable pub sign_by : ℕ → ℕ → ℕ
sign_by w e = choose (ways_of e) w no_cell

-- and its cells
abbrev pub cells_by : ℕ → ℕ → Row
cells_by w e = cells_in (sign_by w e)

-- of a capital alone, from its sign as the first of a run of capitals
abbrev pub alone_of : ℕ → ℕ
alone_of w = sign_of_two dots46 (third_of w)

-- THE FIRST PASS. A small letter in a run that is supposed to be of capitals only. (The classes below `capital` are those of small letters.)
abbrev pub small_among_capitals : ℕ → ℕ → Bool
small_among_capitals s e = eqb s capitals && ltb (class_in e) (class_number capital)

-- a capital in a run that has a small letter
abbrev pub capital_among_small : ℕ → ℕ → Bool
capital_among_small s e = eqb s mixed && eqb (class_in e) (class_number capital)

abbrev pub faults : ℕ → List (ℕ × Refusal)
faults i = (act.no_sign, NoSign i) ∷ (act.outside_form, OutsideForm i) ∷ []

unfoldable pub fault_by : ℕ → ℕ → Refusal
fault_by d i = choose (faults i) d (SharesCells i)

-- the rules' verdict, with the count of the row's cells: that count, or the first refusal
abbrev pub shown : Verdict → ℕ → Answer
shown good n = Ok n
shown (bad lacks_sign i) n = Err (NoSign i)
shown (bad breaks_pair i) n = Err (PairBroken i)
shown (bad outside_form i) n = Err (OutsideForm i)
shown (bad shares_cells i) n = Err (SharesCells i)

unfoldable pub measured_of : Table → Text → Answer
measured_of tb t = shown (verdict_of tb t) (length (whole_row tb t))

-- the signs that it leaves: where the text is accepted, their cells are its row
abbrev pub Drawn : Answer → Table → Text → List ℕ → Type 0
Drawn (Ok n) tb t ss = joined ss ≡ whole_row tb t
Drawn (Err a) tb t ss = Unit

-- THE ANSWER to what the first pass finds, and what the lent row then holds
abbrev pub fitted_by : Answer → ℕ → Answer
fitted_by (Ok n) room = cond (leb n room) (Ok n) (Err (NeedsRoom n))
fitted_by (Err a) room = Err a

abbrev pub written_by : Answer → Row → List ℕ → List ℕ
written_by (Ok n) r lent = cond (leb n (length lent)) (laid r lent) lent
written_by (Err a) r lent = lent

-- the same of a normalised text
unfoldable pub answer_of : Table → Text → ℕ → Answer
answer_of tb t room = fitted_by (measured_of tb t) room

unfoldable pub out_of : Table → Text → List ℕ → List ℕ
out_of tb t lent = written_by (measured_of tb t) (whole_row tb t) lent
