-- What the table means in the rules' words. In order: the state of a place, from what stands before it and from it on; the deed there, as the table
-- has it and as the rules have it. Past, future and `rule` are those of the rules' proofs (crates/rules/proofs/Sides.antt):
-- inner promises may speak of them, the public one does not. Assumes nothing.
use Rattle.std.specs.Prelude.{true, cond, ◌⊎◌, ◌≡◌, ℕ, ◌+◌, ◌*◌, ◌%◌, eqb, get_or}
use Rattle.rules.specs.Sorts.{Class, a_bar, ◌is◌}
use Rattle.rules.specs.Signs.{Way, bare, one_capital, all_capitals, separated, first_digit, first_lower, lower, denominator, ordinal_mark, inside}
use Rattle.rules.specs.Places.{lacks_sign, breaks_pair, outside_form, shares_cells, Outcome, fault, silent, sign}
use Rattle.rules.proofs.States.{Past, free, lone, caps, mixed, plain_on, past_on, under_one, under, past_bar, past_stop, past_point, past_dash, past_hyphen, past_feminine, past_percent, Future}
use Rattle.rules.proofs.Sides.{caps_next, mixed_next, form_next, digit_next, mark_next}
use Rattle.entries.specs.States as state
use Rattle.deeds.specs.Acts as act
use Rattle.deeds.specs.Deeds.{deeds}

-- THE STATE: after what stands before a place, with what stands from it on in view
unfoldable pub stage_at : Past → Future → ℕ
stage_at free f = state.free
stage_at lone f = cond (caps_next f) state.capitals state.mixed
stage_at caps f = cond (mixed_next f) state.mixed state.capitals
stage_at mixed f = state.mixed
stage_at plain_on f = cond (form_next f) state.lowered state.number
stage_at past_on f = state.number
stage_at under_one f = state.under
stage_at under f = state.under
stage_at past_bar f = state.barred
stage_at past_stop f = cond (mark_next f) state.ordinal (cond (digit_next f) state.number state.guarded)
stage_at past_point f = cond (digit_next f) state.number state.guarded
stage_at past_dash f = state.dashed
stage_at past_hyphen f = state.hyphened
stage_at past_feminine f = state.guarded
stage_at past_percent f = state.free

-- THE DEED: what the table says. (There is room for 16 states and 16 classes.)
unfoldable pub deed_of : ℕ → ℕ → ℕ
unfolding deeds
deed_of s c = get_or deeds (s % 16 * 16 + c % 16) act.no_sign

-- the questions, decided by what follows
unfoldable pub settled_by : ℕ → Future → ℕ
settled_by d f =
    cond (eqb d act.begins_run) (cond (caps_next f) act.first_of_capitals act.capital_alone)
    (cond (eqb d act.begins_number) (cond (form_next f) act.first_of_form act.first_of_number)
    (cond (eqb d act.number_point) (cond (digit_next f) act.point_inside act.point_after)
    (cond (eqb d act.one_under) (cond (digit_next f) act.digit_under act.shares_cells) d)))

-- the same, with a run supposed: its first capital is taken for that of a run of capitals only, though a small letter is in it
abbrev pub Supposed : ℕ → Future → ℕ → Type 0
Supposed d f r = (r ≡ settled_by d f) ⊎ ((r ≡ act.first_of_capitals) × (d ≡ act.begins_run) × (mixed_next f ≡ true))

-- the number of a way of writing: a denominator's first digit, º or ª of an ordinal and a point inside a number have their own cells
unfoldable pub way_of : Way → ℕ
way_of bare = act.bare_way
way_of one_capital = act.one_capital_way
way_of all_capitals = act.all_capitals_way
way_of separated = act.separated_way
way_of first_digit = act.first_digit_way
way_of first_lower = act.first_lower_way
way_of lower = act.lower_way
way_of denominator = act.bare_way
way_of ordinal_mark = act.bare_way
way_of inside = act.bare_way

-- the way of writing no cell: U+2044 has none of its own, the full stop of an ordinal has one
unfoldable pub silent_as : Class → ℕ
silent_as c = cond (c is a_bar) act.bare_way act.silent_way

-- the deed of a class and an outcome of the rules, before a place of this state. (No place has `breaks_pair` for its outcome.)
unfoldable pub act_of : Class → Outcome → ℕ → ℕ
unfolding silent_as
act_of c (fault lacks_sign) s = act.no_sign
act_of c (fault breaks_pair) s = act.no_sign
act_of c (fault outside_form) s = act.outside_form
act_of c (fault shares_cells) s = act.shares_cells
act_of c silent s = s * act.ways + silent_as c
act_of c (sign w) s = s * act.ways + way_of w
