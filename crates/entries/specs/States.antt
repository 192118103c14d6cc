-- Where a place stands, as far as the way of writing it depends on what stands before and ahead: the states of the transcriber, by number.
-- Which name of the code has which number: specs/Numbers.antt. What a state means in the rules' words is `Stages.stage_at` of the crate `deeds`.
-- Assumes nothing.
use Rattle.std.specs.Prelude.{ℕ}

-- nothing is begun that a rule asks for
abbrev pub free : ℕ
free = 0

-- in a run: of capitals only; with a small letter, or of one letter
abbrev pub capitals : ℕ
capitals = 1

abbrev pub mixed : ℕ
mixed = 2

-- in an ordinary number
abbrev pub number : ℕ
number = 3

-- in the digits that a form begins with, up to its full stop or U+2044; directly before its º or ª; directly after its U+2044
abbrev pub lowered : ℕ
lowered = 4

abbrev pub ordinal : ℕ
ordinal = 5

abbrev pub barred : ℕ
barred = 6

-- in a denominator
abbrev pub under : ℕ
under = 7

-- directly after a point or comma that ends a number, or after ª: a to j would share its cells
abbrev pub guarded : ℕ
guarded = 8

-- directly after a hyphen; after U+2014
abbrev pub hyphened : ℕ
hyphened = 9

abbrev pub dashed : ℕ
dashed = 10

-- how many there are
abbrev pub states : ℕ
states = 11
