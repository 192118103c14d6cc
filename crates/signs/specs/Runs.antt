-- Signs that follow one another alike, so that a loop of its own may read them. In order: the run that a mode is in; the mode
-- that a cell of it leaves; what a quick reading may answer. Assumes nothing.
use Rattle.std.specs.Prelude.{Option, Some, None, cond, List, [], ◌∷◌, ◌⊎◌, ◌≡◌, ℕ, ◌<◌, eqb}
use Rattle.rules.specs.Cells.{Row}
use Rattle.entries.specs.Chosen.{choose}
use Rattle.readings.specs.Modes as mode
use Rattle.readings.specs.Readings.{no_point, a_step, step_at}
use Rattle.readings.specs.declared.Step.{Step}

-- where the field of a run stands: the digits of a number or a denominator, the letters of a run of capitals, lower digits
abbrev pub figures : ℕ
figures = 0

abbrev pub capitals : ℕ
capitals = 16

abbrev pub lowers : ℕ
lowers = 32

abbrev pub no_run : ℕ
no_run = 64

-- and that of the points and commas between two digits
abbrev pub between : ℕ
between = 48

-- behind a point inside a number its digits go on
abbrev pub runs : List (ℕ × ℕ)
runs =
    (mode.num, figures)
    ∷ (mode.mid, figures)
    ∷ (mode.under, figures)
    ∷ (mode.whole2, capitals)
    ∷ (mode.low, lowers)
    ∷ []

unfoldable pub run_of : ℕ → ℕ
run_of m = choose runs m no_run

-- the field of a run, where there is one
abbrev pub field_of : ℕ → Option ℕ
field_of run = cond (eqb run no_run) None (Some run)

-- the mode that a digit or a letter of its run leaves: the mode itself, and behind a point inside a number that of the number
unfoldable pub home_of : ℕ → ℕ
home_of m = cond (eqb m mode.mid) mode.num m

-- A QUICK READING: nothing, which says nothing, or what the step is; then the sign leaves the mode n, which is one, and the pairs as they are
abbrev pub Quick : Row → ℕ → ℕ → ℕ → ℕ → Option Step → Type 0
Quick row at m n o s = (s ≡ None) ⊎ ((s ≡ step_at row at m o) × (n < mode.mode_count) × ((p : ℕ) × (k : ℕ) × (s ≡ Some (a_step no_point p k n o))))

-- IN A RUN: a quick reading whose sign leaves a mode of the same run
abbrev pub InRun : Row → ℕ → ℕ → ℕ → Option Step → Type 0
InRun row at m o s = (n : ℕ) × (run_of n ≡ run_of m) × Quick row at m n o s
