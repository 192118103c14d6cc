-- `run_at`: a cell that has the run's field is read as the table says (`run_step`), and leaves the run's own mode; in a number a point is read as
-- `point_inside` does. Assumes nothing.
use mathlib.Core.Logic.{inr}
use mathlib.Core.Path.{◌≡◌, sym, ap, ◌∙◌}
use Prim.Native.Nat.{ℕ, ◌+◌}
use Rattle.std.specs.Prelude.{Some}
use Rattle.readings.specs.Modes.{number_of}
use Rattle.readings.specs.Fields.{field_in, run_point}
use Rattle.readings.specs.Words.{word_of}
use Rattle.readings.specs.Readings.{no_point, shown}
use Rattle.readings.proofs.Numbers.{number_small}
use Rattle.signs.specs.Runs.{between, home_of}
use Rattle.signs.proofs.Cases.{gives, some_shown, cell_low, run_step, home_run, home_small, in_number}
use Rattle.signs.proofs.run_at.Goals as goal

pub returns-in-Some : goal.returns-in-Some
returns-in-Some c =
    let m = number_of c.args.mode in
    let f = some_shown (field_in c.run_word-word.result c.args.run) c.in-Some.point (sym c.field_in.ensures ∙ c.in-Some.is) in
    let e : Some c.sign.result ≡ gives no_point c.in-Some.point (c.args.at + 1) (home_of m) c.args.opened =
    ap Some c.sign.ensures ∙ ap (λ (n : ℕ). gives no_point c.in-Some.point (c.args.at + 1) n c.args.opened) c.home_of.ensures in (
      home_of m,
      home_run m,
      inr (
        e ∙ run_step c.args.row.now c.args.at m c.args.opened c.in-Some.point c.args.run (number_small c.args.mode) c.requires.1 c.if-cell-gt-LAST_CELL.false c.requires.2 c.requires.3
            (f.0 ∙ ap (λ (v : ℕ). field_in v c.args.run) c.run_word-word.ensures) f.1,
        home_small (number_of c.args.mode) (number_small c.args.mode),
        (c.in-Some.point, c.args.at + 1, e),
      ),
    )

pub point_inside-requires : goal.point_inside-requires
point_inside-requires c = (
  c.requires.0,
  c.requires.1,
  sym c.in_ok-field_in-in-Num.was ∙ c.field_in-in-Num.ensures ∙ ap (λ (v : ℕ). shown (field_in v between)) c.run_word-word.ensures
      ∙ ap (λ (n : ℕ). shown (run_point (word_of n) between)) (cell_low c.args.row.now c.args.at c.requires.1 c.if-cell-gt-LAST_CELL.false),
)

pub returns-in_ok-field_in-in-Num : goal.returns-in_ok-field_in-in-Num
returns-in_ok-field_in-in-Num c = in_number c.args.row.now c.args.at (number_of c.args.mode) c.args.opened c.point_inside.result (ap number_of c.in-Num.is) c.point_inside.ensures
