-- `is_digit`: the code points of the range are all that the sign list has of its digits. Assumes nothing.
use mathlib.Core.Path.{◌≡◌, refl, sym, ◌∙◌}
use mathlib.Core.List.{List, []}
use Prim.Native.Nat.{ℕ}
use Rattle.rules.specs.Castilian.{castilian}
use Rattle.rules.specs.Cells.{dots}
use Rattle.rules.specs.Sorts.{class, is_digit_cell, is_digit}
use Rattle.rules.specs.Rows.{sort_in}
use Rattle.turns.proofs.Points.{told, told_in, told_below, told_above, known}
use Rattle.turns.proofs.is_digit.Goals as goal

points : List ℕ
points = []

is-it : (c : ℕ) → is_digit (class (sort_in castilian c)) ≡ told points 48 10 c
unfolding castilian sort_in class is_digit_cell dots points
is-it = known castilian is_digit points 48 10 tt tt tt refl

pub returns-in-48-to-57 : goal.returns-in-48-to-57
returns-in-48-to-57 c = sym (is-it c.args.point ∙ told_in points 48 10 c.args.point c.in-48-to-57.if-matches-own.false c.in-48-to-57.if-matches-2-own.true)

pub returns-in_default : goal.returns-in_default
unfolding points
returns-in_default c = sym (is-it c.args.point ∙ told_below points 48 10 c.args.point refl c.in_default.if-matches-own.true)

pub returns-in_default-2 : goal.returns-in_default-2
unfolding points
returns-in_default-2 c = sym (is-it c.args.point ∙ told_above points 48 10 c.args.point refl c.in_default.if-matches-2-own.false)
