-- `is_capital`: the code points of the list and of the range are all that the sign list has of its capitals. Assumes nothing.
use mathlib.Core.Path.{◌≡◌, refl, sym, ◌∙◌}
use mathlib.Core.List.{List, [], ◌∷◌}
use Prim.Native.Nat.{ℕ}
use Rattle.rules.specs.Castilian.{castilian}
use Rattle.rules.specs.Cells.{dots}
use Rattle.rules.specs.Sorts.{class, is_digit_cell}
use Rattle.rules.specs.Rows.{sort_in}
use Rattle.turns.specs.Ahead.{is_capital}
use Rattle.turns.proofs.Points.{none_told, told, told_in, told_listed, told_below, told_above, known}
use Rattle.turns.proofs.is_capital.Goals as goal

points : List ℕ
points = 0xc1 ∷ 0xc9 ∷ 0xcd ∷ 0xd1 ∷ 0xd3 ∷ 0xda ∷ 0xdc ∷ []

is-it : (c : ℕ) → is_capital (class (sort_in castilian c)) ≡ told points 65 26 c
unfolding castilian sort_in class is_digit_cell dots points
is-it = known castilian is_capital points 65 26 tt tt tt refl

pub returns-in-65-to-90 : goal.returns-in-65-to-90
unfolding points
returns-in-65-to-90 c = sym (is-it c.args.point ∙ told_listed points 65 26 c.args.point tt c.in-65-to-90.in-65-to-90-own.keys1)

pub returns-in-65-to-90-2 : goal.returns-in-65-to-90-2
returns-in-65-to-90-2 c = sym (is-it c.args.point ∙ told_in points 65 26 c.args.point c.in-65-to-90.if-matches-own.false c.in-65-to-90.if-matches-2-own.true)

pub returns-in_default : goal.returns-in_default
unfolding points
returns-in_default c =
    sym (is-it c.args.point
    ∙ told_below points 65 26 c.args.point (none_told points c.args.point c.in_default.in_default-own.rest.1) c.in_default.if-matches-own.true)

pub returns-in_default-2 : goal.returns-in_default-2
unfolding points
returns-in_default-2 c =
    sym (is-it c.args.point
    ∙ told_above points 65 26 c.args.point (none_told points c.args.point c.in_default.in_default-own.rest.1) c.in_default.if-matches-2-own.false)
