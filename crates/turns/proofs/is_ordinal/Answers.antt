-- `is_ordinal`: the two code points are all that the sign list has of º and ª. Assumes nothing.
use mathlib.Core.Path.{◌≡◌, refl, sym, ◌∙◌}
use mathlib.Core.List.{List, [], ◌∷◌}
use Prim.Native.Nat.{ℕ, zero-le}
use Rattle.rules.specs.Castilian.{castilian}
use Rattle.rules.specs.Cells.{dots}
use Rattle.rules.specs.Sorts.{class, is_digit_cell, is_ordinal}
use Rattle.rules.specs.Rows.{sort_in}
use Rattle.turns.proofs.Points.{none_told, told, told_listed, told_above, known}
use Rattle.turns.proofs.is_ordinal.Goals as goal

points : List ℕ
points = 0xaa ∷ 0xba ∷ []

is-it : (c : ℕ) → is_ordinal (class (sort_in castilian c)) ≡ told points 0 0 c
unfolding castilian sort_in class is_digit_cell dots points
is-it = known castilian is_ordinal points 0 0 tt tt tt refl

pub returns-in-186 : goal.returns-in-186
unfolding points
returns-in-186 c = sym (is-it c.args.point ∙ told_listed points 0 0 c.args.point tt c.in-186.is)

pub returns-in_default : goal.returns-in_default
unfolding points
returns-in_default c = sym (is-it c.args.point ∙ told_above points 0 0 c.args.point (none_told points c.args.point c.in_default.in_default-own.rest.1) zero-le)
