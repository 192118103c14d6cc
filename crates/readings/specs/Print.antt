-- The print of a sign, from what a step has of it: "so a step gives one or two code points". Assumes nothing.
use Rattle.std.specs.Prelude.{Option, Some, None, [], ◌∷◌, ℕ}
use Rattle.rules.specs.Cells.{Text}

-- one code point, or two where there is one that has no cell and goes before it (`lead`)
abbrev pub points : Option ℕ → ℕ → Text
points None point = point ∷ []
points (Some lead) point = lead ∷ point ∷ []
