-- Capitals (paper 01, "Capitals"). In order: a run on one side of a place; how a capital is written. Assumes nothing.
use Rattle.std.specs.Prelude.{Bool, true, ◌&&◌, ◌||◌, cond, [], ◌∷◌}
use Rattle.rules.specs.Sorts.{capital, ◌is◌, is_letter}
use Rattle.rules.specs.Near.{Side, next, Near}
use Rattle.rules.specs.Signs.{Way, bare, one_capital, all_capitals}

-- "A run is a longest stretch of letters." It goes on to a side where a letter stands first.
unfoldable pub run_goes_on : Side → Bool
unfolding next
run_goes_on s = next is_letter s

-- the letters of the run on this side are all capitals
unfoldable pub only_capitals : Side → Bool
only_capitals [] = true
only_capitals (c ∷ s) = cond (is_letter c) (c is capital && only_capitals s) true

-- "If it has two letters or more and all are capitals, 46-46 stands once before it and the letters follow plain. Otherwise every capital in it
-- has 46 before it."
unfoldable pub capital_way : Near → Way
capital_way n =
    cond (n.capitals_before && n.capitals_after && (n.run_before || n.run_after)) (cond n.run_before bare all_capitals) one_capital
