-- What the rules look at beside a place (paper 01, "Capitals", "Numbers", "Ordinals and fractions", number 5). A side is the classes of what
-- stands before a place, or after it, the nearest first. In order: directly beside; all the facts by name. What a fact that reaches
-- further means stands with its rule: `Capitals`, `Numbers`, `Forms`. Assumes nothing.
use Rattle.std.specs.Prelude.{Bool, false, List, [], ◌∷◌}
use Rattle.rules.specs.Sorts.{Class}

abbrev pub Side : Type 0
Side = List Class

-- "directly before", "directly after", "next to": such a class stands first on that side
unfoldable pub next : (Class → Bool) → Side → Bool
next f [] = false
next f (c ∷ s) = f c

pub record Near : Type 0 where
  -- directly before: a digit, U+2044, ª, a hyphen, U+2014
  pub after_digit : Bool
  pub after_bar : Bool
  pub after_feminine : Bool
  pub after_hyphen : Bool
  pub after_dash : Bool
  -- directly before: a point or comma that directly follows a digit of an ordinary number; the full stop of an ordinal
  pub after_point : Bool
  pub after_ordinal_stop : Bool
  -- before, perhaps with digits between: U+2044; such a point or comma
  pub in_denominator : Bool
  pub past_point : Bool
  -- before: the run goes on there; its letters there are all capitals
  pub run_before : Bool
  pub capitals_before : Bool
  -- directly after: a digit, º or ª
  pub before_digit : Bool
  pub before_ordinal : Bool
  -- after: the digits there end as the first part of an ordinal or a fraction
  pub form_ahead : Bool
  -- after: the run goes on there; its letters there are all capitals
  pub run_after : Bool
  pub capitals_after : Bool
