-- `first_high`: where the greatest byte from the place on is a cell, every byte is; and otherwise `position` finds the first that is none. Assumes nothing.
use mathlib.Core.Path.{◌∙◌, subst}
use mathlib.Core.List.{List}
use mathlib.Core.Logic.{⊎_elim}
use Prim.Native.Nat.{ℕ, ◌-◌, ◌≤◌, ◌<◌, zero-le}
use native.Mathlib.Omega.{arith}
use lib.ListN.{length, get_or, drop, length-drop}
use lib.Seq.{get_or-drop}
use borrow.Author.Rules.{rules}
use borrow.Author.Tests.{tests}
use Rattle.std.specs.Prelude.{None, Some}
use Rattle.std.proofs.lemmas.List.{take_all}
use Rattle.std.proofs.lemmas.Iterator.{YieldsList-from_slice, IsFirst-from_position}
use Rattle.rules.specs.Cells.{last_cell}
use Rattle.rules.proofs.Finite.{le_or_lt}
use Rattle.reader.proofs.first_high.Goals as goal

-- a byte behind the place is one of the rest of the row
of_rest : (row : List ℕ) (from m : ℕ) → from ≤ m → get_or (drop from row) (m - from) 0 ≤ last_cell → get_or row m 0 ≤ last_cell
of_rest row from m h l =
    subst (λ (i : ℕ). get_or row i 0 ≤ last_cell) (omega (arith, h)) (subst (λ (x : ℕ). x ≤ last_cell) (get_or-drop from row (m - from) 0) l)

pub returns-in-Some : goal.returns-in-Some
returns-in-Some c =
    let row = c.args.row.now in
    let from = c.args.from in
    let found = IsFirst-from_position _ _ (Some c.in-Some.length) (λ x. last_cell < x) (λ x. x ≤ last_cell) c.in-Some.ensures.ran (YieldsList-from_slice (drop from row) (c.iter.ensures.rest ∙ take_all (length row - from) (drop from row) (omega (arith, length-drop from row)))) (λ x q k. search (rules, tests)) (λ x q k. search (rules, tests)) in
    record {
      within = omega (arith, found.0, length-drop from row, c.requires.0);
      below = λ m h. ⊎_elim (λ j. of_rest row from m j (found.2 (m - from) 0 zero-le (omega (arith, h, j)))) (λ j. c.requires.1 m zero-le j) (le_or_lt from m);
      there = λ h. subst (λ (x : ℕ). last_cell < x) (get_or-drop from row c.in-Some.length 0) (found.1 0);
    }

pub returns-in-None : goal.returns-in-None
returns-in-None c =
    let row = c.args.row.now in
    let from = c.args.from in
    let found = IsFirst-from_position _ _ None (λ x. last_cell < x) (λ x. x ≤ last_cell) c.in-None.ensures.ran (YieldsList-from_slice (drop from row) (c.iter.ensures.rest ∙ take_all (length row - from) (drop from row) (omega (arith, length-drop from row)))) (λ x q k. search (rules, tests)) (λ x q k. search (rules, tests)) in
    record {
      within = omega arith;
      below = λ m h.
          ⊎_elim (λ j. of_rest row from m j (found (m - from) 0 zero-le (omega (arith, h, j, length-drop from row)))) (λ j. c.requires.1 m zero-le j) (le_or_lt from m);
      there = λ h. absurd (omega (arith, h));
    }
