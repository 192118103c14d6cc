-- The fields of a word: one test of every sort of a sign list, and the law that it gives at each code point. Assumes nothing.
use mathlib.Core.Path.{◌≡◌}
use mathlib.Core.Bool.{Bool, true, ◌&&◌, ◌||◌, not, beq}
use mathlib.Core.List.{List, [], ◌∷◌}
use Prim.Native.Nat.{ℕ, ◌/◌, ◌%◌, ◌^◌, ◌<◌}
use native.Mathlib.Omega.{arith}
use lib.Dec.{T, eqb, ltb, eqb→eq, ltb→lt}
use Rattle.rules.specs.Cells.{dots}
use Rattle.rules.specs.Sorts.{Sort, Table, capital, class, class_number, ◌is◌, is_digit_cell}
use Rattle.rules.specs.Signs.{own_cells, lower_cells}
use Rattle.rules.specs.Pairs.{mark_of}
use Rattle.rules.specs.Rows.{sort_in}
use Rattle.rules.specs.Castilian.{castilian}
use Rattle.rules.proofs.Finite.{holds, Hold, hold, below, at_below, implies, and_left, and_right, beq_same}
use Rattle.entries.specs.States.{capitals, states}
use Rattle.entries.specs.SignWords.{sign_of}
use Rattle.entries.specs.Entries.{classes, class_in, mark_in, then_in, usual_in, then_of, usual_states, bits, marks, mark_number, usuals_of, word, entry_of}
use Rattle.entries.specs.Numbers.{state_number}
use Rattle.entries.specs.declared.State.{State}
use Rattle.entries.specs.declared.State.TheVariants.{Free, Capitals, Mixed, Number, Lowered, Ordinal, Barred, Under, Guarded, Hyphened, Dashed}
use Rattle.entries.proofs.Keys.{at_every}

-- what is written as usual in a state has no mark, and is of a class that is usual there
usual_right : ℕ → ℕ → ℕ → Bool
usual_right e u n = not (usual_in e n) || (eqb (mark_in e) 0 && eqb (u / 2 ^ (n % 64) % 2) 1)

facts : Sort → List Bool
facts s =
    eqb (class_in (word s)) (class_number (class s))
    ∷ eqb (mark_in (word s)) (mark_number (mark_of s))
    ∷ ltb (mark_in (word s)) marks
    ∷ eqb (then_in (word s)) (then_of (class s))
    ∷ below (usual_right (word s) (bits (usual_states (class s)))) states
    ∷ (not (class s is capital) || beq (usual_in (word s) capitals) true)
    ∷ ltb (class_in (word s)) classes
    ∷ ltb (then_in (word s)) states
    ∷ []

-- a table whose words have their fields
pub record Worded (tb : Table) : Type 0 where
  pub class_is : (c : ℕ) → class_in (entry_of tb c) ≡ class_number (class (sort_in tb c))
  pub mark_is : (c : ℕ) → mark_in (entry_of tb c) ≡ mark_number (mark_of (sort_in tb c))
  pub mark_small : (c : ℕ) → mark_in (entry_of tb c) < marks
  pub then_is : (c : ℕ) → then_in (entry_of tb c) ≡ then_of (class (sort_in tb c))
  pub usual_unmarked : (c s : ℕ) → s < states → usual_in (entry_of tb c) s ≡ true → mark_in (entry_of tb c) ≡ 0
  pub usual_class : (c s : ℕ) → s < states → usual_in (entry_of tb c) s ≡ true
      → bits (usual_states (class (sort_in tb c))) / 2 ^ (s % 64) % 2 ≡ 1
  pub capital_usual : (c : ℕ) → (class (sort_in tb c) is capital) ≡ true → usual_in (entry_of tb c) capitals ≡ true
  pub class_small : (c : ℕ) → class_in (entry_of tb c) < classes
  pub then_small : (c : ℕ) → then_in (entry_of tb c) < states

tested : (c : ℕ) → T (holds (facts (sort_in castilian c)))
unfolding facts usual_right word then_of usuals_of usual_states bits mark_number sign_of castilian class is_digit_cell own_cells lower_cells mark_of dots
tested c = at_every (λ s. holds (facts s)) castilian tt tt c

at : (c : ℕ) → Hold (facts (sort_in castilian c))
at c = hold (facts (sort_in castilian c)) (tested c)

usual_at_lem : (c s : ℕ) → s < states → usual_in (entry_of castilian c) s ≡ true
    → T (eqb (mark_in (entry_of castilian c)) 0 && eqb (bits (usual_states (class (sort_in castilian c))) / 2 ^ (s % 64) % 2) 1)
unfolding facts usual_right entry_of
usual_at_lem c s l e =
    implies (usual_in (entry_of castilian c) s)
    (eqb (mark_in (entry_of castilian c)) 0 && eqb (bits (usual_states (class (sort_in castilian c))) / 2 ^ (s % 64) % 2) 1)
    (rw e tt) (at_below (usual_right (entry_of castilian c) (bits (usual_states (class (sort_in castilian c))))) states (at c).1.1.1.1.0 s l)

pub worded : Worded castilian
unfolding facts entry_of
worded =
    record {
      class_is = λ c. eqb→eq (class_in (entry_of castilian c)) (class_number (class (sort_in castilian c))) (at c).0;
      mark_is = λ c. eqb→eq (mark_in (entry_of castilian c)) (mark_number (mark_of (sort_in castilian c))) (at c).1.0;
      mark_small = λ c. ltb→lt (mark_in (entry_of castilian c)) marks (at c).1.1.0;
      then_is = λ c. eqb→eq (then_in (entry_of castilian c)) (then_of (class (sort_in castilian c))) (at c).1.1.1.0;
      usual_unmarked =
          λ c s l e. eqb→eq (mark_in (entry_of castilian c)) 0
          (and_left (eqb (mark_in (entry_of castilian c)) 0) (eqb (bits (usual_states (class (sort_in castilian c))) / 2 ^ (s % 64) % 2) 1) (usual_at_lem c s l e));
      usual_class =
          λ c s l e. eqb→eq (bits (usual_states (class (sort_in castilian c))) / 2 ^ (s % 64) % 2) 1
          (and_right (eqb (mark_in (entry_of castilian c)) 0) (eqb (bits (usual_states (class (sort_in castilian c))) / 2 ^ (s % 64) % 2) 1) (usual_at_lem c s l e));
      capital_usual =
          λ c e. beq_same (usual_in (entry_of castilian c) capitals) true
          (implies (class (sort_in castilian c) is capital) (beq (usual_in (entry_of castilian c) capitals) true) (rw e tt) (at c).1.1.1.1.1.0);
      class_small = λ c. ltb→lt (class_in (entry_of castilian c)) classes (at c).1.1.1.1.1.1.0;
      then_small = λ c. ltb→lt (then_in (entry_of castilian c)) states (at c).1.1.1.1.1.1.1.0;
    }

-- a state of the code is one of them
pub state_small : (s : State) → state_number s < states
state_small Free = omega arith
state_small Capitals = omega arith
state_small Mixed = omega arith
state_small Number = omega arith
state_small Lowered = omega arith
state_small Ordinal = omega arith
state_small Barred = omega arith
state_small Under = omega arith
state_small Guarded = omega arith
state_small Hyphened = omega arith
state_small Dashed = omega arith
