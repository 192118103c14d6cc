-- What a walk over a part of a row tells. In order: what any walk tells; one to the row's end; one over the whole row, and what it wrote. All over plain values.
-- Assumes nothing.
use mathlib.Core.Path.{◌≡◌, refl, sym, ap, ◌∙◌, subst}
use mathlib.Core.Bool.{Bool, true, false, ◌&&◌, cond}
use mathlib.Core.List.{List, [], ◌++◌, append-nil}
use mathlib.Core.Logic.{◌⊎◌, ⊎_elim}
use mathlib.Core.Option.{Option, none, some}
use Prim.Native.Nat.{ℕ, ◌+◌, ◌≤◌, zero-le}
use native.Mathlib.Omega.{arith}
use lib.Dec.{eqb}
use lib.ListN.{length, take, drop}
use Rattle.rules.specs.Cells.{Text, Row}
use Rattle.rules.specs.Signs.{Sign, print_of}
use Rattle.rules.specs.Rows.{Reads, signs_of}
use Rattle.rules.specs.Refusals.{longest_text, longest_row}
use Rattle.rules.specs.Answers.{ProperRow, ReadsAs}
use Rattle.rules.specs.Castilian.{castilian}
use Rattle.rules.proofs.Finite.{nothing}
use Rattle.rules.proofs.Machine.{at_rest}
use Rattle.rows.specs.Laid.{laid}
use Rattle.rows.proofs.Laid.{front}
use Rattle.readings.specs.Modes.{mode_of, number_of}
use Rattle.readings.specs.Left.{left}
use Rattle.readings.proofs.Turning.{end_left}
use Rattle.std.specs.Prelude.{Result, Ok, Err}
use Rattle.walks.specs.Walks.{Wrote, add_signs, CellsFrom, LeadsOn, Goes, goes_on, goes_nowhere}
use Rattle.walks.specs.declared.Stand.{Stand}
use Rattle.walks.specs.declared.NoText.{NoText}
use Rattle.reader.specs.Passes.{at_start}
use Rattle.walks.proofs.Walking.{adds_some, adds_none}
use Rattle.reader.proofs.Whole.{left_text, left_of_text, text_of_left, no_longer, Told}

-- WHAT ONE WALK TELLS
pub record Went (row : Row) (stop : ℕ) (v w : Stand) : Type 0 where
  pub signs : List Sign
  pub leads : LeadsOn row stop v w signs
  pub reached : stop ≤ w.at
  pub count : w.count ≡ v.count + length (print_of signs)

went_on : {row : Row} {stop : ℕ} {v w : Stand} {t t' : List ℕ} → Goes row stop v t t' (Ok w)
    → (g : Went row stop v w) × Wrote t t' v.count (print_of g.signs)
went_on (goes_on ss w leads reached count wrote) = (record { signs = ss; leads = leads; reached = reached; count = count }, wrote)

pub went : {row : Row} {stop : ℕ} {v w : Stand} {t t' : List ℕ} {f : Result Stand NoText} → Goes row stop v t t' f → f ≡ Ok w
    → (g : Went row stop v w) × Wrote t t' v.count (print_of g.signs)
went {row} {stop} {v} {w} {t} {t'} g e = went_on (subst (Goes row stop v t t') e g)

pub goes_same : {row : Row} {stop : ℕ} {v : Stand} {t t' : List ℕ} {x : Result Stand NoText} → Goes row stop v t t' x → length t' ≡ length t
goes_same (goes_on ss w leads reached count wrote) = wrote.0
goes_same (goes_nowhere k within cells e same) = same

-- from the row's front
pub from_start : {row : Row} {stop : ℕ} {v : Stand} {t t' : List ℕ} {f : Result Stand NoText} → v ≡ at_start → Goes row stop v t t' f → Goes row stop at_start t t' f
from_start {row} {stop} {v} {t} {t'} {f} e g = subst (λ (x : Stand). Goes row stop x t t' f) e g

-- and where it comes nowhere: nothing is left, and up to where the bytes are cells
pub record Lost (row : Row) (v : Stand) (k : ℕ) : Type 0 where
  pub none_left : left (number_of v.mode) v.opened (drop v.at row) ≡ none
  pub within : k ≤ length row
  pub cells : CellsFrom row v.at k

lost_at : {row : Row} {stop : ℕ} {v : Stand} {t t' : List ℕ} {x : NoText} → Goes row stop v t t' (Err x) → Lost row v x.cells
lost_at (goes_nowhere k within cells e same) = record { none_left = e; within = within; cells = cells }

pub lost : {row : Row} {stop : ℕ} {v : Stand} {t t' : List ℕ} {x : NoText} {f : Result Stand NoText} → Goes row stop v t t' f → f ≡ Err x → Lost row v x.cells
lost {row} {stop} {v} {t} {t'} g e = lost_at (subst (Goes row stop v t t') e g)

-- A WALK TO THE ROW'S END
module _ {row : Row} {v w : Stand} (g : Went row (length row) v w) where
  ending : (b : Bool) → (at_rest (mode_of (number_of w.mode)) && eqb w.opened 0) ≡ b
      → left (number_of v.mode) v.opened (drop v.at row) ≡ add_signs g.signs (cond b (some []) none)
  ending b e =
      g.leads.left_is
      ∙ ap (add_signs g.signs) (end_left row w.at (number_of w.mode) w.opened g.reached g.leads.opens ∙ ap (λ (x : Bool). cond x (some []) none) e)

  pub to_end : (at_rest (mode_of (number_of w.mode)) && eqb w.opened 0) ≡ true → left (number_of v.mode) v.opened (drop v.at row) ≡ some g.signs
  to_end e = ending true e ∙ adds_some g.signs [] ∙ ap some (append-nil g.signs)

  pub not_to_end : (at_rest (mode_of (number_of w.mode)) && eqb w.opened 0) ≡ false → left (number_of v.mode) v.opened (drop v.at row) ≡ none
  not_to_end e = ending false e ∙ adds_none g.signs

-- the whole row at once: its bytes are cells
module _ {row : Row} {w : Stand} (g : Went row (length row) at_start w) where
  pub proper_whole : length row ≤ longest_row → ProperRow row
  proper_whole short = record { short = short; cells = λ i h. g.leads.cells i zero-le (omega (arith, h, g.reached)) }

  abbrev pub told_whole : (at_rest (mode_of (number_of w.mode)) && eqb w.opened 0) ≡ true → Told (left 0 0 row) w.count
  told_whole e = record { signs = g.signs; are = to_end g e; count = omega (arith, g.count) }

-- what it wrote, where there was room: for a code point a cell, or for a text of the longest
pub room_whole : (row : Row) {c : ℕ} → Told (left 0 0 row) c → (t : List ℕ) → (length row ≤ length t) ⊎ (longest_text ≤ length t) → c ≤ longest_text → c ≤ length t
room_whole row told t room h =
    let text = (left_text row told.signs told.are).0 in
    ⊎_elim (λ l. omega (arith, told.count, no_longer row (print_of told.signs) text, l)) (λ l. omega (arith, h, l)) room

pub written_whole : {row : Row} {w : Stand} (g : Went row (length row) at_start w) (t t' : List ℕ) → Wrote t t' 0 (print_of g.signs) → w.count ≤ length t
    → take w.count t' ≡ print_of g.signs
written_whole {w = w} g t t' wrote room = front (print_of g.signs) t t' w.count (omega (arith, g.count)) (wrote.1 (omega (arith, g.count, room)))

-- and of a text that has the row
pub room_text : {row : Row} {x : Text} → ReadsAs castilian row x → (room : ℕ) → (length row ≤ room) ⊎ (longest_text ≤ room) → length x ≤ room
room_text {row} {x} h room = ⊎_elim (λ l. omega (arith, no_longer row x h.reads, l)) (λ l. omega (arith, h.short, l))

pub written_text : {row : Row} {t t' : List ℕ} {f : Result Stand NoText} → Goes row (length row) at_start t t' f
    → (x : Text) → Reads castilian row x → length x ≤ length t → take (length x) t' ≡ x
written_text {row} {t} {t'} (goes_on ss w leads reached count wrote) x h room = go (at_rest (mode_of (number_of w.mode)) && eqb w.opened 0) refl
  where
    gone : Went row (length row) at_start w
    gone = record { signs = ss; leads = leads; reached = reached; count = count }

    go : (b : Bool) → (at_rest (mode_of (number_of w.mode)) && eqb w.opened 0) ≡ b → take (length x) t' ≡ x
    go true e =
        let is : print_of ss ≡ x = text_of_left row ss (to_end gone e) x h in
        front x t t' (length x) refl (subst (λ (p : Text). t' ≡ take 0 t ++ laid p (drop 0 t)) is (wrote.1 (omega (arith, ap length is, room))))
    go false e = let z : ◌≡◌ {A = Option (List Sign)} none (some (signs_of castilian x)) = sym (not_to_end gone e) ∙ left_of_text row x h in nothing z
written_text {row} (goes_nowhere k within cells e same) x h room =
    let z : ◌≡◌ {A = Option (List Sign)} none (some (signs_of castilian x)) = sym e ∙ left_of_text row x h in nothing z
