-- From what a step's walks find to its promise. In order: a row that is refused; a row that is read. All over plain values. Assumes nothing.
use mathlib.Core.Path.{◌≡◌, sym, ap, ◌∙◌, subst}
use mathlib.Core.List.{List}
use mathlib.Core.Option.{Option, none, some}
use Prim.Native.Nat.{ℕ, ◌+◌, ◌≤◌}
use lib.ListN.{length}
use Rattle.rules.specs.Cells.{Text, Row}
use Rattle.rules.specs.Signs.{Sign, print_of}
use Rattle.rules.specs.Refusals.{longest_text, longest_row}
use Rattle.rules.specs.Screen.{sign_at, shown_by, shows, Stepped, stepped, stayed}
use Rattle.rules.specs.Castilian.{castilian}
use Rattle.readings.specs.Left.{left}
use Rattle.readings.specs.Print.{points}
use Rattle.std.specs.Prelude.{Some, None, Ok, Err}
use Rattle.reader.specs.declared.Refusal.{Refusal}
use Rattle.reader.specs.Passes.{RefusesRow}
use Rattle.reader.proofs.Whole.{left_text, Told}
use Rattle.reader.proofs.Answering.{accepted}
use Rattle.stepper.specs.declared.Sign as stepper
use Rattle.stepper.specs.Promise.{Shows, sign_there, no_sign_there, row_refused}

module _ (r : Row) where
  pub step_refused : (a : Refusal) → RefusesRow castilian r a → (place : ℕ) → Shows castilian r place (Err a)
  step_refused a h place = row_refused a h.0 h.1 (stayed h.0 h.2)

  -- A ROW THAT IS READ: what walks told of it
  module _ (short : length r ≤ longest_row) {c : ℕ} (told : Told (left 0 0 r) c) where
    at_place : (place : ℕ) → c ≤ longest_text → (x : Option Sign) → sign_at told.signs place ≡ x → Stepped castilian r place (shows (shown_by x place))
    at_place place h x e =
        subst (λ (y : Option Sign). Stepped castilian r place (shows (shown_by y place)))
        (ap (λ (ss : List Sign). sign_at ss place) (left_text r told.signs told.are).1 ∙ e) (stepped (print_of told.signs) (accepted r short told h))

    pub step_still : (place : ℕ) → c ≤ longest_text → sign_at told.signs place ≡ none → Shows castilian r place (Ok None)
    step_still place h e = no_sign_there (at_place place h none e)

    pub step_sign : (place : ℕ) → c ≤ longest_text → (g : Sign) → sign_at told.signs place ≡ some g → (s : stepper.Sign) → g.shown ≡ points s.lead s.point
        → s.next ≡ place + length g.taken → Shows castilian r place (Ok (Some s))
    step_sign place h g e s print next =
        sign_there s
        (subst (λ (n : ℕ). Stepped castilian r place (shows (record { points = points s.lead s.point; next = n }))) (sym next)
        (subst (λ (u : Text). Stepped castilian r place (shows (record { points = u; next = place + length g.taken }))) print (at_place place h (some g) e)))
