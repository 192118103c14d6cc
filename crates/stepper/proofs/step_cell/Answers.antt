-- `step_cell`: the look-up says what the cell is alone, and so whether the row has a text, of one sign (`one_none`, `one_alone`). Assumes nothing.
use mathlib.Core.Path.{◌≡◌, sym, ap, ◌∙◌}
use mathlib.Core.List.{List, [], ◌∷◌, append-nil}
use mathlib.Core.Option.{none}
use Prim.Native.Nat.{ℕ, ◌-◌}
use native.Mathlib.Omega.{arith}
use lib.ListN.{length}
use Rattle.std.specs.Prelude.{None}
use Rattle.rules.specs.Signs.{cells_of}
use Rattle.rules.specs.Screen.{sign_at}
use Rattle.walks.proofs.Walking.{sign_first, sign_behind, sign_none}
use Rattle.reader.proofs.OneCell.{Lone, none_shown, alone_shown, lone_told}
use Rattle.reader.proofs.Answering.{unread_from_front}
use Rattle.stepper.proofs.Answering.{step_still, step_sign}
use Rattle.stepper.proofs.step_cell.Goals as goal

-- the cell is nothing alone
pub unread-requires : goal.unread-requires
unread-requires c =
    unread_from_front c.args.row.now (omega (arith, c.requires))
    (none_shown c.args.row.now c.requires (sym c.point_of.ensures ∙ c.in_default.is))

-- it is something, and nothing stands behind it
none-behind : {r : List ℕ} {p : ℕ} (l : Lone r p) (n : ℕ) → (n ≡ 0 → ⊥) → sign_at (l.sign ∷ []) n ≡ none
none-behind {p = p} l n far =
    let wide : length (cells_of (l.sign ∷ [])) ≡ 1 = ap length (append-nil l.sign.taken) ∙ l.has in
    sign_behind 1 0 (l.sign ∷ []) [] n (omega arith, omega (arith, l.has), (None, p, l.shows), tt) (omega (arith, wide, far))
    ∙ sign_none (n - length (cells_of (l.sign ∷ [])))

pub returns-then-place-ne0 : goal.returns-then-place-ne0
returns-then-place-ne0 c =
    let l = alone_shown c.args.row.now c.requires (sym c.point_of.ensures ∙ c.in-Some.is) in
    step_still c.args.row.now (omega (arith, c.requires)) (lone_told l) c.args.place (omega arith) (none-behind l c.args.place c.if-place-ne0.true)

pub returns : goal.returns
returns c =
    let l = alone_shown c.args.row.now c.requires (sym c.point_of.ensures ∙ c.in-Some.is) in
    step_sign c.args.row.now (omega (arith, c.requires)) (lone_told l) c.args.place (omega arith) l.sign (sign_first l.sign [] c.args.place (omega (arith, c.if-place-ne0.false))) _
    l.shows (omega (arith, l.has, c.if-place-ne0.false))
