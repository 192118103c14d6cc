-- `transcribe_with`: what the first pass found, fitted or refused. The signs that it drew have the cells of the text's row. Assumes nothing.
use mathlib.Core.Path.{sym, ap, ◌∙◌, subst}
use mathlib.Core.List.{List}
use Prim.Native.Nat.{ℕ}
use lib.ListN.{length, take}
use Rattle.std.proofs.lemmas.Result.{err_from_is_err_and}
use Rattle.rules.specs.Castilian.{castilian}
use Rattle.rules.proofs.Plain.{plainly}
use Rattle.writing.specs.Joined.{joined}
use Rattle.passes.specs.Passes.{Answer, Drawn}
use Rattle.passes.proofs.Fitting.{measured_cells, measured_fitted, measured_refused}
use Rattle.passes.proofs.transcribe_with.Goals as goal

pub fitted-requires : goal.fitted-requires
fitted-requires g c =
    let text : List ℕ = plainly c.args.text.now in
    let signs : List ℕ = take (length c.args.text.now) c.draw.new.signs in
    let drawn = subst (λ (m : Answer). Drawn m castilian text signs) (c.in_ok-n.was) c.draw.ensures.1 in
    (measured_cells castilian text c.in_ok-n.n (sym c.draw.ensures.0 ∙ c.in_ok-n.was)).1 ∙ ap length (sym drawn)

pub returns : goal.returns
returns g c =
    let text : List ℕ = plainly c.args.text.now in
    let signs : List ℕ = take (length c.args.text.now) c.draw.new.signs in
    let drawn = subst (λ (m : Answer). Drawn m castilian text signs) (c.in_ok-n.was) c.draw.ensures.1 in
    measured_fitted castilian text c.args.row.now c.in_ok-n.n (joined signs) _ _ (sym (c.in_ok-n.was) ∙ c.draw.ensures.0) drawn c.fitted.ensures

pub returns-in_err-n : goal.returns-in_err-n
returns-in_err-n g c =
    let p = err_from_is_err_and c.from_residual.result c.from_residual.ensures.1 in
    rw (p.1, p.2)
    (measured_refused castilian (plainly c.args.text.now) c.args.row.now _ (sym (c.in_err-n.was) ∙ c.draw.ensures.0))
