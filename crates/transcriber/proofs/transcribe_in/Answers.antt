-- `transcribe_in`: what `normalise` answered tells whether the print is too long (`tells`); if not, what `transcribe_normal` is lent is the normalised
-- print, whose answer is the print's. Assumes nothing.
use mathlib.Core.Path.{sym, ap, ◌∙◌, subst}
use mathlib.Core.List.{List}
use Prim.Native.Nat.{ℕ, ◌≤◌}
use native.Mathlib.Omega.{arith}
use lib.ListN.{length}
use Rattle.std.specs.Prelude.{Ok}
use Rattle.rules.specs.Castilian.{castilian}
use Rattle.rules.specs.Normal.{normal_of}
use Rattle.rules.specs.Refusals.{longest_text}
use Rattle.rules.proofs.Plain.{plainly, plainly_normal}
use Rattle.rules.proofs.Demands.{normal_twice}
use Rattle.rows.proofs.Laid.{front, length_laid}
use Rattle.normal.proofs.Lengths.{tells}
use Rattle.transcriber.proofs.Answering.{carried, promised_long}
use Rattle.transcriber.proofs.transcribe_in.Goals as goal

pub slice_bounds-transcribe_normal-end : goal.slice_bounds-transcribe_normal-end
slice_bounds-transcribe_normal-end c =
    let p = c.args.print.now in
    let m = tells p c.args.text.now c.normalise.new.text (Ok c.in-Ok.n) c.requires (sym c.in-Ok.is ∙ c.normalise.ensures.0) c.normalise.ensures.1 in
    omega (arith, m.1, c.requires m.0, ap length m.2, length_laid (normal_of p) c.args.text.now (c.requires m.0))

pub slice_bounds-transcribe_normal-end-in-Ok : goal.slice_bounds-transcribe_normal-end-in-Ok
slice_bounds-transcribe_normal-end-in-Ok c =
    let p = c.args.print.now in
    let m = tells p c.args.text.now c.normalise.new.text (Ok c.in-Ok.n) c.requires (sym c.in-Ok.is ∙ c.normalise.ensures.0) c.normalise.ensures.1 in
    m.1 ∙ ap length (sym (front (normal_of p) c.args.text.now c.normalise.new.text c.in-Ok.n m.1 m.2))

pub transcribe_normal-requires : goal.transcribe_normal-requires
transcribe_normal-requires c =
    let m = tells c.args.print.now c.args.text.now c.normalise.new.text (Ok c.in-Ok.n) c.requires (sym c.in-Ok.is ∙ c.normalise.ensures.0) c.normalise.ensures.1 in
    subst (λ (t : List ℕ). length t ≤ longest_text) (sym (front (normal_of c.args.print.now) c.args.text.now c.normalise.new.text c.in-Ok.n m.1 m.2)) m.0

pub returns-in-Ok : goal.returns-in-Ok
returns-in-Ok c =
    let p = c.args.print.now in
    let m = tells p c.args.text.now c.normalise.new.text (Ok c.in-Ok.n) c.requires (sym c.in-Ok.is ∙ c.normalise.ensures.0) c.normalise.ensures.1 in
    let text_is = front (normal_of p) c.args.text.now c.normalise.new.text c.in-Ok.n m.1 m.2 in
    carried castilian p c.args.row.now m.0 _ (ap plainly text_is ∙ plainly_normal (normal_of p) (normal_twice p)) _ _ c.transcribe_normal.ensures

pub returns-in-Err : goal.returns-in-Err
returns-in-Err c =
    let p = c.args.print.now in
    let m = tells p c.args.text.now c.normalise.new.text _ c.requires (sym c.in-Err.is ∙ c.normalise.ensures.0) c.normalise.ensures.1 in
    promised_long castilian p c.args.row.now c.in-Err.no_room.length m.0 m.1
