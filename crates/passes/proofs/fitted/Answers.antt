-- `fitted`: n is the count of the signs' cells, so where they fit `write` may be asked. Assumes nothing.
use mathlib.Core.Path.{sym, ◌∙◌}
use Rattle.writing.specs.Joined.{joined}
use Rattle.passes.proofs.Fitting.{cramped, fitting}
use Rattle.passes.proofs.fitted.Goals as goal

pub returns-then-row-n : goal.returns-then-row-n
returns-then-row-n c =
    let s = c.before.before.before.before in
    cramped s.args.n (joined s.args.signs.now) s.args.row.now c.before.if-row-n.true

pub returns : goal.returns
returns c =
    let w = c.before.before.before in
    let e = w.before.before in
    let s = e.before.before.before in
    fitting s.args.n (joined s.args.signs.now) s.args.row.now e.if-row-n.false _ _ (w.write.ensures.0 ∙ sym s.requires) w.write.ensures.1
