-- `pairs_after`: a mark may not stand where its kind is open and it is the opener, nor where neither is so (proofs/Pairing.antt).
-- Assumes nothing.
use mathlib.Core.Path.{ap, ◌∙◌}
use Rattle.std.specs.Prelude.{Some}
use Rattle.pairs.proofs.Pairing.{pairs_broken, pairs_stand}
use Rattle.pairs.proofs.pairs_after.Goals as goal

pub returns-then-is_open-opener : goal.returns-then-is_open-opener
returns-then-is_open-opener c =
    let a = c.before in
    let s = a.before in
    pairs_broken s.args.opened s.args.mark a.is_open.result a.is_open.ensures c.if-is_open-opener.true

pub returns : goal.returns
returns c =
    let a = c.before.before in
    let s = a.before in
    ap Some c.turned.ensures ∙ pairs_stand s.args.opened s.args.mark a.is_open.result a.is_open.ensures c.before.if-is_open-opener.false
