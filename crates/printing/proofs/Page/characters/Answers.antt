-- `Page::characters`: what is still to come makes the whole. Assumes nothing.
use mathlib.Core.Path.{◌∙◌, sym, ap}
use mathlib.Core.List.{◌∷◌}
use Prim.Native.Nat.{◌+◌}
use lib.ListN.{drop}
use Rattle.encoding.specs.Encoding.{encoded_of}
use Rattle.printing.specs.Printed.{character_bytes}
use Rattle.printing.proofs.Printed.{page_as, mid_on, mid_done, rest_on, rest_none}
use Rattle.printing.proofs.Page.characters.Goals as goal

pub loop-item-preserved : goal.loop-item-preserved
loop-item-preserved g c =
    let shown = g.T.Character.shown in
    let rest = drop (c.loop-item.item-index + 1) c.args.items.now in
    mid_on c.args.self.now (character_bytes shown c.args.items.now) _ _ c.loop-item.invariant _ _ _
    (ap (character_bytes shown) (rest_on c.args.items.now c.loop-item.item-index c.item-item.result c.loop-item-test.true ∙ ap (λ (x : g.row.T.Denot). x ∷ rest) (sym c.item-item.is)))
    (page_as _ _ _ _ (ap encoded_of c.character.ensures) c.point.ensures)

pub returns : goal.returns
returns g c =
    mid_done c.args.self.now (character_bytes g.T.Character.shown c.args.items.now) _ _ c.loop-item.invariant
    (ap (character_bytes g.T.Character.shown) (rest_none c.args.items.now c.loop-item.item-index c.loop-item-test.false))
