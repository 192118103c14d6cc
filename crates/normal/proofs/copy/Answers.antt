-- `normal::copy` meets its contract: between two turns the text, with the normalised print of the rest laid behind what is written, is the text as it is to be in the
-- end (`Copying`). A turn lends the rest of the text to the writer of one code point (`copying_on`). Assumes nothing.
use Rattle.normal.proofs.Turns.{copying_start, copying_room, copying_on, copying_end}
use Rattle.normal.proofs.copy.Goals as goal

pub loop-point-init : goal.loop-point-init
loop-point-init c = copying_start c.args.print.now c.args.text.now

pub put_points-n-requires : goal.put_points-n-requires
put_points-n-requires c =
    let l = c.loop-point in
    copying_room c.args.print.now c.args.text.now l.text l.after_digit l.n l.point-index l.invariant c.requires c.loop-point-test.true

pub loop-point-preserved : goal.loop-point-preserved
loop-point-preserved c =
    let l = c.loop-point in
    copying_on c.args.print.now c.args.text.now l.text l.after_digit l.n l.point-index l.invariant c.requires c.loop-point-test.true _ _ _
    c.put_points-n.ensures.0 c.put_points-n.ensures.1 c.is_digit-after_digit.ensures

pub returns : goal.returns
returns c =
    let l = c.loop-point in
    copying_end c.args.print.now c.args.text.now l.text l.after_digit l.n l.point-index l.invariant c.requires c.loop-point-test.false
