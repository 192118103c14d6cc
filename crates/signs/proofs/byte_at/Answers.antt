-- `byte_at`: the byte at a place, and `no_cell` past the end. Assumes nothing.
use Rattle.signs.proofs.Cases.{byte_there, byte_past}
use Rattle.signs.proofs.byte_at.Goals as goal

pub returns-then-place-row : goal.returns-then-place-row
returns-then-place-row c = byte_there c.args.row.now c.args.place c.if-place-row.true

pub returns : goal.returns
returns c = byte_past c.args.row.now c.args.place c.if-place-row.false
