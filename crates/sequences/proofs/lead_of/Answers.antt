-- `lead_of`: each arm is a line of table 3-7, cited by its place; the two ways to `_` are the bytes between the first two lines, and those above the last. The
-- match asks for its four single numbers first. Assumes nothing.
use mathlib.Core.List.{[]}
use mathlib.Core.Path.{refl}
use native.Mathlib.Omega.{arith}
use lib.ListN.{take, drop}
use Rattle.sequences.specs.Forms.{forms}
use Rattle.sequences.proofs.Table.{begun, gap_is}
use Rattle.sequences.proofs.lead_of.Goals as goal

pub returns-in-224 : goal.returns-in-224
returns-in-224 c = rw c.begins.ensures (begun (take 2 forms) (drop 3 forms) 2 0xa0 0xbf 0xe0 0xe0 0xe0 c.args.first refl tt tt (omega arith) (omega arith) tt tt tt refl tt tt)

pub returns-in-237 : goal.returns-in-237
returns-in-237 c = rw c.begins-in-237.ensures (begun (take 4 forms) (drop 5 forms) 2 0x80 0x9f 0xe0 0xed 0xed c.args.first refl tt tt (omega arith) (omega arith) tt tt tt refl tt tt)

pub returns-in-240 : goal.returns-in-240
returns-in-240 c = rw c.begins-in-240.ensures (begun (take 6 forms) (drop 7 forms) 3 0x90 0xbf 0xf0 0xf0 0xf0 c.args.first refl tt tt (omega arith) (omega arith) tt tt tt refl tt tt)

pub returns-in-244 : goal.returns-in-244
returns-in-244 c = rw c.begins-in-244.ensures (begun (take 8 forms) (drop 9 forms) 3 0x80 0x8f 0xf0 0xf4 0xf4 c.args.first refl tt tt (omega arith) (omega arith) tt tt tt refl tt tt)

pub returns-in-0-to-127 : goal.returns-in-0-to-127
returns-in-0-to-127 c = rw c.begins-in-0-to-127.ensures (begun (take 0 forms) (drop 1 forms) 0 0x80 0xbf 0x00 0x00 0x7f c.args.first refl tt tt (omega arith) (omega arith) tt tt tt refl tt tt)

pub returns-in-194-to-223 : goal.returns-in-194-to-223
returns-in-194-to-223 c = rw c.begins-in-194-to-223.ensures (begun (take 1 forms) (drop 2 forms) 1 0x80 0xbf 0xc0 0xc2 0xdf c.args.first refl tt tt (omega arith) (omega arith) tt tt tt refl tt tt)

pub returns-in-225-to-236 : goal.returns-in-225-to-236
returns-in-225-to-236 c = rw c.begins-in-225-to-236.ensures (begun (take 3 forms) (drop 4 forms) 2 0x80 0xbf 0xe0 0xe1 0xec c.args.first refl tt tt (omega arith) (omega arith) tt tt tt refl tt tt)

pub returns-in-238-to-239 : goal.returns-in-238-to-239
returns-in-238-to-239 c = rw c.begins-in-238-to-239.ensures (begun (take 5 forms) (drop 6 forms) 2 0x80 0xbf 0xe0 0xee 0xef c.args.first refl tt tt (omega arith) (omega arith) tt tt tt refl tt tt)

pub returns-in-241-to-243 : goal.returns-in-241-to-243
returns-in-241-to-243 c = rw c.begins-in-241-to-243.ensures (begun (take 7 forms) (drop 8 forms) 3 0x80 0xbf 0xf0 0xf1 0xf3 c.args.first refl tt tt (omega arith) (omega arith) tt tt tt refl tt tt)

pub returns-in_default : goal.returns-in_default
returns-in_default c = λ bs. gap_is (take 1 forms) (drop 1 forms) 0x80 0xc1 c.args.first bs tt tt (omega arith) (omega arith)

pub returns-in_default-2 : goal.returns-in_default-2
returns-in_default-2 c = λ bs. gap_is forms [] 0xf5 c.args.first c.args.first bs tt tt (omega arith) (omega arith)
