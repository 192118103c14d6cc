-- `normal::normal_length` meets its contract: the print's length with what is counted is the length of the normalised print (`length_counted`), and the
-- lesser of that and the greatest number is reported. Assumes nothing.
use native.Mathlib.Omega.{arith}
use Rattle.normal.proofs.Counts.{length_counted}
use Rattle.normal.proofs.normal_length.Goals as goal

pub returns-then-print-ge-GREATEST_REPORTED : goal.returns-then-print-ge-GREATEST_REPORTED
returns-then-print-ge-GREATEST_REPORTED c = omega (arith, length_counted c.args.print.now)

pub returns : goal.returns
returns c = omega (arith, length_counted c.args.print.now)
