-- `cells::second_word`: the table has for each byte what it is as the second of a sign of two. Assumes nothing.
use native.Mathlib.Omega.{arith}
use Rattle.readings.specs.declared.cells.TheConstants.{SECOND_WORDS}
use Rattle.readings.specs.Words.{seconds, second_of}
use Rattle.readings.proofs.Words.{table_told}
use Rattle.readings.proofs.cells.second_word.Goals as goal

pub returns : goal.returns
unfolding seconds
returns c = table_told SECOND_WORDS second_of 256 tt c.args.cell (omega (arith, c.ranges.cell.fits))
