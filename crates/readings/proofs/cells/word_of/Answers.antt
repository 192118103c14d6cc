-- `cells::word_of`: the table has the word of each byte. Assumes nothing.
use native.Mathlib.Omega.{arith}
use Rattle.readings.specs.declared.cells.TheConstants.{WORDS}
use Rattle.readings.specs.Words.{words, word_of}
use Rattle.readings.proofs.Words.{table_told}
use Rattle.readings.proofs.cells.word_of.Goals as goal

pub returns : goal.returns
unfolding words
returns c = table_told WORDS word_of 256 tt c.args.cell (omega (arith, c.ranges.cell.fits))
