-- What the functions of `transcribe` and of `read` promise for a line: what is printed at the front of `out` is what the line's answer is printed as; every other lent element is said as well: the code
-- points of the line stand at the front of `points`, and the row, or the text, is as the library's own promise says. Not here: what is printed for a line (crate `printouts`), what `steps` prints (crate
-- `proofing`). Assumes nothing.
use Rattle.std.specs.Prelude.{List, ◌≡◌, ℕ, length}
use Rattle.rows.specs.Laid.{laid}
use Rattle.rules.specs.Castilian.{castilian}
use Rattle.desk.specs.Shows.{Shows, ShowsRead}
use Rattle.desk.specs.declared.Shown.{Shown}
use Rattle.utf8.specs.Decoding.{decoded}
use Rattle.printing.specs.Printed.{Prints}
use Rattle.patterns.specs.Patterns.{row_of}
use Rattle.printouts.specs.Lines.{TranscribePrints, ReadPrints}

pub record TranscribesLine (line points row out : List ℕ) (r : ℕ) (points' row' out' : List ℕ) : Type 0 where
  pub decoding : points' ≡ laid (decoded line) points
  pub shown : Shown
  pub transcribing : Shows castilian (decoded line) row shown row'
  pub printed : List ℕ
  pub right : TranscribePrints (length row) line printed
  pub prints : Prints out 0 printed r out'

pub record ReadsLine (line points row text out : List ℕ) (r : ℕ) (points' row' text' out' : List ℕ) : Type 0 where
  pub decoding : points' ≡ laid (decoded line) points
  pub cells : row' ≡ laid (row_of line) row
  pub shown : Shown
  pub reading : ShowsRead castilian (row_of line) text shown text'
  pub printed : List ℕ
  pub right : ReadPrints (length text) line printed
  pub prints : Prints out 0 printed r out'
