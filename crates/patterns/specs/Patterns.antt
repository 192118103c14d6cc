-- The row that a line of characters shows (the line programs `read` and `steps`). In order: the byte of a character; the row; the promise. Not here: the code points of a line
-- (crate `utf8`). Assumes nothing.
use Rattle.std.specs.Prelude.{cond, ◌&&◌, List, map, ◌≡◌, ℕ, ◌-◌, leb, length}
use Rattle.rows.specs.Laid.{laid}
use Rattle.utf8.specs.Decoding.{decoded}

-- THE ROW THAT A LINE SHOWS: "each character U+2800 to U+28FF is the byte above U+2800; anything else, a malformed byte too, counts as byte 255"
abbrev pub byte_of : ℕ → ℕ
byte_of c = cond (leb 0x2800 c && leb c 0x28ff) (c - 0x2800) 255

abbrev pub row_of : List ℕ → List ℕ
row_of line = map byte_of (decoded line)

-- THE PROMISE: the code points of the line stand at the front of `points`, its row at the front of `row`, and the answer is the row's length
pub record ShowsRow (line points row : List ℕ) (r : ℕ) (points' row' : List ℕ) : Type 0 where
  pub count : r ≡ length (row_of line)
  pub decoding : points' ≡ laid (decoded line) points
  pub cells : row' ≡ laid (row_of line) row
