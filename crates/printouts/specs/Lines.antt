-- What `transcribe` and `read` print for a line (paper 01, "The line program"). In order: what `transcribe` prints; what `read` prints; what is printed of the two numbers that the desk shows. Not here:
-- which answer the rules give (`Answers` of the crate `rules`), what the lines of an input are (crate `lines`), the form of a printed line (crate `replies`), the row that a line shows (crate `patterns`),
-- the programs' functions (crate `answers`), what `steps` prints (crate `proofing`). Assumes nothing.
use Rattle.std.specs.Prelude.{cond, List, ℕ, eqb, take}
use Rattle.rules.specs.Cells.{Text, Row}
use Rattle.rules.specs.Castilian.{castilian}
use Rattle.rules.specs.Refusals.{Refusal}
use Rattle.rules.specs.Answers.{gives, refuses, PrintAnswer, RowAnswer}
use Rattle.utf8.specs.Decoding.{decoded}
use Rattle.desk.specs.declared.Shown.{Shown}
use Rattle.printing.specs.Printed.{bytes_of_text, characters_of, character_bytes}
use Rattle.replies.specs.Replies.{ok_line, refusal_line, no_line}
use Rattle.patterns.specs.Patterns.{row_of}

-- WHAT `transcribe` PRINTS for a line that is not long, with so much room lent: "`ok`, a blank and one character U+2800 plus the cell for each cell; or `no`, .."
pub data TranscribePrints (room : ℕ) (line : List ℕ) : List ℕ → Type 0 where
  prints_cells : (r : Row) → PrintAnswer castilian (decoded line) room (gives r) → TranscribePrints room line (ok_line (characters_of r))
  prints_refusal : (x : Refusal) → PrintAnswer castilian (decoded line) room (refuses x) → TranscribePrints room line (no_line x)

-- WHAT `read` PRINTS: "`ok`, a blank and the text in UTF-8, or `no N M`"
pub data ReadPrints (room : ℕ) (line : List ℕ) : List ℕ → Type 0 where
  prints_text : (t : Text) → RowAnswer castilian (row_of line) room (gives t) → ReadPrints room line (ok_line (bytes_of_text t))
  prints_refusal : (x : Refusal) → RowAnswer castilian (row_of line) room (refuses x) → ReadPrints room line (no_line x)

-- WHAT IS PRINTED OF TWO NUMBERS: 0 and a count are told of what was given, any others are those of a refusal
abbrev pub reply_of : ℕ → ℕ → List ℕ → List ℕ
reply_of number second bytes = cond (eqb number 0) (ok_line bytes) (refusal_line number second)

-- what was given stands at the front of what was lent, the cells of a row or the code points of a text
abbrev pub row_reply : ℕ → ℕ → List ℕ → List ℕ
row_reply number second row = reply_of number second (characters_of (take second row))

abbrev pub text_reply : ℕ → ℕ → List ℕ → List ℕ
text_reply number second text = reply_of number second (bytes_of_text (take second text))

-- both at once, of what is shown as characters (claims `row_replied`, `text_replied`)
abbrev pub shown_reply : {A : Type 0} → (A → ℕ) → Shown → List A → List ℕ
shown_reply character shown lent = reply_of shown.number shown.second (character_bytes character (take shown.second lent))
