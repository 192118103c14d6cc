-- What is proved of the line programs, as types; each is proved under the same name in snake case (`MostBytes` by `most_bytes_lem`) in proofs/Claims.antt. In order: every input has one output;
-- what an answer is at most; the paper's example; the way back. Assumes nothing.
use Rattle.std.specs.Prelude.{List, [], ◌∷◌, ◌++◌, ◌≡◌, ℕ, ◌≤◌, length}
use Rattle.rules.specs.Cells.{Row, print}
use Rattle.rules.specs.Normal.{normal_of}
use Rattle.rules.specs.Castilian.{castilian}
use Rattle.rules.specs.Answers.{gives, PrintAnswer}
use Rattle.utf8.specs.Decoding.{decoded}
use Rattle.printing.specs.Printed.{characters_of, bytes_of_text}
use Rattle.replies.specs.Replies.{ok_line, line_end}
use Rattle.limits.specs.declared.Program.{Program}
use Rattle.limits.specs.declared.Program.TheVariants.{Transcribe, Read}
use Rattle.limits.specs.Limits.{room_for_cells, most_bytes}
use Rattle.programs.specs.Answers.{AnswerTo, Output}

-- Demand 1, of the programs: every input has an output, and "any two results allowed by one statement are proved equal"
abbrev pub EveryInputAnswered : Type 0
EveryInputAnswered = (p : Program) (input : List ℕ) → (out : List ℕ) × Output p input out

abbrev pub OneOutput : Type 0
OneOutput = (p : Program) (input a b : List ℕ) → Output p input a → Output p input b → a ≡ b

-- the room that a program lends for an answer is enough
abbrev pub MostBytes : Type 0
MostBytes = (p : Program) (line x : List ℕ) → AnswerTo p line x → length x ≤ most_bytes

-- "Input of two lines, `8b` and `1.b`, gives exactly: .."
abbrev pub PaperExample : Type 0
PaperExample =
    Output Transcribe (print "8b" ++ line_end ∷ print "1.b" ++ line_end ∷ [])
    (bytes_of_text (print "ok ⠼⠓⠐⠃") ++ line_end ∷ bytes_of_text (print "no 5 2") ++ line_end ∷ [])

-- `read` undoes `transcribe`: for a line that is answered with a row, and that row, `read` answers with the normalised print of the line
abbrev pub ReadUndoesTranscribe : Type 0
ReadUndoesTranscribe =
    (line : List ℕ) (r : Row) → PrintAnswer castilian (decoded line) room_for_cells (gives r)
    → AnswerTo Read (characters_of r) (ok_line (bytes_of_text (normal_of (decoded line))))
