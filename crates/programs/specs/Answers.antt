-- The line programs as a whole (paper 01, "The line program"; its companions `read` and `steps`). In order: the answer to a line; the output for an input; the
-- promise. Not here: how long a line may be (crate `limits`), what the lines of an input are (crate `lines`), what is printed for one that is not long (crates `printouts`, `proofing`). Assumes nothing.
use Rattle.std.specs.Prelude.{List, [], ◌∷◌, ◌++◌, ◌≡◌, ℕ, ◌≤◌, ◌<◌, length}
use Rattle.lines.specs.Lines.{lines_of}
use Rattle.lines.specs.Held.{Holds}
use Rattle.rows.specs.Laid.{laid}
use Rattle.replies.specs.Replies.{long_line}
use Rattle.printouts.specs.Lines.{TranscribePrints, ReadPrints}
use Rattle.proofing.specs.Steps.{StepsPrints}
use Rattle.limits.specs.declared.Program.{Program}
use Rattle.limits.specs.declared.Program.TheVariants.{Transcribe, Read, Steps}
use Rattle.limits.specs.Limits.{longest_line, room_for_cells, room_for_text}

-- what each prints for a line that is not long
abbrev pub Answered : Program → List ℕ → List ℕ → Type 0
Answered Transcribe line x = TranscribePrints room_for_cells line x
Answered Read line x = ReadPrints room_for_text line x
Answered Steps line x = StepsPrints line x

-- THE ANSWER TO A LINE
pub data AnswerTo (p : Program) (line : List ℕ) : List ℕ → Type 0 where
  too_long : longest_line p < length line → AnswerTo p line long_line
  answered : (x : List ℕ) → length line ≤ longest_line p → Answered p line x → AnswerTo p line x

-- THE OUTPUT FOR AN INPUT: the answers to its lines, one behind another
pub data OutputFor (p : Program) : List (List ℕ) → List ℕ → Type 0 where
  no_line_left : OutputFor p [] []
  one_more : (l : List ℕ) (ls : List (List ℕ)) (x y : List ℕ) → AnswerTo p l x → OutputFor p ls y → OutputFor p (l ∷ ls) (x ++ y)

abbrev pub Output : Program → List ℕ → List ℕ → Type 0
Output p input out = OutputFor p (lines_of input) out

-- THE PROMISE of `answer_line`: whatever line the room shows (`Holds`), what is printed is an answer to it, all of it, from the first element of `out` on; behind it `out` is as it was
abbrev pub AnswersLine : Program → List ℕ → ℕ → List ℕ → ℕ → List ℕ → Type 0
AnswersLine p room held out r new = (line : List ℕ) → Holds line room held → (x : List ℕ) × AnswerTo p line x × (r ≡ length x) × (new ≡ laid x out)
