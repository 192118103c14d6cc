-- The sixteen lines (paper 01, "The proved set, dots written out"), as one table. In order: a question and the answer that the paper shows; the
-- table; what it is that it holds. Assumes nothing.
use Rattle.std.specs.Prelude.{List, [], ◌∷◌, ◌≡◌, ℕ}
use Prim.Native.String.{String}
use Rattle.rules.specs.Cells.{Text, Row, cells, print}
use Rattle.rules.specs.Castilian.{castilian}
use Rattle.rules.specs.Refusals.{number_of, second_of, longest_text, longest_row}
use Rattle.rules.specs.Answers.{Answer, gives, refuses, PrintAnswer, RowAnswer}

-- print that is offered, or a row that is stored
pub data Question : Type 0 where
  offered : Text → Question
  stored : Row → Question

-- cells, or a refusal's number and its second number
pub data Expected : Type 0 where
  row : Row → Expected
  number : ℕ → ℕ → Expected

abbrev pub Line : Type 0
Line = Question × Expected

infix 60 ◌gets◌
infix 60 ◌refused◌at◌
abbrev ◌gets◌ : String → List ℕ → Line
s gets ds = (offered (print s), row (cells ds))

abbrev ◌refused◌at◌ : String → ℕ → ℕ → Line
s refused n at m = (offered (print s), number n m)

unfoldable pub lines : List Line
lines =
    ("" gets [])
    ∷ ("A" gets 46 ∷ 1 ∷ [])
    ∷ ("ONCE" gets 46 ∷ 46 ∷ 135 ∷ 1345 ∷ 14 ∷ 15 ∷ [])
    ∷ ("ABc" gets 46 ∷ 1 ∷ 46 ∷ 12 ∷ 14 ∷ [])
    ∷ ("8b" gets 3456 ∷ 125 ∷ 5 ∷ 12 ∷ [])
    ∷ ("8B" gets 3456 ∷ 125 ∷ 46 ∷ 12 ∷ [])
    ∷ ("1.720" gets 3456 ∷ 1 ∷ 3 ∷ 1245 ∷ 12 ∷ 245 ∷ [])
    ∷ ("1.b" refused 5 at 2)
    ∷ ("2ª" gets 3456 ∷ 23 ∷ 1 ∷ [])
    ∷ ("2⁄1" refused 5 at 2)
    ∷ ("3⁄4" gets 3456 ∷ 25 ∷ 145 ∷ [])
    ∷ ("¿Sí?" gets 26 ∷ 46 ∷ 234 ∷ 34 ∷ 26 ∷ [])
    ∷ ("?" refused 3 at 0)
    ∷ ("a--b" refused 5 at 2)
    ∷ ("10 %" gets 3456 ∷ 1 ∷ 245 ∷ 0 ∷ 456 ∷ 356 ∷ [])
    ∷ (stored (cells (46 ∷ 1 ∷ 46 ∷ 12 ∷ [])), number 8 0)
    ∷ []

abbrev pub shown_as : Answer → Expected
shown_as (gives r) = row r
shown_as (refuses x) = number (number_of x) (second_of x)

-- the rules' answer, with room enough for any
abbrev pub Answered : Question → Answer → Type 0
Answered (offered p) a = PrintAnswer castilian p longest_row a
Answered (stored r) a = RowAnswer castilian r longest_text a

abbrev pub Holds : Line → Type 0
Holds l = (a : Answer) × Answered l.0 a × (shown_as a ≡ l.1)

abbrev pub AllHold : List Line → Type 0
AllHold [] = Unit {0}
AllHold (l ∷ ls) = Holds l × AllHold ls
