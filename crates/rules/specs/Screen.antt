-- The proofing screen (paper 01, "The proofing screen steps sign by sign .."). In order: the sign that starts at a place; what a step shows; a step's
-- whole answer, from the row and the place alone. Not here: what a sign is (`Signs`), which signs a text has (`Rows.signs_of`). Assumes nothing.
use Rattle.std.specs.Prelude.{true, false, List, [], ◌∷◌, ℕ, ◌+◌, ◌-◌, eqb, leb, length}
use Rattle.std.proofs.Math.Option.{Option, none, some}
use Rattle.rules.specs.Cells.{Text, Row}
use Rattle.rules.specs.Sorts.{Table}
use Rattle.rules.specs.Signs.{Sign}
use Rattle.rules.specs.Rows.{signs_of}
use Rattle.rules.specs.Refusals.{Refusal}
use Rattle.rules.specs.Answers.{RowRefused, ReadsAs}

-- the sign that starts at a place of the signs' joined cells, if one does
unfoldable pub sign_at : List Sign → ℕ → Option Sign
sign_at [] n = none
sign_at (s ∷ ss) n =
    elim (eqb n 0) [
      | true ↦ some s
      | false ↦ elim (leb (length s.taken) n) [ true ↦ sign_at ss (n - length s.taken) | false ↦ none ]
    ]

-- "each step gives the print of the next sign and the place after it"
pub record Shown : Type 0 where
  pub points : Text
  pub next : ℕ

-- "A place at or past the row's end, or one that starts no sign, gives no code point and the same place back."
abbrev pub shown_by : Option Sign → ℕ → Shown
shown_by none n = record { points = []; next = n }
shown_by (some s) n = record { points = s.shown; next = n + length s.taken }

pub data StepAnswer : Type 0 where
  shows : Shown → StepAnswer
  stays : Refusal → StepAnswer

-- "What a step gives follows from the row and the place alone." "A row that isn't accepted is refused as reading refuses it, but never with 6, and
-- the place stays."
pub data Stepped (tb : Table) (r : Row) (n : ℕ) : StepAnswer → Type 0 where
  stepped : (t : Text) → ReadsAs tb r t → Stepped tb r n (shows (shown_by (sign_at (signs_of tb t) n) n))
  stayed : (x : Refusal) → RowRefused tb r x → Stepped tb r n (stays x)
