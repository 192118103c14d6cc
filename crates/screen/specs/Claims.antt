-- What follows from the promises of this crate's functions, as types; each is proved under the same name in snake case in proofs/Claims.antt. In order:
-- what `new` and `moved` promise; that each promise allows one result; the place after a step; a reader stepped and moved over an accepted row. `Shows castilian r n s` is the
-- promise of `next`, `first` and `shown_at`, of a row and a place; that of `place_after` is an equation. Assumes nothing.
use Rattle.std.specs.Prelude.{List, [], ◌∷◌, ◌≡◌, ℕ, Some, Ok, length}
use Rattle.std.specs.Borrow.{Bor}
use Rattle.rules.specs.Cells.{Text, Row}
use Rattle.rules.specs.Castilian.{castilian}
use Rattle.rules.specs.Rows.{signs_of}
use Rattle.rules.specs.Answers.{ReadsAs}
use Rattle.rules.specs.Screen.{StepAnswer, shows, stays, Stepped}
use Rattle.stepper.specs.declared.Sign.{Sign}
use Rattle.stepper.specs.Promise.{Shown, Shows}
use Rattle.stepper.specs.Claims.{print_by}
use Rattle.screen.specs.declared.Reader.{Reader}
use Rattle.screen.specs.Places.{place_after}

-- a reader of a lent row, at a place: what `new` promises at 0, and `moved` at the place that it is given
abbrev pub Stands : Reader → Bor (List ℕ) → ℕ → Type 0
Stands q row n = (q.row ≡ row) × (q.place ≡ n)

-- "any two results allowed by one statement are proved equal": those of `new` and `moved`; and those of `next`, for which "What a step gives follows from
-- the row and the place alone": two readers, and two rows with the same cells, show the same
abbrev pub OneReader : Type 0
OneReader = (row : Bor (List ℕ)) (n : ℕ) (p q : Reader) → Stands p row n → Stands q row n → p ≡ q

abbrev pub OneNext : Type 0
OneNext =
    (p q : Reader) → p.row.now ≡ q.row.now → p.place ≡ q.place
    → (s u : Shown) → Shows castilian p.row.now p.place s → Shows castilian q.row.now q.place u → s ≡ u

-- "each step gives .. the place after it", or "the same place back"; or "the place stays": what `place_after` gives for what was shown is the place that
-- the rules' answer gives
abbrev pub place_in : StepAnswer → ℕ → ℕ
place_in (shows x) n = x.next
place_in (stays x) n = n

abbrev pub PlaceByTheRules : Type 0
PlaceByTheRules = (r : Row) (n : ℕ) (s : Shown) → Shows castilian r n s → (a : StepAnswer) → Stepped castilian r n a → place_after s n ≡ place_in a n

-- A reader stepped, and each time moved to the place after what it showed, until it stands at the row's end: the signs that it showed.
abbrev pub ShowsInTurn : Reader → List Sign → Type 0
ShowsInTurn q [] = q.place ≡ length q.row.now
ShowsInTurn q (s ∷ rest) =
    Shows castilian q.row.now q.place (Ok (Some s))
    × ((p : Reader) → Stands p q.row (place_after (Ok (Some s)) q.place) → ShowsInTurn p rest)

-- "The proofing screen steps sign by sign through a row it borrows": from `new` on, the reader of an accepted row shows its text, in as many steps as the
-- text has signs
abbrev pub StepsShowText : Type 0
StepsShowText =
    (q : Reader) (row : Bor (List ℕ)) (t : Text) → Stands q row 0 → ReadsAs castilian row.now t
    → (steps : List Sign) × ShowsInTurn q steps × (print_by steps ≡ t) × (length steps ≡ length (signs_of castilian t))
