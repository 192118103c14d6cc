-- What follows from the promise of `step`, as types; each is proved of any table that is sane, and of the Castilian one, under the same name in snake case in
-- proofs/Claims.antt. `Shows tb r place s` is the promise: row r, a place, and what is shown. `Read` is that of `reader::read`. Assumes nothing.
use Rattle.std.specs.Prelude.{List, [], ◌∷◌, ◌++◌, ◌↔◌, ◌≡◌, ℕ, Some, None, Ok, Err, ◌<◌, length}
use Rattle.std.proofs.Math.Option.{none}
use Rattle.rules.specs.Cells.{Text, Row}
use Rattle.rules.specs.Sorts.{Table}
use Rattle.rules.specs.Rows.{signs_of}
use Rattle.rules.specs.Answers.{ReadsAs}
use Rattle.rules.specs.Screen.{sign_at}
use Rattle.readings.specs.Print.{points}
use Rattle.reader.specs.declared.Refusal.{Refusal}
use Rattle.reader.specs.declared.Refusal.TheVariants.{NeedsRoom}
use Rattle.reader.specs.Promise.{Read}
use Rattle.stepper.specs.declared.Sign.{Sign}
use Rattle.stepper.specs.Promise.{Shown, Shows}

-- "any two results allowed by one statement are proved equal"
abbrev pub OneShown : Table → Type 0
OneShown tb = (r : Row) (place : ℕ) (s u : Shown) → Shows tb r place s → Shows tb r place u → s ≡ u

-- a step is "refused as reading refuses it, but never with 6"
abbrev pub RefusedAsRead : Table → Type 0
RefusedAsRead tb =
    (r : Row) (lent : List ℕ) (a : Refusal) (new : List ℕ) → Read tb r lent (Err a) new → ((n : ℕ) → a ≡ NeedsRoom n → ⊥)
    → (place : ℕ) → Shows tb r place (Err a)

abbrev pub NeverSix : Table → Type 0
NeverSix tb = (r : Row) (place n : ℕ) → Shows tb r place (Err (NeedsRoom n)) → ⊥

-- no code point and the same place exactly where the row is accepted and no sign of its text starts there
abbrev pub StillExactly : Table → Type 0
StillExactly tb =
    (r : Row) (place : ℕ) → Shows tb r place (Ok None) ↔ ((t : Text) × ReadsAs tb r t × (sign_at (signs_of tb t) place ≡ none))

-- Steps from place n to the row's end, each from where the one before it ended: the signs that they show; the code points, joined.
abbrev pub Visits : Table → Row → ℕ → List Sign → Type 0
Visits tb r n [] = n ≡ length r
Visits tb r n (s ∷ rest) = Shows tb r n (Ok (Some s)) × (n < s.next) × Visits tb r s.next rest

abbrev pub print_by : List Sign → Text
print_by [] = []
print_by (s ∷ rest) = points s.lead s.point ++ print_by rest

-- "The proofing screen steps sign by sign": the steps of an accepted row from 0 on show its text, and there are as many as it has signs
abbrev pub WalkShowsText : Table → Type 0
WalkShowsText tb =
    (r : Row) (t : Text) → ReadsAs tb r t
    → (steps : List Sign) × Visits tb r 0 steps × (print_by steps ≡ t) × (length steps ≡ length (signs_of tb t))
