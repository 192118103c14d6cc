-- What follows from the promise of `transcribe`, as types; each is proved of any table that is sane, and of the Castilian one, under the same name in
-- snake case in proofs/Claims.antt. `Transcribed tb p lent a new` is the promise: print p, a lent row that held `lent`, answer a, and then `new`.
-- Assumes nothing.
use Rattle.std.specs.Prelude.{List, ◌⊎◌, ◌↔◌, ◌≡◌, ℕ, Ok, ◌+◌, ◌≤◌, ◌<◌, length, take, get_or}
use Rattle.std.proofs.Math.Option.{some}
use Rattle.rules.specs.Cells.{Text, Row}
use Rattle.rules.specs.Sorts.{Table}
use Rattle.rules.specs.Normal.{normal_of}
use Rattle.rules.specs.Rows.{Reads, Accepted}
use Rattle.rules.specs.Refusals.{Refusal, longest_text}
use Rattle.rules.specs.Answers.{gives, RowAnswer}
use Rattle.passes.specs.Passes.{Answer}
use Rattle.transcriber.specs.Promise.{refusal_of, Transcribed}

-- "any two results allowed by one statement are proved equal"
abbrev pub OneOutcome : Table → Type 0
OneOutcome tb =
    (p : Text) (lent : List ℕ) (a b : Answer) (new old : List ℕ) → Transcribed tb p lent a new → Transcribed tb p lent b old → (a ≡ b) × (new ≡ old)

-- Demand 2: "A text is refused exactly when the rules give it no row, when it exceeds a length, or when the row does not fit the room lent."
abbrev pub Refuses : Answer → Type 0
Refuses a = (x : Refusal) × (refusal_of a ≡ some x)

abbrev pub RefusedExactly : Table → Type 0
RefusedExactly tb =
    (p : Text) (lent : List ℕ) (a : Answer) (new : List ℕ) → Transcribed tb p lent a new
    → Refuses a
    ↔ ((longest_text < length (normal_of p))
    ⊎ ((Accepted tb (normal_of p) → ⊥) ⊎ ((r : Row) × Reads tb r (normal_of p) × (length lent < length r))))

-- "On success the answer is the count written": the count is the length of the row that the rules give, and the lent row begins with it
abbrev pub CountIsLength : Table → Type 0
CountIsLength tb =
    (p : Text) (lent : List ℕ) (n : ℕ) (new : List ℕ) → Transcribed tb p lent (Ok n) new
    → (r : Row) × Reads tb r (normal_of p) × (n ≡ length r) × (take n new ≡ r)

-- "all elements after the count are as they were", and there are as many
abbrev pub RestAsItWas : Table → Type 0
RestAsItWas tb =
    (p : Text) (lent : List ℕ) (n : ℕ) (new : List ℕ) → Transcribed tb p lent (Ok n) new
    → (length new ≡ length lent) × ((k : ℕ) → get_or new (n + k) 0 ≡ get_or lent (n + k) 0)

-- "A refusal writes nothing."
abbrev pub RefusalWritesNothing : Table → Type 0
RefusalWritesNothing tb = (p : Text) (lent : List ℕ) (a : Answer) (new : List ℕ) → Transcribed tb p lent a new → Refuses a → new ≡ lent

-- Demand 2: "reading them, with room enough, gives back the normalised print"
abbrev pub ReadsBack : Table → Type 0
ReadsBack tb =
    (p : Text) (lent : List ℕ) (n : ℕ) (new : List ℕ) → Transcribed tb p lent (Ok n) new → (enough : ℕ) → length (normal_of p) ≤ enough
    → RowAnswer tb (take n new) enough (gives (normal_of p))
