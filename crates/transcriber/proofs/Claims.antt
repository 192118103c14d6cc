-- The claims of specs/Claims.antt. Each goes by cases on the promise; the rules' own demands (crates/rules/proofs/Answers.antt) do the rest.
-- Assumes nothing.
use mathlib.Core.Path.{◌≡◌, refl, sym, ap, ◌∙◌, subst}
use mathlib.Core.List.{List}
use mathlib.Core.Logic.{◌⊎◌}
use mathlib.Core.Option.{some}
use Prim.Native.Nat.{ℕ, ◌+◌, ◌≤◌, ◌<◌}
use native.Mathlib.Omega.{arith}
use lib.ListN.{length, drop, get_or}
use lib.Seq.{get_or-append-add, get_or-drop}
use Rattle.rules.specs.Cells.{Text, Row}
use Rattle.rules.specs.Sorts.{Table}
use Rattle.rules.specs.Places.{lacks_sign, breaks_pair, outside_form, shares_cells}
use Rattle.rules.specs.Normal.{normal_of}
use Rattle.rules.specs.Rows.{Reads, Accepted}
use Rattle.rules.specs.Refusals.{Refusal, too_long, at_fault, needs_room, not_a_cell, no_text, longest_text}
use Rattle.rules.specs.Answers as rules
use Rattle.rules.specs.Answers.{gives, refuses, PrintAnswer, transcribed, RowAnswer}
use Rattle.rules.specs.Castilian.{castilian}
use Rattle.rules.proofs.Finite.{nothing}
use Rattle.rules.proofs.Profile.{Sane}
use Rattle.rules.proofs.Castilian.{sane}
use Rattle.rules.proofs.Answers as answers
use Rattle.rows.specs.Laid.{laid}
use Rattle.rows.proofs.Laid.{length_laid, front}
use Rattle.std.specs.Prelude.{Ok, Err}
use Rattle.passes.specs.declared.Refusal.TheVariants.{TooLong, NoSign, PairBroken, OutsideForm, SharesCells, NeedsRoom}
use Rattle.passes.specs.Passes.{Answer}
use Rattle.transcriber.specs.Promise.{refusal_of, Transcribed, done, refused}
use Rattle.transcriber.specs.Claims.{OneOutcome, Refuses, RefusedExactly, CountIsLength, RestAsItWas, RefusalWritesNothing, ReadsBack}

-- an answer is known by its refusal
back : Refusal → Answer
back (too_long n) = Err (TooLong n)
back (at_fault lacks_sign n) = Err (NoSign n)
back (at_fault breaks_pair n) = Err (PairBroken n)
back (at_fault outside_form n) = Err (OutsideForm n)
back (at_fault shares_cells n) = Err (SharesCells n)
back (needs_room n) = Err (NeedsRoom n)
back (not_a_cell n) = Ok n
back no_text = Ok 0

some_same : {A : Type 0} {x y : A} → some x ≡ some y → x ≡ y
some_same e = cc

known : (a : Answer) (x : Refusal) → refusal_of a ≡ some x → a ≡ back x
unfolding back
known (Ok n) x e = nothing e
known (Err (TooLong n)) x e = ap back (some_same e)
known (Err (NoSign n)) x e = ap back (some_same e)
known (Err (PairBroken n)) x e = ap back (some_same e)
known (Err (OutsideForm n)) x e = ap back (some_same e)
known (Err (SharesCells n)) x e = ap back (some_same e)
known (Err (NeedsRoom n)) x e = ap back (some_same e)

gives_same : (r s : Row) → gives r ≡ gives s → r ≡ s
gives_same r s e = cc

refuses_same : (x y : Refusal) → refuses x ≡ refuses y → x ≡ y
refuses_same x y e = cc

gives_not_refuses : {B : Type 0} {r : Row} {x : Refusal} → gives r ≡ refuses x → B
gives_not_refuses e = let z : ◌≡◌ {A = ℕ} 0 1 = cc in absurd (omega arith)

done_same : (m n : ℕ) → ◌≡◌ {A = Answer} (Ok m) (Ok n) → m ≡ n
done_same m n e = cc

-- behind what was laid all is as it was
behind : (r lent : List ℕ) (n : ℕ) (new : List ℕ) → n ≡ length r → new ≡ laid r lent → (k : ℕ) → get_or new (n + k) 0 ≡ get_or lent (n + k) 0
behind r lent n new e f k = rw (e, f) (get_or-append-add r (drop (length r) lent) k 0 ∙ get_or-drop (length r) lent k 0)

module _ (tb : Table) where
  one : (p : Text) (lent : List ℕ) (x y : rules.Answer) → PrintAnswer tb p (length lent) x → PrintAnswer tb p (length lent) y → x ≡ y
  one p lent x y = answers.one_print_answer tb p (length lent) x y

  pub one_outcome_in : OneOutcome tb
  one_outcome_in p lent a b new old (done r g) (done s h) =
      let e : r ≡ s = gives_same r s (one p lent (gives r) (gives s) g h) in
      (ap (λ (x : Row). Ok (length x)) e, ap (λ (x : Row). laid x lent) e)
  one_outcome_in p lent a b new old (done r g) (refused c x q h) = gives_not_refuses (one p lent (gives r) (refuses x) g h)
  one_outcome_in p lent a b new old (refused c x q h) (done r g) = gives_not_refuses (one p lent (gives r) (refuses x) g h)
  one_outcome_in p lent a b new old (refused c x q h) (refused d y w k) =
      let e : x ≡ y = refuses_same x y (one p lent (refuses x) (refuses y) h k) in
      (known c x q ∙ ap back e ∙ sym (known d y w), refl)

  abbrev Excused : Text → List ℕ → Type 0
  Excused p lent =
      (longest_text < length (normal_of p)) ⊎ ((Accepted tb (normal_of p) → ⊥) ⊎ ((r : Row) × Reads tb r (normal_of p) × (length lent < length r)))

  excused : (p : Text) (lent : List ℕ) (a : Answer) (new : List ℕ) → Transcribed tb p lent a new → Refuses a → Excused p lent
  excused p lent a new (done r g) f = nothing f.1
  excused p lent a new (refused c x q h) f = (answers.refused_exactly tb p (length lent)).0 (x, h)

  refuses_so : (p : Text) (lent : List ℕ) (a : Answer) (new : List ℕ) → Transcribed tb p lent a new → Excused p lent → Refuses a
  refuses_so p lent a new (done r g) f =
      let h = (answers.refused_exactly tb p (length lent)).1 f in
      gives_not_refuses (one p lent (gives r) (refuses h.0) g h.1)
  refuses_so p lent a new (refused c x q h) f = (x, q)

  pub refused_exactly_in : RefusedExactly tb
  refused_exactly_in p lent a new t = (excused p lent a new t, refuses_so p lent a new t)

  pub refusal_writes_nothing_in : RefusalWritesNothing tb
  refusal_writes_nothing_in p lent a new (done r g) f = nothing f.1
  refusal_writes_nothing_in p lent a new (refused c x q h) f = refl

  -- an answer that is done: the row that was given
  abbrev Given : Text → List ℕ → ℕ → List ℕ → Type 0
  Given p lent n new = (r : Row) × PrintAnswer tb p (length lent) (gives r) × (n ≡ length r) × (new ≡ laid r lent)

  given_by : (p : Text) (lent : List ℕ) (a : Answer) (new : List ℕ) → Transcribed tb p lent a new → (n : ℕ) → a ≡ Ok n → Given p lent n new
  given_by p lent a new (done r g) n e = (r, g, sym (done_same (length r) n e), refl)
  given_by p lent a new (refused c x q h) n e = nothing (sym (ap refusal_of e) ∙ q)

  given_row : (p : Text) (lent : List ℕ) (n : ℕ) (new : List ℕ) → Transcribed tb p lent (Ok n) new → Given p lent n new
  given_row p lent n new t = given_by p lent (Ok n) new t n refl

  reads_of : (p : Text) (room : ℕ) (r : Row) → PrintAnswer tb p room (gives r) → Reads tb r (normal_of p) × (length r ≤ room)
  reads_of p room r (transcribed s l e k) = (e, k)

  pub count_is_length_in : CountIsLength tb
  count_is_length_in p lent n new t =
      let g = given_row p lent n new t in
      (g.0, (reads_of p (length lent) g.0 g.1).0, g.2, front g.0 lent new n g.2 g.3)

  pub rest_as_it_was_in : RestAsItWas tb
  rest_as_it_was_in p lent n new t =
      let g = given_row p lent n new t in
      let r : Row = g.0 in (
        ap length g.3 ∙ length_laid r lent (reads_of p (length lent) r g.1).1,
        behind r lent n new g.2 g.3,
      )

  pub reads_back_in : Sane tb → ReadsBack tb
  reads_back_in s p lent n new t enough l =
      let g = given_row p lent n new t in
      subst (λ (x : Row). RowAnswer tb x enough (gives (normal_of p))) (sym (front g.0 lent new n g.2 g.3))
      (answers.reads_back_whole tb s p (length lent) g.0 g.1 enough l)

-- of the Castilian table
pub one_outcome : OneOutcome castilian
one_outcome = one_outcome_in castilian

pub refused_exactly : RefusedExactly castilian
refused_exactly = refused_exactly_in castilian

pub count_is_length : CountIsLength castilian
count_is_length = count_is_length_in castilian

pub rest_as_it_was : RestAsItWas castilian
rest_as_it_was = rest_as_it_was_in castilian

pub refusal_writes_nothing : RefusalWritesNothing castilian
refusal_writes_nothing = refusal_writes_nothing_in castilian

pub reads_back : ReadsBack castilian
reads_back = reads_back_in castilian sane
