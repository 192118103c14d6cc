-- The claims of specs/Claims.antt. Each goes by cases on the promise; the rules' own demands (crates/rules/proofs/Answers.antt) do the rest. Assumes nothing.
use mathlib.Core.Path.{◌≡◌, refl, sym, ap, ◌∙◌, subst}
use mathlib.Core.List.{List}
use mathlib.Core.Option.{some}
use Prim.Native.Nat.{ℕ, ◌+◌, ◌≤◌, ◌<◌}
use native.Mathlib.Omega.{arith}
use lib.ListN.{length, drop, get_or}
use lib.Seq.{get_or-append-add, get_or-drop}
use Rattle.rules.specs.Cells.{Text, Row}
use Rattle.rules.specs.Sorts.{Table}
use Rattle.rules.specs.Rows.{Reads}
use Rattle.rules.specs.Refusals.{Refusal, too_long, at_fault, needs_room, not_a_cell, no_text}
use Rattle.rules.specs.Answers as rules
use Rattle.rules.specs.Answers.{gives, refuses, ProperRow, ReadsAs, RowRefused, long_row, refused_not_a_cell, refused_no_text, long_text, RowAnswer}
use Rattle.rules.specs.Castilian.{castilian}
use Rattle.rules.proofs.Finite.{nothing}
use Rattle.rules.proofs.Profile.{Sane}
use Rattle.rules.proofs.Castilian.{sane}
use Rattle.rules.proofs.Answers as answers
use Rattle.rows.specs.Laid.{laid}
use Rattle.rows.proofs.Laid.{length_laid, front}
use Rattle.reader.proofs.Whole.{no_longer}
use Rattle.std.specs.Prelude.{Ok, Err}
use Rattle.reader.specs.declared.Refusal.TheVariants.{TooLong, NotACell, NoText, NeedsRoom}
use Rattle.reader.specs.Promise.{Answer, refusal_of, Read, done, refused}
use Rattle.reader.specs.Passes.{FirstHigh}
use Rattle.reader.specs.Claims.{OneOutcome, CountIsLength, RestAsItWas, RefusalWritesNothing, ReturnsTheText, NoTextExactly, RowIsRoom, OneFirstHigh}

-- an answer is known by its refusal
back : Refusal → Answer
back (too_long n) = Err (TooLong n)
back (at_fault c n) = Ok n
back (needs_room n) = Err (NeedsRoom n)
back (not_a_cell n) = Err (NotACell n)
back no_text = Err NoText

pub some_same : {A : Type 0} {x y : A} → some x ≡ some y → x ≡ y
some_same e = cc

known : (a : Answer) (x : Refusal) → refusal_of a ≡ some x → a ≡ back x
unfolding back
known (Ok n) x e = nothing e
known (Err (TooLong n)) x e = ap back (some_same e)
known (Err (NotACell n)) x e = ap back (some_same e)
known (Err NoText) x e = ap back (some_same e)
known (Err (NeedsRoom n)) x e = ap back (some_same e)

pub known_two : (a b : Answer) (x y : Refusal) → refusal_of a ≡ some x → refusal_of b ≡ some y → x ≡ y → a ≡ b
known_two a b x y p q e = known a x p ∙ ap back e ∙ sym (known b y q)

gives_same : (t u : Text) → gives t ≡ gives u → t ≡ u
gives_same t u e = cc

pub refuses_same : (x y : Refusal) → refuses x ≡ refuses y → x ≡ y
refuses_same x y e = cc

pub gives_not_refuses : {B : Type 0} {t : Text} {x : Refusal} → gives t ≡ refuses x → B
gives_not_refuses e = let z : ◌≡◌ {A = ℕ} 0 1 = cc in absurd (omega arith)

-- a row's refusals are never for want of room
pub never_room : {tb : Table} (r : Row) (x : Refusal) (n : ℕ) → RowRefused tb r x → x ≡ needs_room n → ⊥
never_room r x n (long_row l) e = let z : ◌≡◌ {A = ℕ} 0 1 = cc in omega arith
never_room r x n (refused_not_a_cell m l k u f) e = let z : ◌≡◌ {A = ℕ} 0 1 = cc in omega arith
never_room r x n (refused_no_text p h) e = let z : ◌≡◌ {A = ℕ} 0 1 = cc in omega arith
never_room r x n (long_text t p h l) e = let z : ◌≡◌ {A = ℕ} 0 1 = cc in omega arith

done_same : (m n : ℕ) → ◌≡◌ {A = Answer} (Ok m) (Ok n) → m ≡ n
done_same m n e = cc

-- behind what was laid all is as it was
behind : (t lent : List ℕ) (n : ℕ) (new : List ℕ) → n ≡ length t → new ≡ laid t lent → (k : ℕ) → get_or new (n + k) 0 ≡ get_or lent (n + k) 0
behind t lent n new e f k = rw (e, f) (get_or-append-add t (drop (length t) lent) k 0 ∙ get_or-drop (length t) lent k 0)

module _ (tb : Table) where
  pub refusal_writes_nothing_in : RefusalWritesNothing tb
  refusal_writes_nothing_in r lent a new (done t g) f = nothing f.1
  refusal_writes_nothing_in r lent a new (refused c x q h) f = refl

  -- an answer that is done: the text that was given
  abbrev Given : Row → List ℕ → ℕ → List ℕ → Type 0
  Given r lent n new = (t : Text) × RowAnswer tb r (length lent) (gives t) × (n ≡ length t) × (new ≡ laid t lent)

  given_by : (r : Row) (lent : List ℕ) (a : Answer) (new : List ℕ) → Read tb r lent a new → (n : ℕ) → a ≡ Ok n → Given r lent n new
  given_by r lent a new (done t g) n e = (t, g, sym (done_same (length t) n e), refl)
  given_by r lent a new (refused c x q h) n e = nothing (sym (ap refusal_of e) ∙ q)

  given_text : (r : Row) (lent : List ℕ) (n : ℕ) (new : List ℕ) → Read tb r lent (Ok n) new → Given r lent n new
  given_text r lent n new h = given_by r lent (Ok n) new h n refl

  reads_of : (r : Row) (room : ℕ) (t : Text) → RowAnswer tb r room (gives t) → ReadsAs tb r t × (length t ≤ room)
  reads_of r room t (rules.read u h l) = (h, l)

  pub count_is_length_in : CountIsLength tb
  count_is_length_in r lent n new h =
      let g = given_text r lent n new h in
      (g.0, (reads_of r (length lent) g.0 g.1).0, g.2, front g.0 lent new n g.2 g.3)

  pub rest_as_it_was_in : RestAsItWas tb
  rest_as_it_was_in r lent n new h =
      let g = given_text r lent n new h in
      let t : Text = g.0 in (
        ap length g.3 ∙ length_laid t lent (reads_of r (length lent) t g.1).1,
        behind t lent n new g.2 g.3,
      )

  module _ (held : Sane tb) where
    one : (r : Row) (lent : List ℕ) (x y : rules.Answer) → RowAnswer tb r (length lent) x → RowAnswer tb r (length lent) y → x ≡ y
    one r lent x y = answers.one_row_answer tb held r (length lent) x y

    pub one_outcome_in : OneOutcome tb
    one_outcome_in r lent a b new old (done t g) (done u h) =
        let e : t ≡ u = gives_same t u (one r lent (gives t) (gives u) g h) in
        (ap (λ (x : Text). Ok (length x)) e, ap (λ (x : Text). laid x lent) e)
    one_outcome_in r lent a b new old (done t g) (refused c x q h) = gives_not_refuses (one r lent (gives t) (refuses x) g h)
    one_outcome_in r lent a b new old (refused c x q h) (done t g) = gives_not_refuses (one r lent (gives t) (refuses x) g h)
    one_outcome_in r lent a b new old (refused c x q h) (refused d y w k) =
        (known_two c d x y q w (refuses_same x y (one r lent (refuses x) (refuses y) h k)), refl)

    pub returns_the_text_in : ReturnsTheText tb
    returns_the_text_in r lent a new (done u g) t h l =
        let e : u ≡ t = gives_same u t (one r lent (gives u) (gives t) g (rules.read t h l)) in
        (ap (λ (x : Text). Ok (length x)) e, front t lent (laid u lent) (length t) refl (ap (λ (x : Text). laid x lent) e))
    returns_the_text_in r lent a new (refused c x q k) t h l = gives_not_refuses (one r lent (gives t) (refuses x) (rules.read t h l) k)

    pub no_text_exactly_in : NoTextExactly tb
    no_text_exactly_in r lent a new p = (there a new p, back_again a new p)
      where
        there : (a : Answer) (new : List ℕ) → Read tb r lent a new → a ≡ Err NoText → ProperRow r × ((t : Text) → Reads tb r t → ⊥)
        there a new (done t g) e = let z : ◌≡◌ {A = ℕ} 0 1 = cc in absurd (omega arith)
        there a new (refused c x q h) e =
            let z : x ≡ no_text = some_same (sym q ∙ ap refusal_of e) in
            (answers.no_text_exactly tb held r (length lent)).0 (subst (λ (y : Refusal). RowAnswer tb r (length lent) (refuses y)) z h)

        back_again : (a : Answer) (new : List ℕ) → Read tb r lent a new → ProperRow r × ((t : Text) → Reads tb r t → ⊥) → a ≡ Err NoText
        back_again a new (done t g) f = gives_not_refuses (one r lent (gives t) (refuses no_text) g ((answers.no_text_exactly tb held r (length lent)).1 f))
        back_again a new (refused c x q h) f =
            known_two c (Err NoText) x no_text q refl
            (refuses_same x no_text (one r lent (refuses x) (refuses no_text) h ((answers.no_text_exactly tb held r (length lent)).1 f)))

-- of the Castilian table
pub one_outcome : OneOutcome castilian
one_outcome = one_outcome_in castilian sane

pub count_is_length : CountIsLength castilian
count_is_length = count_is_length_in castilian

pub rest_as_it_was : RestAsItWas castilian
rest_as_it_was = rest_as_it_was_in castilian

pub refusal_writes_nothing : RefusalWritesNothing castilian
refusal_writes_nothing = refusal_writes_nothing_in castilian

pub returns_the_text : ReturnsTheText castilian
returns_the_text = returns_the_text_in castilian sane

pub no_text_exactly : NoTextExactly castilian
no_text_exactly = no_text_exactly_in castilian sane

-- what is needed is the length of a text that has the row
pub row_is_room : RowIsRoom castilian
row_is_room r lent n new p = go (Err (NeedsRoom n)) new p refl
  where
    same : (m k : ℕ) → needs_room m ≡ needs_room k → m ≡ k
    same m k e = cc

    by : (x : Refusal) (y : rules.Answer) → RowAnswer castilian r (length lent) y → y ≡ refuses x → x ≡ needs_room n → (length lent < n) × (n ≤ length r)
    by x y (rules.row_refused z h) e f = absurd (never_room r z n h (refuses_same z x e ∙ f))
    by x y (rules.text_needs_room t h l) e f =
        let k : length t ≡ n = same (length t) n (refuses_same (needs_room (length t)) x e ∙ f) in
        (omega (arith, l, k), omega (arith, no_longer r t h.reads, k))
    by x y (rules.read t h l) e f = gives_not_refuses e

    go : (a : Answer) (new : List ℕ) → Read castilian r lent a new → a ≡ Err (NeedsRoom n) → (length lent < n) × (n ≤ length r)
    go a new (done t g) e = let z : ◌≡◌ {A = ℕ} 0 1 = cc in absurd (omega arith)
    go a new (refused c x q h) e = by x (refuses x) h refl (some_same (sym q ∙ ap refusal_of e))

-- of two such places neither comes before the other
not_before : (r : Row) (m n : ℕ) → FirstHigh r m → FirstHigh r n → m < n → ⊥
not_before r m n f g l = omega (arith, f.there (omega (arith, l, g.within)), g.below m l)

pub one_first_high : OneFirstHigh
one_first_high r m n f g =
    let a : m < n → ⊥ = not_before r m n f g in
    let b : n < m → ⊥ = not_before r n m g f in
    omega (arith, a, b)
