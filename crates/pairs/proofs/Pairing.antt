-- The pair rule over bits is that of the rules: which kinds are open is a number below 2 ^ kinds, and what turning a kind does to it is one test over
-- all of them. In order: the kind and the side of a mark, from its number; a kind turned, in the rules' words and as the code does it; what a mark
-- means, and the two cases of `pairs_after`; the end and the start of a text. Assumes nothing.
use mathlib.Core.Path.{◌≡◌, refl, sym, ap, ◌∙◌, fun_ext}
use mathlib.Core.Bool.{Bool, true, false, not, cond, beq}
use mathlib.Core.List.{List, [], ◌∷◌}
use mathlib.Core.Logic.{⊎_elim}
use mathlib.Core.Option.{Option, none, some}
use Prim.Native.Nat.{ℕ, suc, ◌+◌, ◌-◌, ◌*◌, ◌%◌, ◌^◌, ◌≤◌, ◌<◌}
use native.Mathlib.Omega.{arith}
use lib.Bits.{bit_xor}
use lib.Dec.{T, eqb, ltb, eqb→eq, ltb→lt}
use borrow.Author.Tests.{ne_eqb, lt-ltb, le-ltb}
use Rattle.std.specs.declared.option.Option as rust
use Rattle.std.specs.Prelude.{Some, None}
use Rattle.rules.specs.Pairs.{kinds, may_stand, mark_fits, mark_turns, closed, closed_below}
use Rattle.rules.proofs.Finite.{le_or_lt, below, at_below, beq_same, false_of, holds, Hold, hold}
use Rattle.entries.specs.Entries.{marks, mark_number}
use Rattle.pairs.specs.Opened.{open_states, is_open, opens_of, turned_by, kind_by, opener_by, pairs_by}

-- THE MARK: its kind, and whether it is the opener
kind_facts : ℕ → List Bool
kind_facts k =
    eqb (kind_by (2 * k + 1)) k
    ∷ beq (opener_by (2 * k + 1)) true
    ∷ eqb (kind_by (2 * k + 2)) k
    ∷ beq (opener_by (2 * k + 2)) false
    ∷ []

kinds_right : T (below (λ k. holds (kind_facts k)) kinds)
unfolding kind_facts
kinds_right = tt

at_kind : (k : ℕ) → k < kinds → Hold (kind_facts k)
at_kind k l = hold (kind_facts k) (at_below (λ k. holds (kind_facts k)) kinds kinds_right k l)

pub kind_small : (m : ℕ) → m < marks → kind_by m < kinds
kind_small m l = ltb→lt (kind_by m) kinds (at_below (λ m. ltb (kind_by m) kinds) marks tt m l)

-- a mark's number says what the mark is
pub mark_says : (x : Option (ℕ × Bool)) → 0 < mark_number x → mark_number x < marks → x ≡ some (kind_by (mark_number x), opener_by (mark_number x))
unfolding mark_number kind_facts
mark_says none l h = absurd (omega (arith, l))
mark_says (some m) l h = go m.0 m.1 h
  where
    go : (k : ℕ) (b : Bool) → 2 * k + cond b 1 2 < marks
        → ◌≡◌ {A = Option (ℕ × Bool)} (some (k, b)) (some (kind_by (2 * k + cond b 1 2), opener_by (2 * k + cond b 1 2)))
    go k true h =
        let f = at_kind k (omega (arith, h)) in
        let p : k ≡ kind_by (2 * k + 1) = sym (eqb→eq (kind_by (2 * k + 1)) k f.0) in
        let q : true ≡ opener_by (2 * k + 1) = sym (beq_same (opener_by (2 * k + 1)) true f.1.0) in
        λ i. some (p i, q i)
    go k false h =
        let f = at_kind k (omega (arith, h)) in
        let p : k ≡ kind_by (2 * k + 2) = sym (eqb→eq (kind_by (2 * k + 2)) k f.1.1.0) in
        let q : false ≡ opener_by (2 * k + 2) = sym (beq_same (opener_by (2 * k + 2)) false f.1.1.1.0) in
        λ i. some (p i, q i)

-- past the kinds nothing is open, whatever the number
beyond : (o k : ℕ) → kinds ≤ k → opens_of o k ≡ false
beyond o k h = rw (le-ltb k kinds h)

-- A KIND TURNED: from each number, by each kind, seen at each kind
turn_facts : ℕ → ℕ → ℕ → List Bool
turn_facts o k j =
    beq (opens_of (turned_by o k) j) (cond (eqb j k) (not (is_open o k)) (opens_of o j))
    ∷ ltb (turned_by o k) open_states
    ∷ eqb (bit_xor o (1 * 2 ^ k % 18446744073709551616)) (turned_by o k)
    ∷ []

turns_right : T (below (λ o. below (λ k. below (λ j. holds (turn_facts o k j)) kinds) kinds) open_states)
unfolding turn_facts
turns_right = tt

module _ (o k : ℕ) (few : o < open_states) (l : k < kinds) where
  pub open_is : opens_of o k ≡ is_open o k
  open_is = rw (lt-ltb k kinds l)

  at_turn : (j : ℕ) → j < kinds → Hold (turn_facts o k j)
  at_turn j h =
      hold (turn_facts o k j)
      (at_below (λ j. holds (turn_facts o k j)) kinds
      (at_below (λ k. below (λ j. holds (turn_facts o k j)) kinds) kinds
      (at_below (λ o. below (λ k. below (λ j. holds (turn_facts o k j)) kinds) kinds) open_states turns_right o few) k l) j h)

  pub turned_few : turned_by o k < open_states
  unfolding turn_facts
  turned_few = ltb→lt (turned_by o k) open_states (at_turn k l).1.0

  -- that kind is the other way, and the others are as they were
  seen : (j : ℕ) → opens_of (turned_by o k) j ≡ cond (eqb j k) (not (is_open o k)) (opens_of o j)
  unfolding turn_facts
  seen j =
      ⊎_elim
      (λ h. beq_same (opens_of (turned_by o k) j) (cond (eqb j k) (not (is_open o k)) (opens_of o j)) (at_turn j h).0)
      (λ h. beyond (turned_by o k) j (omega (arith, h))
      ∙ sym (ap (λ (x : Bool). cond x (not (is_open o k)) (opens_of o j)) (ne_eqb j k (λ e. omega (arith, e, h, l))) ∙ beyond o j (omega (arith, h))))
      (le_or_lt (suc j) kinds)

  turning : (b : Bool) → is_open o k ≡ b → mark_turns (some (k, not b)) (opens_of o) ≡ opens_of (turned_by o k)
  turning b e = fun_ext (λ j. sym (seen j ∙ ap (λ (x : Bool). cond (eqb j k) (not x) (opens_of o j)) e))

  pub opening : is_open o k ≡ false → mark_turns (some (k, true)) (opens_of o) ≡ opens_of (turned_by o k)
  opening e = turning false e

  pub closing : is_open o k ≡ true → mark_turns (some (k, false)) (opens_of o) ≡ opens_of (turned_by o k)
  closing e = turning true e

  -- the code turns the kind's bit
  pub bit_turned : bit_xor o (1 * 2 ^ k % 18446744073709551616) ≡ turned_by o k
  unfolding turn_facts
  bit_turned = eqb→eq (bit_xor o (1 * 2 ^ k % 18446744073709551616)) (turned_by o k) (at_turn k l).1.1.0

  -- WHAT A MARK MEANS: of this kind and side it stands, and turns its kind; or it may not stand
  abbrev pub Means : Bool → rust.Option ℕ → Type 0
  Means b (Some p) = (mark_fits (opens_of o) (some (k, b)) ≡ true) × (mark_turns (some (k, b)) (opens_of o) ≡ opens_of p) × (p < open_states)
  Means b None = mark_fits (opens_of o) (some (k, b)) ≡ false

  meant : (b x : Bool) → is_open o k ≡ x → Means b (cond (may_stand b x) (Some (turned_by o k)) None)
  meant true true e = rw (open_is, e)
  meant true false e = (rw (open_is, e), opening e, turned_few)
  meant false true e = (rw (open_is, e), closing e, turned_few)
  meant false false e = rw (open_is, e)

-- what `pairs_by` says of a mark
pub pairs_mean : (o m : ℕ) (few : o < open_states) (small : m < marks) → Means o (kind_by m) few (kind_small m small) (opener_by m) (pairs_by o m)
unfolding pairs_by
pairs_mean o m few small = meant o (kind_by m) few (kind_small m small) (opener_by m) (is_open o (kind_by m)) refl

-- the two cases of `pairs_after`, from what it was told of the kind
may_stand_lem : (b x : Bool) → may_stand b x ≡ not (beq x b)
may_stand_lem true true = refl
may_stand_lem true false = refl
may_stand_lem false true = refl
may_stand_lem false false = refl

module _ (o m : ℕ) (x : Bool) (is_x : x ≡ is_open o (kind_by m)) where
  pairs_is : pairs_by o m ≡ cond (not (beq x (opener_by m))) (Some (turned_by o (kind_by m))) None
  unfolding pairs_by
  pairs_is =
      ap (λ (b : Bool). cond (may_stand (opener_by m) b) (Some (turned_by o (kind_by m))) None) (sym is_x)
      ∙ ap (λ (b : Bool). cond b (Some (turned_by o (kind_by m))) None) (may_stand_lem (opener_by m) x)

  pub pairs_broken : beq x (opener_by m) ≡ true → None ≡ pairs_by o m
  pairs_broken e = sym (pairs_is ∙ rw e)

  pub pairs_stand : beq x (opener_by m) ≡ false → Some (turned_by o (kind_by m)) ≡ pairs_by o m
  pairs_stand e = sym (pairs_is ∙ rw e)

-- AT THE END: nothing is open exactly where the number is 0
closed_right : T (below (λ o. beq (closed (opens_of o)) (eqb o 0)) open_states)
unfolding closed closed_below
closed_right = tt

pub closed_is : (o : ℕ) → o < open_states → closed (opens_of o) ≡ eqb o 0
closed_is o l = beq_same (closed (opens_of o)) (eqb o 0) (at_below (λ o. beq (closed (opens_of o)) (eqb o 0)) open_states closed_right o l)

-- and at the start
pub none_open : (λ (k : ℕ). false) ≡ opens_of 0
none_open = fun_ext go
  where
    go : (k : ℕ) → false ≡ opens_of 0 k
    go k =
        ⊎_elim (λ h. sym (false_of (opens_of 0 k) (at_below (λ k. not (opens_of 0 k)) kinds tt k h)))
        (λ h. sym (beyond 0 k (omega (arith, h)))) (le_or_lt (suc k) kinds)
