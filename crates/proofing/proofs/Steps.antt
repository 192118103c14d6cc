-- The laws that the functions cite. In order: what the first step tells of the row, that it is accepted or why it is refused; the ends of
-- `steps_line`. Not here: the walk over the signs (crate `sign_lines`). Assumes nothing.
use mathlib.Core.Path.{◌≡◌, refl, sym, ap, ◌∙◌, subst}
use mathlib.Core.List.{List, [], ◌∷◌, ◌++◌}
use mathlib.Core.Logic.{◌⊎◌, inl, inr}
use mathlib.Core.Option.{some}
use Prim.Native.Nat.{ℕ, ◌≤◌}
use native.Mathlib.Omega.{arith}
use lib.ListN.{length, take}
use Rattle.rules.specs.Cells.{Row, print}
use Rattle.rules.specs.Castilian.{castilian}
use Rattle.rules.specs.Rows.{signs_of}
use Rattle.rules.specs.Refusals.{Refusal, number_of, second_of}
use Rattle.rules.proofs.Refusals.{refusal_not_0}
use Rattle.rules.specs.Answers.{ReadsAs, RowRefused}
use Rattle.rules.specs.Screen as screen
use Rattle.rules.specs.Screen.{shows, stays, Stepped, stepped, stayed}
use Rattle.std.specs.Prelude.{Some, None, Err}
use Rattle.std.specs.declared.option.Option as rust
use Rattle.reader.specs.Promise.{Answer, refusal_of, numbers_of}
use Rattle.stepper.specs.Promise as step
use Rattle.stepper.specs.Promise.{Shows, sign_there, no_sign_there, row_refused}
use Rattle.desk.specs.declared.Sign as desk
use Rattle.desk.specs.Shows.{read_of, points_of, sign_of, ShowsSign}
use Rattle.printing.specs.Printed.{Prints}
use Rattle.printing.specs.declared.Page.{Page}
use Rattle.printing.specs.Pages.{PagePrints}
use Rattle.printing.proofs.Printed.{prints_as, prints_on, prints_within, page_first, page_last}
use Rattle.replies.specs.Replies.{line_end, refusal_line}
use Rattle.patterns.specs.Patterns.{ShowsRow}
use Rattle.patterns.proofs.Patterns.{row_is}
use Rattle.sign_lines.specs.Signs.{sign_lines}
use Rattle.sign_lines.specs.Walk.{Accepted, SignsPrinted}
use Rattle.proofing.specs.Steps.{StepsPrints, prints_signs, prints_refusal, StepsLine}

-- WHAT THE FIRST STEP TELLS
sign_number : (lead : rust.Option ℕ) (point next : ℕ) → (points_of lead point next).number ≡ 0
sign_number None point next = refl
sign_number (Some lead) point next = refl

numbers_are : (a : Answer) (x : Refusal) → refusal_of a ≡ some x → ((numbers_of a).0 ≡ number_of x) × ((numbers_of a).1 ≡ second_of x)
unfolding numbers_of
numbers_are a x e = rw e (refl, refl)

module _ (r : Row) (n : ℕ) where
  accepted_of : (x : screen.Shown) → Stepped castilian r n (shows x) → Accepted r
  accepted_of x (stepped t h) = (t, h)

  refused_of : (x : Refusal) → Stepped castilian r n (stays x) → RowRefused castilian r x
  refused_of x (stayed y h) = h

  -- the row is accepted; or why it is refused, by the two numbers
  pub record Refused (g : desk.Sign) : Type 0 where
    pub refusal : Refusal
    pub right : RowRefused castilian r refusal
    pub number : g.number ≡ number_of refusal
    pub second : g.second ≡ second_of refusal

  abbrev Told : desk.Sign → Type 0
  Told g = ((g.number ≡ 0) × Accepted r) ⊎ Refused g

  told : (s : step.Shown) → Shows castilian r n s → Told (sign_of n s)
  unfolding sign_of read_of
  told s (sign_there c d) = inl (sign_number c.lead c.point c.next, accepted_of _ d)
  told s (no_sign_there d) = inl (refl, accepted_of _ d)
  told s (row_refused a x e d) =
      let k = numbers_are (Err a) x e in
      inr (record { refusal = x; right = refused_of x d; number = k.0; second = k.1 })

  told_of : (g : desk.Sign) → ShowsSign castilian r n g → Told g
  told_of g h = subst Told (sym h.shows) (told h.shown h.promise)

  pub refused_by : (g : desk.Sign) → ShowsSign castilian r n g → (g.number ≡ 0 → ⊥) → Refused g
  refused_by g h not_nought = go (told_of g h)
    where
      go : Told g → Refused g
      go (inl a) = absurd (not_nought a.0)
      go (inr x) = x

  pub accepted_by_lem : (g : desk.Sign) → ShowsSign castilian r n g → g.number ≡ 0 → Accepted r
  accepted_by_lem g h none = go (told_of g h)
    where
      go : Told g → Accepted r
      go (inl a) = a.1
      go (inr x) = absurd (omega (arith, refusal_not_0 x.refusal, x.number, none))

-- THE ENDS OF `steps_line`: n cells of `row` are those of the line
module _ (line points row out points' row' : List ℕ) (n : ℕ) (shown : ShowsRow line points row n points' row') where
  ended : (p : List ℕ) → StepsPrints line p → (r : ℕ) (out' : List ℕ) → Prints out 0 p r out'
      → StepsLine line points row out r points' row' out' × (r ≤ length out')
  ended p right r out' prints = (
    record { decoding = shown.decoding; cells = shown.cells; printed = p; right = right; prints = prints },
    prints_within out 0 p r out' prints (omega arith),
  )

  pub ends_refused : (g : desk.Sign) → ShowsSign castilian (take n row') 0 g → (g.number ≡ 0 → ⊥)
      → (r : ℕ) (out' : List ℕ) → Prints out 0 (refusal_line g.number g.second) r out' → StepsLine line points row out r points' row' out' × (r ≤ length out')
  ends_refused g h not_nought r out' p =
      let x = refused_by (take n row') 0 g h not_nought in
      ended (refusal_line (number_of x.refusal) (second_of x.refusal))
      (prints_refusal x.refusal (subst (λ (k : Row). RowRefused castilian k x.refusal) (row_is line points row n points' row' shown) x.right)) r out'
      (prints_as out 0 _ _ r out' (ap (λ (k : ℕ). refusal_line k g.second) x.number ∙ ap (refusal_line (number_of x.refusal)) x.second) p)

  pub ends_accepted : (a : ℕ) (la : List ℕ) (b : ℕ) (lb : List ℕ) (r : ℕ) (out' : List ℕ)
      → Prints out 0 (print "ok") a la → SignsPrinted (take n row') la a b lb → Prints lb b (line_end ∷ []) r out'
      → StepsLine line points row out r points' row' out' × (r ≤ length out')
  ends_accepted a la b lb r out' first signs last =
      let lines : List ℕ = sign_lines 0 (signs_of castilian signs.text) in
      ended (print "ok" ++ lines ++ line_end ∷ [])
      (prints_signs signs.text (subst (λ (k : Row). ReadsAs castilian k signs.text) (row_is line points row n points' row' shown) signs.reads)) r out'
      (prints_on out 0 (print "ok" ++ lines) b lb (line_end ∷ []) r out' (prints_on out 0 (print "ok") a la lines b lb first signs.prints) last)

  -- the same on a page, from its front: `ok`, the signs, the end
  pub ends_accepted_page : (p q s t : Page) (out' : List ℕ) → p.out.now ≡ out → p.at ≡ 0 → out' ≡ t.out.now
      → PagePrints p (print "ok") q → s.out.ghost_name ≡ q.out.ghost_name → SignsPrinted (take n row') q.out.now q.at s.at s.out.now → PagePrints s (line_end ∷ []) t
      → StepsLine line points row out t.at points' row' out' × (t.at ≤ length out')
  ends_accepted_page p q s t out' lent front left first same signs last =
      ends_accepted q.at q.out.now s.at s.out.now t.at out' (page_first out p (print "ok") q lent front first) signs (page_last s (line_end ∷ []) t out' left last)
