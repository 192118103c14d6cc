-- The walk over an accepted row by public steps, each sign printed behind the one before. Between two of them it is known (`Walk`): which signs are left, that what starts at a
-- place from here on is what starts among them, and that those, printed from here on, make the whole. A step shows the first sign that is left, since no other result is
-- allowed (`one_sign`); each sign has a cell, so the walk ends, at the row's end and after the last sign. In order: the print of a step; one step; the walk's start, one
-- sign, its end. Assumes nothing.
use mathlib.Core.Path.{◌≡◌, refl, sym, ap, ◌∙◌, subst}
use mathlib.Core.List.{List, [], ◌∷◌}
use Prim.Native.Nat.{ℕ, ◌+◌, ◌≤◌, ◌<◌}
use native.Mathlib.Omega.{arith}
use lib.ListN.{length, length-append}
use Rattle.rules.specs.Cells.{Text, Row}
use Rattle.rules.specs.Castilian.{castilian}
use Rattle.rules.specs.Signs.{Sign, cells_of}
use Rattle.rules.specs.Rows.{signs_of}
use Rattle.rules.specs.Answers.{ReadsAs}
use Rattle.rules.specs.Screen.{sign_at, shows, Stepped}
use Rattle.rules.proofs.Castilian.{sane}
use Rattle.rules.proofs.Signs.{signs_join, Filled, filled_signs}
use Rattle.rules.proofs.Steps.{Left, left_on, step_here}
use Rattle.readings.specs.Print.{points}
use Rattle.stepper.specs.Promise.{sign_there}
use Rattle.stepper.specs.declared.Sign as step
use Rattle.std.specs.Prelude.{Some, None, Ok}
use Rattle.std.specs.declared.option.Option as rust
use Rattle.stepper.proofs.Visiting.{Coded, coded_text}
use Rattle.desk.specs.declared.Sign as desk
use Rattle.desk.specs.Shows.{points_of, sign_of, ShowsSign}
use Rattle.desk.proofs.Demands.{one_sign}
use Rattle.printing.specs.declared.Page.{Page}
use Rattle.printing.specs.Pages.{PagePrints}
use Rattle.printing.proofs.Printed.{page_as, Mid, mid_start, mid_on, mid_done}
use Rattle.sign_lines.specs.Signs.{sign_line, sign_lines}
use Rattle.sign_lines.specs.Walk.{shown_text, Accepted, SignsPrinted}

-- THE PRINT OF A STEP
pub shown_points : (lead : rust.Option ℕ) (point next : ℕ) → shown_text (points_of lead point next) ≡ points lead point
shown_points None point next = refl
shown_points (Some lead) point next = refl

pub next_points : (lead : rust.Option ℕ) (point next : ℕ) → (points_of lead point next).next ≡ next
next_points None point next = refl
next_points (Some lead) point next = refl

-- ONE STEP
module _ (row : Row) (t : Text) (h : ReadsAs castilian row t) where
  -- the step shows the first sign that is left
  step_is : (n : ℕ) (s : Sign) (ss : List Sign) → Left castilian sane row t h n (s ∷ ss) → (lead : rust.Option ℕ) (point : ℕ) → s.shown ≡ points lead point
      → (g : desk.Sign) → ShowsSign castilian row n g → g ≡ points_of lead point (n + length s.taken)
  unfolding sign_of
  step_is n s ss l lead point q g shows_g =
      let next : ℕ = n + length s.taken in
      let sign : step.Sign = record { lead = lead; point = point; next = next } in
      let e : Stepped castilian row n (shows (record { points = points lead point; next = next })) =
      subst (λ (u : Text). Stepped castilian row n (shows (record { points = u; next = next }))) q (step_here castilian sane row t h n s ss l) in
      one_sign row n g (points_of lead point next) shows_g
      (record { shown = Ok (Some sign); promise = sign_there sign e; shows = refl })

-- THE WALK
pub record Walk (row : Row) (first : Page) (place : ℕ) (page : Page) : Type 0 where
  pub text : Text
  pub reads : ReadsAs castilian row text
  pub left : List Sign
  pub coded : Coded left
  pub filled : Filled castilian sane left
  pub here : Left castilian sane row text reads place left
  pub printed : Mid first (sign_lines 0 (signs_of castilian text)) (sign_lines place left) page

module _ (row : Row) (first : Page) where
  pub walk_start : Accepted row → Walk row first 0 first
  walk_start a =
      let t : Text = a.0 in
      let h : ReadsAs castilian row t = a.1 in
      let ss : List Sign = signs_of castilian t in record {
        text = t;
        reads = h;
        left = ss;
        coded = coded_text castilian sane t row h.reads;
        filled = filled_signs castilian sane t row h.reads;
        here = (λ k. ap (sign_at ss) (omega arith), omega (arith, ap length (signs_join castilian sane t row h.reads).1));
        printed = mid_start first (sign_lines 0 ss);
      }

  module _ (place : ℕ) (page : Page) (w : Walk row first place page) where
    -- a sign, printed: the walk goes on at the place that the step gives, which is further on and not past the row's end
    pub walk_on : place < length row → (g : desk.Sign) → ShowsSign castilian row place g
        → (next_page : Page) → PagePrints page (sign_line place (shown_text g)) next_page
        → Walk row first g.next next_page × (place < g.next) × (g.next ≤ length row)
    walk_on inside g shows_g next_page p = go w.left w.coded w.filled w.here w.printed
      where
        go : (ss : List Sign) → Coded ss → Filled castilian sane ss → Left castilian sane row w.text w.reads place ss
            → Mid first (sign_lines 0 (signs_of castilian w.text)) (sign_lines place ss) page
            → Walk row first g.next next_page × (place < g.next) × (g.next ≤ length row)
        go [] c f l m = absurd (omega (arith, l.1, inside))
        go (s ∷ ss) c f l m =
            let next : ℕ = place + length s.taken in
            let is : g ≡ points_of c.0.0 c.0.1 next = step_is row w.text w.reads place s ss l c.0.0 c.0.1 c.0.2 g shows_g in
            let shown_is : shown_text g ≡ s.shown = ap shown_text is ∙ shown_points c.0.0 c.0.1 next ∙ sym c.0.2 in
            let next_is : g.next ≡ next = ap (λ (x : desk.Sign). x.next) is ∙ next_points c.0.0 c.0.1 next in
            let on : Walk row first next next_page = record {
              text = w.text;
              reads = w.reads;
              left = ss;
              coded = c.1;
              filled = f.1;
              here = left_on castilian sane row w.text w.reads place s ss f.0 l;
              printed = mid_on first (sign_lines 0 (signs_of castilian w.text)) (sign_lines place (s ∷ ss)) page m (sign_line place s.shown) (sign_lines next ss) next_page refl
                  (page_as page (sign_line place (shown_text g)) (sign_line place s.shown) next_page (ap (sign_line place) shown_is) p);
            } in (
              subst (λ (n : ℕ). Walk row first n next_page) (sym next_is) on,
              omega (arith, next_is, f.0),
              omega (arith, next_is, l.1, length-append s.taken (cells_of ss)),
            )

    -- at the row's end no sign is left
    pub walk_done : length row ≤ place → (page.out.ghost_name ≡ first.out.ghost_name) × SignsPrinted row first.out.now first.at page.at page.out.now
    walk_done h = go w.left w.filled w.here w.printed
      where
        go : (ss : List Sign) → Filled castilian sane ss → Left castilian sane row w.text w.reads place ss
            → Mid first (sign_lines 0 (signs_of castilian w.text)) (sign_lines place ss) page
            → (page.out.ghost_name ≡ first.out.ghost_name) × SignsPrinted row first.out.now first.at page.at page.out.now
        go [] f l m =
            let done : PagePrints first (sign_lines 0 (signs_of castilian w.text)) page = mid_done first (sign_lines 0 (signs_of castilian w.text)) [] page m refl in
            (done.same, record { text = w.text; reads = w.reads; prints = done.prints })
        go (s ∷ ss) f l m = absurd (omega (arith, h, f.0, l.1, length-append s.taken (cells_of ss)))
