-- The claims of specs/Claims.antt. Each goes by cases on the promise; the rules' own demands (crates/rules/proofs/Answers.antt) do the rest, and for the
-- screen's walk proofs/Visiting.antt. Assumes nothing.
use mathlib.Core.Path.{◌≡◌, refl, sym, ap, subst}
use mathlib.Core.List.{[]}
use Prim.Native.Nat.{ℕ}
use native.Mathlib.Omega.{arith}
use lib.ListN.{length}
use Rattle.rules.specs.Cells.{Row}
use Rattle.rules.specs.Sorts.{Table}
use Rattle.rules.specs.Refusals.{Refusal, needs_room}
use Rattle.rules.specs.Answers as rules
use Rattle.rules.specs.Answers.{refuses, RowRefused, RowAnswer}
use Rattle.rules.specs.Screen as screen
use Rattle.rules.specs.Screen.{StepAnswer, shows, stays, Stepped, stayed}
use Rattle.rules.specs.Castilian.{castilian}
use Rattle.rules.proofs.Profile.{Sane}
use Rattle.rules.proofs.Castilian.{sane}
use Rattle.rules.proofs.Answers as answers
use Rattle.readings.specs.Print.{points}
use Rattle.readings.proofs.Print.{points_width, points_inj}
use Rattle.std.specs.Prelude.{Some, Ok, Err}
use Rattle.std.specs.declared.option.Option as rust
use Rattle.reader.specs.declared.Refusal as reader
use Rattle.reader.specs.declared.Refusal.TheVariants.{NeedsRoom}
use Rattle.reader.specs.Promise.{Answer, refused}
use Rattle.reader.proofs.Claims.{some_same, known_two, refuses_same, gives_not_refuses, never_room}
use Rattle.stepper.specs.declared.Sign.{Sign}
use Rattle.stepper.specs.Promise.{sign_there, no_sign_there, row_refused}
use Rattle.stepper.specs.Claims.{OneShown, RefusedAsRead, NeverSix, StillExactly, WalkShowsText}
use Rattle.stepper.proofs.Visiting.{shows_same, still_exactly_in, walk_shows_text_in}

stays_same : (x y : Refusal) → stays x ≡ stays y → x ≡ y
stays_same x y e = cc

shows_not_stays : {B : Type 0} {x : screen.Shown} {y : Refusal} → shows x ≡ stays y → B
shows_not_stays e = let z : ◌≡◌ {A = ℕ} 0 1 = cc in absurd (omega arith)

no_points : {B : Type 0} (l : rust.Option ℕ) (p : ℕ) → points l p ≡ [] → B
no_points l p e = absurd (omega (arith, ap length e, (points_width l p).0))

err_same : {a b : reader.Refusal} → ◌≡◌ {A = Answer} (Err a) (Err b) → a ≡ b
err_same e = cc

module _ (tb : Table) where
  refused_of : (r : Row) (place : ℕ) (x : Refusal) → Stepped tb r place (stays x) → RowRefused tb r x
  refused_of r place x (stayed y h) = h

  pub never_six_in : NeverSix tb
  never_six_in r place n (row_refused a x q h) = never_room r x n (refused_of r place x h) (sym (some_same q))

  pub refused_as_read_in : RefusedAsRead tb
  refused_as_read_in r lent a new (refused c x q h) other place = row_refused a x q (stayed x (go (refuses x) h refl))
    where
      go : (y : rules.Answer) → RowAnswer tb r (length lent) y → y ≡ refuses x → RowRefused tb r x
      go y (rules.row_refused z k) e = subst (RowRefused tb r) (refuses_same z x e) k
      go y (rules.text_needs_room t k l) e =
          absurd (other (length t) (err_same (known_two (Err a) (Err (NeedsRoom (length t))) x (needs_room (length t)) q refl (sym (refuses_same (needs_room (length t)) x e)))))
      go y (rules.read t k l) e = gives_not_refuses e

  module _ (held : Sane tb) where
    only : (r : Row) (place : ℕ) (a b : StepAnswer) → Stepped tb r place a → Stepped tb r place b → a ≡ b
    only r place a b = answers.one_step_answer tb held r place a b

    pub one_shown_in : OneShown tb
    one_shown_in r place s u (sign_there a g) (sign_there b h) =
        let e : ◌≡◌ {A = screen.Shown} (record { points = points a.lead a.point; next = a.next }) (record { points = points b.lead b.point; next = b.next }) =
        shows_same _ _ (only r place _ _ g h) in
        let i = points_inj a.lead a.point b.lead b.point (ap (λ (x : screen.Shown). x.points) e) in
        let j : a.next ≡ b.next = ap (λ (x : screen.Shown). x.next) e in
        ap (λ (x : Sign). Ok (Some x)) (λ n. record { lead = i.0 n; point = i.1 n; next = j n })
    one_shown_in r place s u (sign_there a g) (no_sign_there h) =
        no_points a.lead a.point (ap (λ (x : screen.Shown). x.points) (shows_same _ _ (only r place _ _ g h)))
    one_shown_in r place s u (no_sign_there g) (sign_there a h) =
        no_points a.lead a.point (ap (λ (x : screen.Shown). x.points) (shows_same _ _ (only r place _ _ h g)))
    one_shown_in r place s u (no_sign_there g) (no_sign_there h) = refl
    one_shown_in r place s u (sign_there a g) (row_refused b x q h) = shows_not_stays (only r place _ _ g h)
    one_shown_in r place s u (no_sign_there g) (row_refused a x q h) = shows_not_stays (only r place _ _ g h)
    one_shown_in r place s u (row_refused a x q h) (sign_there b g) = shows_not_stays (only r place _ _ g h)
    one_shown_in r place s u (row_refused a x q h) (no_sign_there g) = shows_not_stays (only r place _ _ g h)
    one_shown_in r place s u (row_refused a x q g) (row_refused b y w h) =
        ap (λ (z : reader.Refusal). Err z) (err_same (known_two (Err a) (Err b) x y q w (stays_same x y (only r place (stays x) (stays y) g h))))

-- of the Castilian table
pub one_shown : OneShown castilian
one_shown = one_shown_in castilian sane

pub refused_as_read : RefusedAsRead castilian
refused_as_read = refused_as_read_in castilian

pub never_six : NeverSix castilian
never_six = never_six_in castilian

pub still_exactly : StillExactly castilian
still_exactly = still_exactly_in castilian sane

pub walk_shows_text : WalkShowsText castilian
walk_shows_text = walk_shows_text_in castilian sane
