-- The claims of specs/Claims.antt: those of the crates `rules` and `stepper` about a row and a place, at the row and the place of a reader. Assumes
-- nothing.
use mathlib.Core.List.{List, [], ◌∷◌}
use mathlib.Core.Path.{◌≡◌, sym, ap, ◌∙◌}
use Prim.Native.Nat.{ℕ}
use lib.ListN.{length}
use denote.Ref.{Bor}
use Rattle.rules.specs.Cells.{Row}
use Rattle.rules.specs.Castilian.{castilian}
use Rattle.rules.specs.Screen.{StepAnswer, Stepped}
use Rattle.rules.proofs.Castilian.{sane}
use Rattle.rules.proofs.Answers as answers
use Rattle.std.specs.Prelude.{Some, Ok}
use Rattle.stepper.specs.declared.Sign.{Sign}
use Rattle.stepper.specs.Promise.{sign_there, no_sign_there, row_refused}
use Rattle.stepper.specs.Claims.{Visits}
use Rattle.stepper.proofs.Claims.{one_shown, walk_shows_text}
use Rattle.screen.specs.declared.Reader.{Reader}
use Rattle.screen.specs.Claims.{Stands, OneReader, OneNext, place_in, PlaceByTheRules, ShowsInTurn, StepsShowText}
use Rattle.screen.proofs.Standing.{shown_also, shown_by_reader}

pub one_reader : OneReader
one_reader row n p q g h =
    let a : p.row ≡ q.row = g.0 ∙ sym h.0 in
    let b : p.place ≡ q.place = g.1 ∙ sym h.1 in
    λ i. record { row = a i; place = b i }

pub one_next : OneNext
one_next p q e f s u g h = one_shown q.row.now q.place s u (shown_also p.row.now q.row.now p.place q.place s e f g) h

places_same : (r : Row) (n : ℕ) (a b : StepAnswer) → Stepped castilian r n a → Stepped castilian r n b → place_in a n ≡ place_in b n
places_same r n a b g h = ap (λ (x : StepAnswer). place_in x n) (answers.one_step_answer castilian sane r n a b g h)

pub place_by_the_rules : PlaceByTheRules
place_by_the_rules r n s (sign_there c g) a h = places_same r n _ a g h
place_by_the_rules r n s (no_sign_there g) a h = places_same r n _ a g h
place_by_the_rules r n s (row_refused c x q g) a h = places_same r n _ a g h

-- the steps of a row from a place on, of a reader that stands there
in_turn : (row : Bor (List ℕ)) (n : ℕ) (steps : List Sign) → Visits castilian row.now n steps
    → (q : Reader) → Stands q row n → ShowsInTurn q steps
in_turn row n [] v q h = h.1 ∙ v ∙ ap (λ (x : Bor (List ℕ)). length x.now) (sym h.0)
in_turn row n (s ∷ rest) v q h =
    (shown_by_reader q row n h (Ok (Some s)) v.0, λ p g. in_turn row s.next rest v.2 p (g.0 ∙ h.0, g.1))

pub steps_show_text : StepsShowText
steps_show_text q row t h reads =
    let w = walk_shows_text row.now t reads in
    (w.0, in_turn row 0 w.0 w.1 q h, w.2, w.3)
