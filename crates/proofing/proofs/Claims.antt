-- The claims of specs/Claims.antt, each by cases on what is printed; the rules' own demands (crates/rules/proofs/Demands.antt) do the rest. The worked lines are computed.
-- Assumes nothing.
use mathlib.Core.Path.{◌≡◌, refl, sym, ap, ◌∙◌}
use mathlib.Core.List.{List, [], ◌∷◌, ◌++◌, append_assoc}
use Prim.Native.Nat.{ℕ, ◌≤◌}
use native.Mathlib.Omega.{arith}
use lib.ListN.{length}
use Rattle.rules.specs.Cells.{Text, dots, print}
use Rattle.rules.specs.Castilian.{castilian}
use Rattle.rules.specs.Signs.{sign_cells, own_cells, lower_cells, Sign, print_of}
use Rattle.rules.specs.Sorts.{class}
use Rattle.rules.specs.Places.{near, outcome}
use Rattle.rules.specs.Rows.{signs_of}
use Rattle.rules.specs.Refusals.{Refusal}
use Rattle.rules.specs.Screen as screen
use Rattle.rules.specs.Screen.{StepAnswer, shows, stays, Stepped, stepped, stayed}
use Rattle.rules.proofs.Demands.{every_step_answered, one_step_answer, one_text, signs_join}
use Rattle.reader.proofs.Claims.{returns_the_text}
use Rattle.encoding.specs.Encoding.{encoded_of}
use Rattle.printing.specs.Printed.{bytes_of_text}
use Rattle.replies.specs.Replies.{line_end, no_line}
use Rattle.printing.proofs.Printed.{prints_as}
use Rattle.printing.proofs.Claims.{one_printed, printed_in_front}
use Rattle.patterns.specs.Patterns.{row_of}
use Rattle.sign_lines.specs.Signs.{sign_lines}
use Rattle.proofing.specs.Steps.{StepsPrints, prints_signs, prints_refusal}
use Rattle.proofing.specs.Claims.{EveryLineStepped, OneSteppedLine, print_parts, StepsJoinToText, RoomEnough, WholeLinePrinted, OneOutcome, WorkedSteps}
use Rattle.replies.proofs.Lengths.{no_line_short}
use Rattle.proofing.proofs.Room.{signs_room}

-- what is printed follows from the answer to a step
printed_by : (line : List ℕ) (a : StepAnswer) → Stepped castilian (row_of line) 0 a → (p : List ℕ) × StepsPrints line p
printed_by line a (stepped t h) = (_, prints_signs t h)
printed_by line a (stayed x h) = (_, prints_refusal x h)

pub every_line_stepped : EveryLineStepped
every_line_stepped line = let a = every_step_answered (row_of line) 0 in printed_by line a.0 a.1

stays_same : (x y : Refusal) → stays x ≡ stays y → x ≡ y
stays_same x y e = cc

shows_not_stays : {B : Type 0} {x : screen.Shown} {y : Refusal} → shows x ≡ stays y → B
shows_not_stays e = let z : ◌≡◌ {A = ℕ} 0 1 = cc in absurd (omega arith)

pub one_stepped_line : OneSteppedLine
one_stepped_line line p q (prints_signs t h) (prints_signs u k) =
    ap (λ (x : Text). print "ok" ++ sign_lines 0 (signs_of castilian x) ++ line_end ∷ []) (one_text (row_of line) t u h.reads k.reads)
one_stepped_line line p q (prints_signs t h) (prints_refusal x k) = shows_not_stays (one_step_answer (row_of line) 0 _ _ (stepped t h) (stayed x k))
one_stepped_line line p q (prints_refusal x k) (prints_signs t h) = shows_not_stays (one_step_answer (row_of line) 0 _ _ (stepped t h) (stayed x k))
one_stepped_line line p q (prints_refusal x h) (prints_refusal y k) =
    ap no_line (stays_same x y (one_step_answer (row_of line) 0 (stays x) (stays y) (stayed x h) (stayed y k)))

-- the bytes of two texts, joined
bytes_append : (t u : Text) → bytes_of_text (t ++ u) ≡ bytes_of_text t ++ bytes_of_text u
bytes_append [] u = refl
bytes_append (c ∷ t) u =
    ap (λ (x : List ℕ). encoded_of c ++ x) (bytes_append t u) ∙ sym (append_assoc (encoded_of c) (bytes_of_text t) (bytes_of_text u))

parts_join : (ss : List Sign) → print_parts ss ≡ bytes_of_text (print_of ss)
parts_join [] = refl
parts_join (s ∷ ss) = ap (λ (x : List ℕ). bytes_of_text s.shown ++ x) (parts_join ss) ∙ sym (bytes_append s.shown (print_of ss))

pub steps_join_to_text : StepsJoinToText
steps_join_to_text line t h = (
  parts_join (signs_of castilian t) ∙ ap bytes_of_text (signs_join t (row_of line) h.reads).0,
  λ lent a new p room. returns_the_text (row_of line) lent a new p t h room,
)

pub room_enough : RoomEnough
room_enough line p (prints_signs t h) = signs_room (row_of line) t h
room_enough line p (prints_refusal x h) = (omega (arith, no_line_short x), omega (arith, no_line_short x))

pub whole_line_printed : WholeLinePrinted
whole_line_printed line points row out r points' row' out' a room p right =
    let e : a.printed ≡ p = one_stepped_line line a.printed p a.right right in
    let fits : length p ≤ length out = omega (arith, room, (room_enough line p right).1) in
    printed_in_front out p r out' fits (prints_as out 0 a.printed p r out' e a.prints)

pub one_outcome : OneOutcome
one_outcome line points row out r s points' row' out' points'' row'' out'' a b =
    let e : a.printed ≡ b.printed = one_stepped_line line a.printed b.printed a.right b.right in
    let o = one_printed out 0 b.printed r s out' out'' (prints_as out 0 a.printed b.printed r out' e a.prints) b.prints in
    (o.0, a.decoding ∙ sym b.decoding, a.cells ∙ sym b.cells, o.1)

pub worked_steps : WorkedSteps
unfolding signs_of castilian dots sign_cells own_cells lower_cells encoded_of outcome class near
worked_steps = (refl, refl, refl)
