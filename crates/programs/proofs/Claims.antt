-- The claims of specs/Claims.antt: line by line, by the claims of `printouts` and `proofing`. Assumes nothing.
use mathlib.Core.List.{List, [], ◌∷◌, ◌++◌}
use mathlib.Core.Logic.{⊎_elim}
use mathlib.Core.Path.{◌≡◌, refl, ap, subst, ◌∙◌}
use Prim.Native.Nat.{ℕ, ◌≤◌}
use native.Mathlib.Omega.{arith}
use lib.ListN.{length}
use Rattle.rules.specs.Cells.{Text, Row, dots, cells, print}
use Rattle.rules.specs.Normal.{normal_of}
use Rattle.rules.specs.Answers as rules
use Rattle.rules.specs.Answers.{Answer, gives, refuses, PrintAnswer}
use Rattle.rules.specs.Castilian.{castilian}
use Rattle.rules.specs.Refusals.{Refusal, number_of, second_of}
use Rattle.rules.specs.Worked.{row, number, lines, shown_as}
use Rattle.rules.proofs.Demands.{worked}
use Rattle.rules.proofs.Finite.{le_or_lt}
use Rattle.lines.specs.Lines.{lines_of}
use Rattle.utf8.specs.Decoding.{decoded}
use Rattle.encoding.specs.Encoding.{encoded_of}
use Rattle.printing.specs.Printed.{characters_of, bytes_of_text}
use Rattle.replies.specs.Replies.{ok_line, no_line, refusal_line, long_line, line_end}
use Rattle.printouts.specs.Lines.{prints_cells, prints_refusal}
use Rattle.printouts.proofs.Claims as printouts
use Rattle.printouts.proofs.Lengths.{characters_three, given_bytes}
use Rattle.printouts.proofs.Lines.{room_for_row}
use Rattle.proofing.proofs.Claims as proofing
use Rattle.limits.specs.declared.Program.{Program}
use Rattle.limits.specs.declared.Program.TheVariants.{Transcribe, Read, Steps}
use Rattle.limits.specs.Limits.{longest_line, room_for_cells, room_for_text}
use Rattle.limits.proofs.Claims.{rows_fit}
use Rattle.programs.specs.Answers.{Answered, AnswerTo, too_long, answered, OutputFor, no_line_left, one_more}
use Rattle.programs.specs.Claims.{EveryInputAnswered, OneOutput, MostBytes, PaperExample, ReadUndoesTranscribe}
use Rattle.programs.proofs.Bounds as bounds

-- every line has an answer, and one only
answer_there : (p : Program) (line : List ℕ) → (x : List ℕ) × Answered p line x
answer_there Transcribe line = printouts.every_line_transcribed room_for_cells line
answer_there Read line = printouts.every_row_line_read room_for_text line
answer_there Steps line = proofing.every_line_stepped line

every_line : (p : Program) (line : List ℕ) → (x : List ℕ) × AnswerTo p line x
every_line p line =
    ⊎_elim (λ h. let a = answer_there p line in (a.0, answered a.0 h a.1)) (λ h. (long_line, too_long h)) (le_or_lt (length line) (longest_line p))

answer_same : (p : Program) (line x y : List ℕ) → Answered p line x → Answered p line y → x ≡ y
answer_same Transcribe line x y a b = printouts.one_transcribed_line room_for_cells line x y a b
answer_same Read line x y a b = printouts.one_read_line room_for_text line x y a b
answer_same Steps line x y a b = proofing.one_stepped_line line x y a b

one_line : (p : Program) (line x y : List ℕ) → AnswerTo p line x → AnswerTo p line y → x ≡ y
one_line p line x y (too_long h) (too_long k) = refl
one_line p line x y (too_long h) (answered w k b) = absurd (omega (arith, h, k))
one_line p line x y (answered v h a) (too_long k) = absurd (omega (arith, h, k))
one_line p line x y (answered v h a) (answered w k b) = answer_same p line x y a b

every_lines : (p : Program) (ls : List (List ℕ)) → (out : List ℕ) × OutputFor p ls out
every_lines p [] = ([], no_line_left)
every_lines p (l ∷ ls) =
    let a = every_line p l in
    let b = every_lines p ls in
    (a.0 ++ b.0, one_more l ls a.0 b.0 a.1 b.1)

pub every_input_answered : EveryInputAnswered
every_input_answered p input = every_lines p (lines_of input)

one_lines : (p : Program) (ls : List (List ℕ)) (a b : List ℕ) → OutputFor p ls a → OutputFor p ls b → a ≡ b
one_lines p ls a b no_line_left no_line_left = refl
one_lines p ls a b (one_more l ms x y h o) (one_more k ns v w i q) =
    ap (λ (z : List ℕ). z ++ y) (one_line p l x v h i) ∙ ap (λ (z : List ℕ). v ++ z) (one_lines p ms y w o q)

pub one_output : OneOutput
one_output p input a b = one_lines p (lines_of input) a b

pub most_bytes_lem : MostBytes
most_bytes_lem = bounds.most_bytes_lem

-- THE WAY BACK: what was transcribed has no more than 4,096 code points, and its row no more cells than the room
print_short : (p : Text) (room : ℕ) (r : Row) → PrintAnswer castilian p room (gives r) → length (normal_of p) ≤ 4096
print_short p room r (rules.transcribed s short reads fits) = short

pub read_undoes_transcribe : ReadUndoesTranscribe
read_undoes_transcribe line r g =
    let few : length (characters_of r) ≤ longest_line Read =
    omega (arith, rows_fit, characters_three r (given_bytes (decoded line) room_for_cells r g), room_for_row (decoded line) room_for_cells r g) in
    answered (ok_line (bytes_of_text (normal_of (decoded line)))) few
    (printouts.line_there_and_back room_for_cells line r g room_for_text (print_short (decoded line) room_for_cells r g))

-- THE PAPER'S EXAMPLE: two of the sixteen lines
shown_row : (a : Answer) (r : Row) → shown_as a ≡ row r → a ≡ gives r
shown_row (gives s) r e = let f : s ≡ r = cc in ap gives f
shown_row (refuses x) r e = absurd (let z : ◌≡◌ {A = ℕ} 0 1 = cc in omega (arith, z))

shown_number : (a : Answer) (n m : ℕ) → shown_as a ≡ number n m → (x : Refusal) × (a ≡ refuses x) × (number_of x ≡ n) × (second_of x ≡ m)
shown_number (gives s) n m e = absurd (let z : ◌≡◌ {A = ℕ} 0 1 = cc in omega (arith, z))
shown_number (refuses x) n m e =
    let f : number_of x ≡ n = cc in
    let g : second_of x ≡ m = cc in
    (x, refl, f, g)

first_answer : PrintAnswer castilian (print "8b") 12288 (gives (cells (3456 ∷ 125 ∷ 5 ∷ 12 ∷ [])))
unfolding lines
first_answer =
    let h = worked.1.1.1.1.0 in
    subst (λ (a : Answer). PrintAnswer castilian (print "8b") 12288 a) (shown_row h.0 (cells (3456 ∷ 125 ∷ 5 ∷ 12 ∷ [])) h.2) h.1

second_answer : (x : Refusal) × PrintAnswer castilian (print "1.b") 12288 (refuses x) × (no_line x ≡ print "no 5 2" ++ line_end ∷ [])
unfolding lines
second_answer =
    let h = worked.1.1.1.1.1.1.1.0 in
    let s = shown_number h.0 5 2 h.2 in (
      s.0,
      subst (λ (a : Answer). PrintAnswer castilian (print "1.b") 12288 a) s.1 h.1,
      ap (λ (n : ℕ). refusal_line n (second_of s.0)) s.2 ∙ ap (λ (m : ℕ). refusal_line 5 m) s.3,
    )

first_line : ok_line (characters_of (cells (3456 ∷ 125 ∷ 5 ∷ 12 ∷ []))) ≡ bytes_of_text (print "ok ⠼⠓⠐⠃") ++ line_end ∷ []
unfolding dots encoded_of
first_line = refl

pub paper_example : PaperExample
unfolding encoded_of
paper_example =
    let x = second_answer in
    let first : AnswerTo Transcribe (print "8b") (bytes_of_text (print "ok ⠼⠓⠐⠃") ++ line_end ∷ []) =
    subst (λ (y : List ℕ). AnswerTo Transcribe (print "8b") y) first_line (answered (ok_line (characters_of (cells (3456 ∷ 125 ∷ 5 ∷ 12 ∷ [])))) (omega arith) (prints_cells (cells (3456 ∷ 125 ∷ 5 ∷ 12 ∷ [])) first_answer)) in
    let second : AnswerTo Transcribe (print "1.b") (print "no 5 2" ++ line_end ∷ []) =
    subst (λ (y : List ℕ). AnswerTo Transcribe (print "1.b") y) x.2 (answered (no_line x.0) (omega arith) (prints_refusal x.0 x.1)) in
    one_more (print "8b") (print "1.b" ∷ []) (bytes_of_text (print "ok ⠼⠓⠐⠃") ++ line_end ∷ []) (print "no 5 2" ++ line_end ∷ []) first
    (one_more (print "1.b") [] (print "no 5 2" ++ line_end ∷ []) [] second no_line_left)
