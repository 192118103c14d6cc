-- The claims of specs/Claims.antt: the rules' demands say that there is an answer, and one only; how long its line is, by `Lengths`. Assumes nothing.
use mathlib.Core.List.{List}
use mathlib.Core.Path.{◌≡◌, sym, ap, subst}
use Prim.Native.Nat.{ℕ, ◌≤◌}
use native.Mathlib.Omega.{arith}
use lib.ListN.{length, take}
use Rattle.rules.specs.Cells.{Row}
use Rattle.rules.specs.Castilian.{castilian}
use Rattle.rules.specs.Refusals.{Refusal}
use Rattle.rules.specs.Normal.{normal_of}
use Rattle.rules.specs.Answers.{Answer, gives, refuses, PrintAnswer, RowAnswer}
use Rattle.rules.proofs.Demands.{every_print_answered, every_row_answered, one_print_answer, one_row_answer, reads_back}
use Rattle.utf8.specs.Decoding.{decoded}
use Rattle.printing.specs.Printed.{bytes_of_text, characters_of}
use Rattle.printing.proofs.Claims.{cells_shown, text_shown}
use Rattle.printing.proofs.Lengths.{text_few}
use Rattle.replies.specs.Replies.{ok_line, no_line}
use Rattle.replies.proofs.Lengths.{no_line_short, ok_line_length}
use Rattle.patterns.specs.Patterns.{row_of}
use Rattle.printouts.specs.Lines.{TranscribePrints, ReadPrints, prints_cells, prints_text, prints_refusal, reply_of}
use Rattle.printouts.specs.Claims.{EveryLineTranscribed, EveryRowLineRead, OneTranscribedLine, OneReadLine, longest_printed, longest_read, RoomEnough, LineReadsBack, LineThereAndBack, RowReplied, TextReplied}
use Rattle.printouts.proofs.Lines.{room_for_row, room_for_text_lem}
use Rattle.printouts.proofs.Lengths.{characters_three, characters_back, given_bytes}

-- every line has a printed line
pub every_line_transcribed : EveryLineTranscribed
every_line_transcribed room line = by_answer (every_print_answered (decoded line) room).0 (every_print_answered (decoded line) room).1
  where
    by_answer : (a : Answer) → PrintAnswer castilian (decoded line) room a → (x : List ℕ) × TranscribePrints room line x
    by_answer (gives r) h = (ok_line (characters_of r), prints_cells r h)
    by_answer (refuses x) h = (no_line x, prints_refusal x h)

pub every_row_line_read : EveryRowLineRead
every_row_line_read room line = by_answer (every_row_answered (row_of line) room).0 (every_row_answered (row_of line) room).1
  where
    by_answer : (a : Answer) → RowAnswer castilian (row_of line) room a → (x : List ℕ) × ReadPrints room line x
    by_answer (gives t) h = (ok_line (bytes_of_text t), prints_text t h)
    by_answer (refuses x) h = (no_line x, prints_refusal x h)

-- and one only
gives_same : (r s : List ℕ) → gives r ≡ gives s → r ≡ s
gives_same r s e = cc

refuses_same : (x y : Refusal) → refuses x ≡ refuses y → x ≡ y
refuses_same x y e = cc

gives_not_refuses : {B : Type 0} {r : List ℕ} {x : Refusal} → gives r ≡ refuses x → B
gives_not_refuses e = let z : ◌≡◌ {A = ℕ} 0 1 = cc in absurd (omega arith)

pub one_transcribed_line : OneTranscribedLine
one_transcribed_line room line x y (prints_cells r g) (prints_cells s h) =
    ap (λ (q : List ℕ). ok_line (characters_of q)) (gives_same r s (one_print_answer (decoded line) room (gives r) (gives s) g h))
one_transcribed_line room line x y (prints_cells r g) (prints_refusal z h) = gives_not_refuses (one_print_answer (decoded line) room (gives r) (refuses z) g h)
one_transcribed_line room line x y (prints_refusal z h) (prints_cells r g) = gives_not_refuses (one_print_answer (decoded line) room (gives r) (refuses z) g h)
one_transcribed_line room line x y (prints_refusal z h) (prints_refusal w k) =
    ap no_line (refuses_same z w (one_print_answer (decoded line) room (refuses z) (refuses w) h k))

pub one_read_line : OneReadLine
one_read_line room line x y (prints_text t g) (prints_text u h) =
    ap (λ (q : List ℕ). ok_line (bytes_of_text q)) (gives_same t u (one_row_answer (row_of line) room (gives t) (gives u) g h))
one_read_line room line x y (prints_text t g) (prints_refusal z h) = gives_not_refuses (one_row_answer (row_of line) room (gives t) (refuses z) g h)
one_read_line room line x y (prints_refusal z h) (prints_text t g) = gives_not_refuses (one_row_answer (row_of line) room (gives t) (refuses z) g h)
one_read_line room line x y (prints_refusal z h) (prints_refusal w k) = ap no_line (refuses_same z w (one_row_answer (row_of line) room (refuses z) (refuses w) h k))

-- how long a printed line is
transcribed_short : (line x : List ℕ) → TranscribePrints 12288 line x → length x ≤ longest_printed
transcribed_short line x (prints_cells r g) =
    omega (arith, ok_line_length (characters_of r), characters_three r (given_bytes (decoded line) 12288 r g), room_for_row (decoded line) 12288 r g)
transcribed_short line x (prints_refusal z h) = omega (arith, no_line_short z)

read_short : (line x : List ℕ) → ReadPrints 4096 line x → length x ≤ longest_read
read_short line x (prints_text t g) = omega (arith, ok_line_length (bytes_of_text t), text_few t, room_for_text_lem (row_of line) 4096 t g)
read_short line x (prints_refusal z h) = omega (arith, no_line_short z)

pub room_enough : RoomEnough
room_enough = (transcribed_short, read_short)

-- the way back
pub line_reads_back : LineReadsBack
line_reads_back room line r g = characters_back r (given_bytes (decoded line) room r g)

pub line_there_and_back : LineThereAndBack
line_there_and_back room line r g enough h =
    prints_text (normal_of (decoded line))
    (subst (λ (q : Row). RowAnswer castilian q enough (gives (normal_of (decoded line)))) (sym (line_reads_back room line r g))
    (reads_back (decoded line) room r g enough h))

-- the reply
pub row_replied : RowReplied
row_replied s row = ap (reply_of s.number s.second) (cells_shown (take s.second row))

pub text_replied : TextReplied
text_replied s text = ap (reply_of s.number s.second) (text_shown (take s.second text))
