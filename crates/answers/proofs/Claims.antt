-- The claims of specs/Claims.antt: a line has one printed line, and the desk shows one answer; how long a printed line is. Assumes nothing.
use mathlib.Core.List.{List}
use mathlib.Core.Path.{◌≡◌, sym, ap, subst, ◌∙◌}
use Prim.Native.Nat.{ℕ, ◌≤◌}
use native.Mathlib.Omega.{arith}
use lib.ListN.{length, take}
use Rattle.utf8.specs.Decoding.{decoded}
use Rattle.printing.specs.Printed.{Prints}
use Rattle.printing.proofs.Printed.{prints_front, prints_as, one_printed}
use Rattle.patterns.specs.Patterns.{row_of}
use Rattle.desk.proofs.Unique.{one_shown, one_read}
use Rattle.printouts.specs.Lines.{TranscribePrints, ReadPrints}
use Rattle.printouts.proofs.Claims.{one_transcribed_line, one_read_line, room_enough}
use Rattle.answers.specs.Claims.{OneTranscribing, OneReading, TranscribedInFront, ReadInFront}

pub one_transcribing : OneTranscribing
one_transcribing line points row out r s points' row' out' points'' row'' out'' a b =
    let e : a.printed ≡ b.printed = one_transcribed_line (length row) line a.printed b.printed a.right b.right in
    let cells = one_shown (decoded line) row a.shown b.shown row' row'' a.transcribing b.transcribing in
    let o = one_printed out 0 b.printed r s out' out'' (prints_as out 0 a.printed b.printed r out' e a.prints) b.prints in
    (o.0, a.decoding ∙ sym b.decoding, cells.1, o.1)

pub one_reading : OneReading
one_reading line points row text out r s points' row' text' out' points'' row'' text'' out'' a b =
    let e : a.printed ≡ b.printed = one_read_line (length text) line a.printed b.printed a.right b.right in
    let read = one_read (row_of line) text a.shown b.shown text' text'' a.reading b.reading in
    let o = one_printed out 0 b.printed r s out' out'' (prints_as out 0 a.printed b.printed r out' e a.prints) b.prints in
    (o.0, a.decoding ∙ sym b.decoding, a.cells ∙ sym b.cells, read.1, o.1)

-- what stands in `out`
in_front : (P : List ℕ → Type 0) (out x : List ℕ) (r : ℕ) (out' : List ℕ) → P x → Prints out 0 x r out' → length x ≤ length out
    → P (take r out') × (r ≡ length (take r out'))
in_front P out x r out' h p room =
    let front : take r out' ≡ x = prints_front out x r out' p room in
    (subst P (sym front) h, omega (arith, room, p.place, ap length front))

pub transcribed_in_front : TranscribedInFront
transcribed_in_front line points row out r points' row' out' t e room =
    let right : TranscribePrints 12288 line t.printed = subst (λ (n : ℕ). TranscribePrints n line t.printed) e t.right in
    in_front (TranscribePrints 12288 line) out t.printed r out' right t.prints (omega (arith, room_enough.0 line t.printed right, room))

pub read_in_front : ReadInFront
read_in_front line points row text out r points' row' text' out' t e room =
    let right : ReadPrints 4096 line t.printed = subst (λ (n : ℕ). ReadPrints n line t.printed) e t.right in
    in_front (ReadPrints 4096 line) out t.printed r out' right t.prints (omega (arith, room_enough.1 line t.printed right, room))
