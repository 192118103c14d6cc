-- What is printed for a line. In order: the numbers of a refusal; what the numbers that the desk shows tell: the count is within what was lent, and the reply to them is what the line's answer is
-- printed as; the ends of `transcribe_line` and of `read_line`. Assumes nothing.
use mathlib.Core.List.{List}
use mathlib.Core.Option.{some}
use mathlib.Core.Path.{◌≡◌, refl, ap, subst, ◌∙◌}
use Prim.Native.Nat.{ℕ, ◌≤◌}
use native.Mathlib.Omega.{arith}
use lib.ListN.{length, take}
use Rattle.rows.specs.Laid.{laid}
use Rattle.rows.proofs.Laid.{front, length_laid}
use Rattle.rules.specs.Castilian.{castilian}
use Rattle.rules.specs.Refusals.{Refusal, number_of, second_of}
use Rattle.rules.proofs.Refusals.{refusal_not_0}
use Rattle.passes.specs.Passes.{Answer}
use Rattle.transcriber.specs.Promise as written
use Rattle.reader.specs.Promise as told
use Rattle.desk.specs.declared.Shown.{Shown}
use Rattle.desk.specs.Shows.{shown_of, Shows, read_of, ShowsRead}
use Rattle.utf8.specs.Decoding.{decoded, Decoded}
use Rattle.utf8.proofs.Decoding.{all_laid, all_points}
use Rattle.printing.specs.Printed.{pattern_of, Prints}
use Rattle.printing.proofs.Printed.{prints_within, prints_as}
use Rattle.patterns.specs.Patterns.{row_of, ShowsRow}
use Rattle.patterns.proofs.Patterns.{row_is}
use Rattle.printouts.specs.Lines.{TranscribePrints, ReadPrints, row_reply, text_reply, shown_reply}
use Rattle.printouts.proofs.Claims.{row_replied, text_replied}
use Rattle.printouts.proofs.Lines.{row_given, row_refused, text_given, text_refused, room_for_row, room_for_text_lem}
use Rattle.answers.specs.Lines.{TranscribesLine, ReadsLine}

-- THE NUMBERS OF A REFUSAL are those of the paper's table
refused_number : (a : Answer) (x : Refusal) → written.refusal_of a ≡ some x → ((shown_of a).number ≡ number_of x) × ((shown_of a).second ≡ second_of x)
unfolding shown_of written.numbers_of
refused_number a x q = rw q (refl, refl)

read_number : (a : told.Answer) (x : Refusal) → told.refusal_of a ≡ some x → ((read_of a).number ≡ number_of x) × ((read_of a).second ≡ second_of x)
unfolding read_of told.numbers_of
read_number a x q = rw q (refl, refl)

-- WHAT THE NUMBERS TELL: with 0 the count is within what was lent, since it is that of the row, or the text, that was given; and with any number the reply is right
abbrev pub Told : Shown → List ℕ → Type 0
Told s new = s.number ≡ 0 → s.second ≤ length new

number_is : (s t : Shown) → s ≡ t → s.number ≡ t.number
number_is s t e = ap (λ (q : Shown). q.number) e

second_is : (s t : Shown) → s ≡ t → s.second ≡ t.second
second_is s t e = ap (λ (q : Shown). q.second) e

module _ (x lent : List ℕ) (n : ℕ) (e : n ≡ length x) (room : length x ≤ length lent) where
  within : n ≤ length (laid x lent)
  within = omega (arith, e, room, length_laid x lent room)

  stands : take n (laid x lent) ≡ x
  stands = front x lent (laid x lent) n e refl

module _ (line row : List ℕ) (s : Shown) where
  transcribed_told : (a : Answer) (row' : List ℕ) → written.Transcribed castilian (decoded line) row a row' → s ≡ shown_of a
      → Told s row' × TranscribePrints (length row) line (row_reply s.number s.second row')
  unfolding shown_of written.numbers_of
  transcribed_told a row' (written.done r g) e =
      let count : s.second ≡ length r = second_is s (shown_of a) e in
      let room : length r ≤ length row = room_for_row (decoded line) (length row) r g in (
        λ z. within r row s.second count room,
        row_given (length row) line s.number s.second row' r g (number_is s (shown_of a) e) (stands r row s.second count room),
      )
  transcribed_told a row' (written.refused b x q h) e =
      let w = refused_number b x q in
      let n : s.number ≡ number_of x = number_is s (shown_of b) e ∙ w.0 in
      (λ z. absurd (omega (arith, z, n, refusal_not_0 x)), row_refused (length row) line s.number s.second row' x h n (second_is s (shown_of b) e ∙ w.1))

module _ (line text : List ℕ) (s : Shown) where
  read_told : (a : told.Answer) (text' : List ℕ) → told.Read castilian (row_of line) text a text' → s ≡ read_of a
      → Told s text' × ReadPrints (length text) line (text_reply s.number s.second text')
  unfolding read_of told.numbers_of
  read_told a text' (told.done t g) e =
      let count : s.second ≡ length t = second_is s (read_of a) e in
      let room : length t ≤ length text = room_for_text_lem (row_of line) (length text) t g in (
        λ z. within t text s.second count room,
        text_given (length text) line s.number s.second text' t g (number_is s (read_of a) e) (stands t text s.second count room),
      )
  read_told a text' (told.refused b x q h) e =
      let w = read_number b x q in
      let n : s.number ≡ number_of x = number_is s (read_of b) e ∙ w.0 in
      (λ z. absurd (omega (arith, z, n, refusal_not_0 x)), text_refused (length text) line s.number s.second text' x h n (second_is s (read_of b) e ∙ w.1))

-- THE ENDS OF `transcribe_line`
module _ (line points row : List ℕ) (count : ℕ) (points' row' : List ℕ) (s : Shown) (room : length line ≤ length points)
    (d : Decoded line points count points') (few : count ≤ length line) (shows : Shows castilian (take count points') row s row') where
  shows_line : Shows castilian (decoded line) row s row'
  shows_line = subst (λ (t : List ℕ). Shows castilian t row s row') (all_points line points count points' room d few) shows

  line_told : Told s row' × TranscribePrints (length row) line (row_reply s.number s.second row')
  line_told = transcribed_told line row s shows_line.answer row' shows_line.promise shows_line.shows

  pub cells_told : Told s row'
  cells_told = line_told.0

  pub ends_transcribed : (out : List ℕ) (r : ℕ) (out' : List ℕ) → Prints out 0 (row_reply s.number s.second row') r out'
      → TranscribesLine line points row out r points' row' out' × (r ≤ length out')
  ends_transcribed out r out' p = (
    record {
      decoding = all_laid line points count points' room d few;
      shown = s;
      transcribing = shows_line;
      printed = row_reply s.number s.second row';
      right = line_told.1;
      prints = p;
    },
    prints_within out 0 (row_reply s.number s.second row') r out' p (omega arith),
  )

  -- the same of what `reply` prints: of cells it is the reply of a row
  pub ends_row_replied : (out : List ℕ) (r : ℕ) (out' : List ℕ) → Prints out 0 (shown_reply pattern_of s row') r out'
      → TranscribesLine line points row out r points' row' out' × (r ≤ length out')
  ends_row_replied out r out' p =
      ends_transcribed out r out' (prints_as out 0 (shown_reply pattern_of s row') (row_reply s.number s.second row') r out' (row_replied s row') p)

-- THE ENDS OF `read_line`
module _ (line points row text : List ℕ) (cells : ℕ) (points' row' text' : List ℕ) (s : Shown) (w : ShowsRow line points row cells points' row')
    (shows : ShowsRead castilian (take cells row') text s text') where
  shows_row : ShowsRead castilian (row_of line) text s text'
  shows_row = subst (λ (t : List ℕ). ShowsRead castilian t text s text') (row_is line points row cells points' row' w) shows

  row_told : Told s text' × ReadPrints (length text) line (text_reply s.number s.second text')
  row_told = read_told line text s shows_row.answer text' shows_row.promise shows_row.shows

  pub text_told : Told s text'
  text_told = row_told.0

  pub ends_read : (out : List ℕ) (r : ℕ) (out' : List ℕ) → Prints out 0 (text_reply s.number s.second text') r out'
      → ReadsLine line points row text out r points' row' text' out' × (r ≤ length out')
  ends_read out r out' p = (
    record {
      decoding = w.decoding;
      cells = w.cells;
      shown = s;
      reading = shows_row;
      printed = text_reply s.number s.second text';
      right = row_told.1;
      prints = p;
    },
    prints_within out 0 (text_reply s.number s.second text') r out' p (omega arith),
  )

  -- the same of what `reply` prints: of code points it is the reply of a text
  pub ends_text_replied : (out : List ℕ) (r : ℕ) (out' : List ℕ) → Prints out 0 (shown_reply (λ (point : ℕ). point) s text') r out'
      → ReadsLine line points row text out r points' row' text' out' × (r ≤ length out')
  ends_text_replied out r out' p =
      ends_read out r out' (prints_as out 0 (shown_reply (λ (point : ℕ). point) s text') (text_reply s.number s.second text') r out' (text_replied s text') p)
