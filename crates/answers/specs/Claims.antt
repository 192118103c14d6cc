-- What is proved of the promises, as types; each is proved under the same name in snake case in proofs/Claims.antt. In order: one outcome; what stands in `out`. Not here: what is proved of the printed
-- lines themselves (crate `printouts`). Assumes nothing.
use Rattle.std.specs.Prelude.{List, ◌≡◌, ℕ, ◌≤◌, length, take}
use Rattle.printouts.specs.Lines.{TranscribePrints, ReadPrints}
use Rattle.printouts.specs.Claims.{longest_printed, longest_read}
use Rattle.answers.specs.Lines.{TranscribesLine, ReadsLine}

-- "any two results allowed by one statement are proved equal": the answer, and all that was lent
abbrev pub OneTranscribing : Type 0
OneTranscribing =
    (line points row out : List ℕ) (r s : ℕ) (points' row' out' points'' row'' out'' : List ℕ)
    → TranscribesLine line points row out r points' row' out' → TranscribesLine line points row out s points'' row'' out''
    → (r ≡ s) × (points' ≡ points'') × (row' ≡ row'') × (out' ≡ out'')

abbrev pub OneReading : Type 0
OneReading =
    (line points row text out : List ℕ) (r s : ℕ) (points' row' text' out' points'' row'' text'' out'' : List ℕ)
    → ReadsLine line points row text out r points' row' text' out' → ReadsLine line points row text out s points'' row'' text'' out''
    → (r ≡ s) × (points' ≡ points'') × (row' ≡ row'') × (text' ≡ text'') × (out' ≡ out'')

-- WHAT STANDS IN `out`, if it has so much room: before the place that is answered, the printed line of that line; and that place is the printed line's length
abbrev pub TranscribedInFront : Type 0
TranscribedInFront =
    (line points row out : List ℕ) (r : ℕ) (points' row' out' : List ℕ) → TranscribesLine line points row out r points' row' out'
    → length row ≡ 12288 → longest_printed ≤ length out → TranscribePrints 12288 line (take r out') × (r ≡ length (take r out'))

abbrev pub ReadInFront : Type 0
ReadInFront =
    (line points row text out : List ℕ) (r : ℕ) (points' row' text' out' : List ℕ) → ReadsLine line points row text out r points' row' text' out'
    → length text ≡ 4096 → longest_read ≤ length out → ReadPrints 4096 line (take r out') × (r ≡ length (take r out'))
