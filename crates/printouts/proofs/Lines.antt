-- What is printed for a line. In order: the reply to two numbers; it is what the rules' answer is printed as, of `transcribe` and of `read`; there is room for what the rules give. Assumes nothing.
use mathlib.Core.List.{List}
use mathlib.Core.Path.{◌≡◌, refl, sym, ap, subst, ◌∙◌}
use Prim.Native.Nat.{ℕ, ◌≤◌}
use native.Mathlib.Omega.{arith}
use lib.ListN.{length, take}
use borrow.Author.Tests.{eq-eqb, ne_eqb}
use Rattle.rules.specs.Cells.{Text, Row}
use Rattle.rules.specs.Castilian.{castilian}
use Rattle.rules.specs.Refusals.{Refusal, number_of, second_of}
use Rattle.rules.specs.Answers.{gives, refuses, PrintAnswer, transcribed, RowAnswer, read}
use Rattle.rules.proofs.Refusals.{refusal_not_0}
use Rattle.utf8.specs.Decoding.{decoded}
use Rattle.printing.specs.Printed.{bytes_of_text, characters_of}
use Rattle.replies.specs.Replies.{ok_line, refusal_line, no_line}
use Rattle.patterns.specs.Patterns.{row_of}
use Rattle.printouts.specs.Lines.{TranscribePrints, ReadPrints, prints_cells, prints_text, prints_refusal, reply_of, row_reply, text_reply}

-- THE REPLY: to 0 the line of what was given, to any other number that of a refusal
module _ (n m : ℕ) (bytes : List ℕ) where
  pub reply_given : n ≡ 0 → ok_line bytes ≡ reply_of n m bytes
  reply_given e = rw (eq-eqb n 0 e) refl

  pub reply_refused : (n ≡ 0 → ⊥) → refusal_line n m ≡ reply_of n m bytes
  reply_refused h = rw (ne_eqb n 0 h) refl

  -- no refusal has the number 0
  reply_refusal : (x : Refusal) → n ≡ number_of x → m ≡ second_of x → no_line x ≡ reply_of n m bytes
  reply_refusal x e f =
      ap (λ (k : ℕ). refusal_line k (second_of x)) (sym e) ∙ ap (refusal_line n) (sym f) ∙ reply_refused (λ z. omega (arith, z, e, refusal_not_0 x))

-- OF `transcribe`
module _ (room : ℕ) (line : List ℕ) (n m : ℕ) (row : List ℕ) where
  pub row_given : (r : Row) → PrintAnswer castilian (decoded line) room (gives r) → n ≡ 0 → take m row ≡ r → TranscribePrints room line (row_reply n m row)
  row_given r g e w =
      subst (TranscribePrints room line) (ap (λ (x : Row). ok_line (characters_of x)) (sym w) ∙ reply_given n m (characters_of (take m row)) e) (prints_cells r g)

  pub row_refused : (x : Refusal) → PrintAnswer castilian (decoded line) room (refuses x) → n ≡ number_of x → m ≡ second_of x
      → TranscribePrints room line (row_reply n m row)
  row_refused x h e f = subst (TranscribePrints room line) (reply_refusal n m (characters_of (take m row)) x e f) (prints_refusal x h)

-- OF `read`
module _ (room : ℕ) (line : List ℕ) (n m : ℕ) (text : List ℕ) where
  pub text_given : (t : Text) → RowAnswer castilian (row_of line) room (gives t) → n ≡ 0 → take m text ≡ t → ReadPrints room line (text_reply n m text)
  text_given t g e w =
      subst (ReadPrints room line) (ap (λ (x : Text). ok_line (bytes_of_text x)) (sym w) ∙ reply_given n m (bytes_of_text (take m text)) e) (prints_text t g)

  pub text_refused : (x : Refusal) → RowAnswer castilian (row_of line) room (refuses x) → n ≡ number_of x → m ≡ second_of x → ReadPrints room line (text_reply n m text)
  text_refused x h e f = subst (ReadPrints room line) (reply_refusal n m (bytes_of_text (take m text)) x e f) (prints_refusal x h)

-- THERE IS ROOM for what the rules give
pub room_for_row : (p : Text) (room : ℕ) (r : Row) → PrintAnswer castilian p room (gives r) → length r ≤ room
room_for_row p room r (transcribed s l e k) = k

pub room_for_text_lem : (r : Row) (room : ℕ) (t : Text) → RowAnswer castilian r room (gives t) → length t ≤ room
room_for_text_lem r room t (read u h k) = k
