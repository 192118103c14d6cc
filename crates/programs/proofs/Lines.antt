-- The answer to a line that a room shows. In order: a long line; one that is not long. Assumes nothing.
use mathlib.Core.Bool.{true, false}
use mathlib.Core.List.{List}
use mathlib.Core.Path.{◌≡◌, sym, subst, ◌∙◌}
use Prim.Native.Nat.{ℕ, ◌≤◌, ◌<◌}
use native.Mathlib.Omega.{arith}
use lib.ListN.{length, take}
use borrow.Author.Tests.{ltb-true, ltb-false}
use Rattle.rows.specs.Laid.{laid}
use Rattle.lines.specs.Held.{is_long}
use Rattle.lines.proofs.Claims.{long_exactly, held_is_the_line}
use Rattle.printing.specs.Printed.{Prints}
use Rattle.printing.proofs.Printed.{prints_laid}
use Rattle.replies.specs.Replies.{long_line}
use Rattle.limits.specs.declared.Program.{Program}
use Rattle.limits.specs.Limits.{longest_line, most_bytes}
use Rattle.programs.proofs.Bounds.{most_bytes_lem}
use Rattle.programs.specs.Answers.{Answered, AnswerTo, too_long, answered, AnswersLine}

-- what is printed from the front, where there is room for all of it
all_printed : (out x : List ℕ) (r : ℕ) (new : List ℕ) → length x ≤ length out → Prints out 0 x r new → (r ≡ length x) × (new ≡ laid x out)
all_printed out x r new h p = (omega (arith, h, p.place), prints_laid out x r new p h)

module _ (p : Program) (room : List ℕ) (held : ℕ) (size : length room ≡ longest_line p) (out : List ℕ) (enough : most_bytes ≤ length out)
    (r : ℕ) (new : List ℕ) where
  ended : (line x : List ℕ) → AnswerTo p line x → Prints out 0 x r new → (x : List ℕ) × AnswerTo p line x × (r ≡ length x) × (new ≡ laid x out)
  ended line x a print =
      let done = all_printed out x r new (omega (arith, most_bytes_lem p line x a, enough)) print in
      (x, a, done.0, done.1)

  pub long_answered : is_long room held ≡ true → Prints out 0 long_line r new → AnswersLine p room held out r new
  long_answered e print line h =
      let above : length room < length line = ltb-true (length room) (length line) (sym (long_exactly line room held h) ∙ e) in
      ended line long_line (too_long (omega (arith, above, size))) print

  -- by the program's own function
  pub line_answered : is_long room held ≡ false → (x : List ℕ) → Answered p (take held room) x → Prints out 0 x r new → AnswersLine p room held out r new
  line_answered e x a print line h =
      let short : length line ≤ length room = ltb-false (length room) (length line) (sym (long_exactly line room held h) ∙ e) in
      let right : Answered p line x = subst (λ (l : List ℕ). Answered p l x) (held_is_the_line line room held h e) a in
      ended line x (answered x (omega (arith, short, size)) right) print
