-- `answer_line`: a long line is told by `is_long`; any other is the line that the room holds, and the program's own function answers it. Assumes nothing.
use mathlib.Core.List.{List}
use mathlib.Core.Path.{◌≡◌, sym, subst, ◌∙◌}
use Prim.Native.Nat.{ℕ}
use native.Mathlib.Omega.{arith}
use lib.ListN.{length, take}
use lib.Seq.{length-take-le}
use Rattle.printouts.specs.Lines.{TranscribePrints, ReadPrints}
use Rattle.limits.specs.declared.Program.{Program}
use Rattle.programs.specs.Answers.{Answered}
use Rattle.programs.proofs.Lines.{long_answered, line_answered}
use Rattle.programs.proofs.answer_line.Goals as goal

pub returns-then-is_long-clause-answers_line : goal.returns-then-is_long-clause-answers_line
returns-then-is_long-clause-answers_line c =
    long_answered c.args.program c.args.line.now c.args.held c.requires.line_len c.args.out.now c.requires.most_bytes_in_bounds _ _ (sym c.is_long.ensures ∙ c.if-is_long.true) c.long_line.ensures

pub slice_bounds-transcribe_line-end-in-Transcribe-2 : goal.slice_bounds-transcribe_line-end-in-Transcribe-2
slice_bounds-transcribe_line-end-in-Transcribe-2 c = sym (length-take-le 12288 c.args.row.now (omega (arith, c.requires.longest_row_line_in_bounds_2)))

pub returns-in-Transcribe-clause-answers_line : goal.returns-in-Transcribe-clause-answers_line
returns-in-Transcribe-clause-answers_line c =
    let t = c.transcribe_line.ensures.transcribes_line in
    let held : List ℕ = take c.args.held c.args.line.now in
    let room : length (take 12288 c.args.row.now) ≡ 12288 = length-take-le 12288 c.args.row.now (omega (arith, c.requires.longest_row_line_in_bounds_2)) in
    line_answered c.args.program c.args.line.now c.args.held c.requires.line_len c.args.out.now c.requires.most_bytes_in_bounds _ _ (sym c.is_long.ensures ∙ c.if-is_long.false) t.printed
    (subst (λ (p : Program). Answered p held t.printed) (sym c.in-Transcribe.is) (subst (λ (n : ℕ). TranscribePrints n held t.printed) room t.right)) t.prints

pub returns-in-Read-clause-answers_line : goal.returns-in-Read-clause-answers_line
returns-in-Read-clause-answers_line c =
    let t = c.read_line.ensures.reads_line in
    let held : List ℕ = take c.args.held c.args.line.now in
    line_answered c.args.program c.args.line.now c.args.held c.requires.line_len c.args.out.now c.requires.most_bytes_in_bounds _ _ (sym c.is_long.ensures ∙ c.if-is_long.false) t.printed
    (subst (λ (p : Program). Answered p held t.printed) (sym c.in-Read.is) (subst (λ (n : ℕ). ReadPrints n held t.printed) c.requires.text_len t.right)) t.prints

pub returns-in-Steps-clause-answers_line : goal.returns-in-Steps-clause-answers_line
returns-in-Steps-clause-answers_line c =
    let t = c.steps_line.ensures.steps_line in
    line_answered c.args.program c.args.line.now c.args.held c.requires.line_len c.args.out.now c.requires.most_bytes_in_bounds _ _ (sym c.is_long.ensures ∙ c.if-is_long.false) t.printed
    (subst (λ (p : Program). Answered p (take c.args.held c.args.line.now) t.printed) (sym c.in-Steps.is) t.right) t.prints
