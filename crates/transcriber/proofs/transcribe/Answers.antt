-- `transcribe`: an empty print has the empty row (`promised_empty`), and a print that is too long is longer still when normalised. Any other is answered as it is,
-- with « for “, where that is its normalised text (`same`): where the rules accept it so, since what they accept is normal; and where normalising makes it no
-- longer (`plainly_no_longer`). What is left was refused, and goes through the copy, to a row that is as it was. Assumes nothing.
use mathlib.Core.Path.{◌≡◌, refl, sym, ap, ◌∙◌, subst}
use mathlib.Core.Bool.{true}
use mathlib.Core.List.{List}
use Prim.Native.Nat.{ℕ, ◌≤◌}
use native.Mathlib.Omega.{arith}
use lib.ListN.{length}
use borrow.Author.Tests.{eqb-true}
use Rattle.rules.specs.Cells.{Text}
use Rattle.rules.specs.Castilian.{castilian}
use Rattle.rules.specs.Normal.{normal_of}
use Rattle.rules.specs.Refusals.{longest_text}
use Rattle.rules.proofs.Normal.{normal_longer}
use Rattle.rules.proofs.Plain.{plainly, plainly_length, normal_plainly, plainly_no_longer}
use Rattle.rules.proofs.Rows.{whole_row, good_reads}
use Rattle.rules.proofs.Demands.{accepted_is_normal}
use Rattle.transcriber.specs.Promise.{Transcribed}
use Rattle.passes.specs.Passes.{Answer, answer_of, out_of}
use Rattle.transcriber.specs.Answering.{accepted_by}
use Rattle.transcriber.proofs.Answering.{accepted_good, refused_kept, carried, promised_long, promised_empty}
use Rattle.transcriber.proofs.transcribe.Goals as goal

-- the answer to a print that is its normalised text, with « for “, is the promised one
same : (p : Text) (lent : List ℕ) → length p ≤ longest_text → plainly p ≡ normal_of p → (a : Answer) (new : List ℕ)
    → (a ≡ answer_of castilian (plainly p) (length lent)) × (new ≡ out_of castilian (plainly p) lent) → Transcribed castilian p lent a new
same p lent short e a new h =
    carried castilian p lent (subst (λ (k : ℕ). k ≤ longest_text) (sym (plainly_length p) ∙ ap length e) short) (plainly p) e a new h

-- and where the rules accept it so, it is that
accepted_same : (p : Text) (lent : List ℕ) → length p ≤ longest_text → (a : Answer) (new : List ℕ)
    → (a ≡ answer_of castilian (plainly p) (length lent)) × (new ≡ out_of castilian (plainly p) lent) → accepted_by a ≡ true → Transcribed castilian p lent a new
accepted_same p lent short a new h told =
    let good = accepted_good castilian (plainly p) lent (ap accepted_by (sym h.0) ∙ told) in
    let normal = accepted_is_normal (plainly p) (whole_row castilian (plainly p), good_reads castilian (plainly p) good) in
    same p lent short (sym normal ∙ normal_plainly p) a new h

pub returns-then-is_empty : goal.returns-then-is_empty
returns-then-is_empty c = promised_empty castilian c.args.print.now c.args.row.now (eqb-true (length c.args.print.now) 0 (sym c.if-is_empty.ensures))

pub returns-then-print-gt-LONGEST_TEXT : goal.returns-then-print-gt-LONGEST_TEXT
returns-then-print-gt-LONGEST_TEXT c =
    promised_long castilian c.args.print.now c.args.row.now _ (omega (arith, normal_longer c.args.print.now)) c.normal_length.ensures

pub returns-in-Ok : goal.returns-in-Ok
returns-in-Ok c =
    let t = c.transcribe_normal.ensures in
    accepted_same c.args.print.now c.args.row.now (omega arith) _ _ (sym c.in-Ok.is ∙ t.0, t.1) refl

pub returns-then-accepts : goal.returns-then-accepts
returns-then-accepts c =
    let t = c.transcribe_normal.ensures in
    accepted_same c.args.print.now c.args.row.now (omega arith) _ _ (sym c.in-Err.is ∙ t.0, t.1) (sym c.accepts.ensures ∙ c.if-accepts.true)

pub returns-then-normal_length-print : goal.returns-then-normal_length-print
returns-then-normal_length-print c =
    let p = c.args.print.now in
    let t = c.transcribe_normal.ensures in
    same p c.args.row.now (omega arith) (plainly_no_longer p (omega arith)) _ _ (sym c.in-Err.is ∙ t.0, t.1)

pub returns-else-normal_length-print : goal.returns-else-normal_length-print
returns-else-normal_length-print c =
    let p = c.args.print.now in
    let t = c.transcribe_normal.ensures in
    let told = ap accepted_by (sym t.0 ∙ c.in-Err.is) ∙ sym c.accepts.ensures ∙ c.if-accepts.false in
    subst (λ (x : List ℕ). Transcribed castilian p x c.transcribe_copy.result c.transcribe_copy.new.row)
    (t.1 ∙ refused_kept castilian (plainly p) c.args.row.now told) c.transcribe_copy.ensures
