-- `answered`: each question is decided by what its function found, and of a run by whether a capital follows (`supposed_run`). Assumes nothing.
use mathlib.Core.Path.{sym, ap, ◌∙◌}
use mathlib.Core.Logic.{inl}
use mathlib.Core.Bool.{true, false}
use Prim.Native.Nat.{ℕ}
use Rattle.rules.specs.Castilian.{castilian}
use Rattle.rules.specs.Sorts.{class}
use Rattle.rules.specs.Rows.{sort_in}
use Rattle.turns.specs.Ahead.{is_capital, future_at}
use Rattle.turns.proofs.Ahead.{zero_unlisted, supposed_run, no_run}
use Rattle.deeds.specs.Numbers.{question_number}
use Rattle.deeds.proofs.Machine.{settled_alone, settled_number, settled_point, settled_one}
use Rattle.turns.proofs.answered.Goals as goal

pub returns-in-BeginsRun : goal.returns-in-BeginsRun
returns-in-BeginsRun c =
    supposed_run castilian zero_unlisted c.args.text.now c.args.next (question_number c.args.question) (ap question_number c.in-BeginsRun.is)
    (sym (c.is_capital.ensures ∙ ap (λ (n : ℕ). is_capital (class (sort_in castilian n))) c.point_at.ensures) ∙ c.if-is_capital.true)

pub returns-in-BeginsRun-2 : goal.returns-in-BeginsRun-2
returns-in-BeginsRun-2 c =
    inl (settled_alone (question_number c.args.question) (future_at castilian c.args.text.now c.args.next) (ap question_number c.in-BeginsRun-2.is)
    (no_run castilian zero_unlisted c.args.text.now c.args.next
    (sym (c.is_capital.ensures ∙ ap (λ (n : ℕ). is_capital (class (sort_in castilian n))) c.point_at.ensures) ∙ c.if-is_capital.false)))

pub returns-in-BeginsNumber : goal.returns-in-BeginsNumber
returns-in-BeginsNumber c =
    inl (settled_number (question_number c.args.question) (future_at castilian c.args.text.now c.args.next) c.form_follows.result true c.if-form_follows.true (ap question_number c.in-BeginsNumber.is)
    c.form_follows.ensures)

pub returns-in-BeginsNumber-2 : goal.returns-in-BeginsNumber-2
returns-in-BeginsNumber-2 c =
    inl (settled_number (question_number c.args.question) (future_at castilian c.args.text.now c.args.next) c.form_follows.result false c.if-form_follows.false (ap question_number c.in-BeginsNumber-2.is)
    c.form_follows.ensures)

pub returns-in-NumberPoint : goal.returns-in-NumberPoint
returns-in-NumberPoint c =
    inl (settled_point (question_number c.args.question) (future_at castilian c.args.text.now c.args.next) c.digit_follows.result true c.if-digit_follows.true (ap question_number c.in-NumberPoint.is)
    c.digit_follows.ensures)

pub returns-in-NumberPoint-2 : goal.returns-in-NumberPoint-2
returns-in-NumberPoint-2 c =
    inl (settled_point (question_number c.args.question) (future_at castilian c.args.text.now c.args.next) c.digit_follows.result false c.if-digit_follows.false (ap question_number c.in-NumberPoint-2.is)
    c.digit_follows.ensures)

pub returns-in-OneUnder : goal.returns-in-OneUnder
returns-in-OneUnder c =
    inl (settled_one (question_number c.args.question) (future_at castilian c.args.text.now c.args.next) c.digit_follows-in-OneUnder-1.result true c.if-digit_follows-2.true (ap question_number c.in-OneUnder.is)
    c.digit_follows-in-OneUnder-1.ensures)

pub returns-in-OneUnder-2 : goal.returns-in-OneUnder-2
returns-in-OneUnder-2 c =
    inl (settled_one (question_number c.args.question) (future_at castilian c.args.text.now c.args.next) c.digit_follows-in-OneUnder-1.result false c.if-digit_follows-2.false (ap question_number c.in-OneUnder-2.is)
    c.digit_follows-in-OneUnder-1.ensures)
