-- `step_row`: three walks, one behind the other, go over the row once (`Seeing`): they say whether it has a text, how long that is, and which sign starts at the
-- place. Assumes nothing.
use mathlib.Core.Path.{sym, ◌∙◌}
use native.Mathlib.Omega.{arith}
use Rattle.walks.proofs.Walking.{leads_nowhere}
use Rattle.reader.proofs.Parts.{went, from_start, lost, not_to_end}
use Rattle.reader.proofs.Answering.{unread_from_front, row_long_text}
use Rattle.stepper.proofs.Seeing.{lost_behind, few_parts, told_parts, no_sign_seen, sign_seen, one_point, two_points}
use Rattle.stepper.proofs.Answering.{step_still, step_sign, step_refused}
use Rattle.stepper.proofs.step_row.Goals as goal

-- a walk comes nowhere
pub unread-requires : goal.unread-requires
unread-requires c = unread_from_front c.args.row.now c.if-row-gt-LONGEST_ROW.false (lost (from_start c.at_start.ensures c.walk.ensures) c.in_default.is).none_left

pub unread-requires-in_default-walk : goal.unread-requires-in_default-walk
unread-requires-in_default-walk c =
    unread_from_front c.args.row.now c.if-row-gt-LONGEST_ROW.false
    (leads_nowhere (went (from_start c.at_start.ensures c.walk.ensures) c.in-Ok.is).0.leads (lost c.walk-2.ensures c.in_default-walk.is).none_left)

pub unread-requires-in_default-walk-2 : goal.unread-requires-in_default-walk-2
unread-requires-in_default-walk-2 c =
    unread_from_front c.args.row.now c.if-row-gt-LONGEST_ROW.false
    (lost_behind (went (from_start c.at_start.ensures c.walk.ensures) c.in-Ok.is).0 (went c.walk-2.ensures c.in-Ok-walk.is).0 (lost c.walk-3.ensures c.in_default-walk-2.is).none_left)

-- something is open at the end
pub unread-requires-then-not-ends : goal.unread-requires-then-not-ends
unread-requires-then-not-ends c =
    unread_from_front c.args.row.now c.if-row-gt-LONGEST_ROW.false
    (lost_behind (went (from_start c.at_start.ensures c.walk.ensures) c.in-Ok.is).0 (went c.walk-2.ensures c.in-Ok-walk.is).0
    (not_to_end (went c.walk-3.ensures c.in-Ok-walk-2.is).0 (sym c.ends.ensures ∙ c.if-not-ends.true)))

-- the row has a text
pub overflow_add-count : goal.overflow_add-count
overflow_add-count c =
    omega (arith, few_parts (went (from_start c.at_start.ensures c.walk.ensures) c.in-Ok.is).0 (went c.walk-2.ensures c.in-Ok-walk.is).0 (went c.walk-3.ensures c.in-Ok-walk-2.is).0 c.if-row-gt-LONGEST_ROW.false)

pub overflow_add-count-2 : goal.overflow_add-count-2
overflow_add-count-2 c =
    omega (arith, few_parts (went (from_start c.at_start.ensures c.walk.ensures) c.in-Ok.is).0 (went c.walk-2.ensures c.in-Ok-walk.is).0 (went c.walk-3.ensures c.in-Ok-walk-2.is).0 c.if-row-gt-LONGEST_ROW.false)

pub returns-then-count-gt-LONGEST_TEXT : goal.returns-then-count-gt-LONGEST_TEXT
returns-then-count-gt-LONGEST_TEXT c =
    let told = told_parts (went (from_start c.at_start.ensures c.walk.ensures) c.in-Ok.is).0 (went c.walk-2.ensures c.in-Ok-walk.is).0 (went c.walk-3.ensures c.in-Ok-walk-2.is).0 (sym c.ends.ensures ∙ c.if-not-ends.false) in
    step_refused c.args.row.now _ (row_long_text c.args.row.now c.if-row-gt-LONGEST_ROW.false told c.if-count-gt-LONGEST_TEXT.true) c.args.place

pub returns-then-behind-here : goal.returns-then-behind-here
returns-then-behind-here c =
    let w₁ = (went (from_start c.at_start.ensures c.walk.ensures) c.in-Ok.is).0 in
    let w₂ = (went c.walk-2.ensures c.in-Ok-walk.is).0 in
    let w₃ = (went c.walk-3.ensures c.in-Ok-walk-2.is).0 in
    let ended = sym c.ends.ensures ∙ c.if-not-ends.false in
    step_still c.args.row.now c.if-row-gt-LONGEST_ROW.false (told_parts w₁ w₂ w₃ ended) c.args.place c.if-count-gt-LONGEST_TEXT.false
    (no_sign_seen w₁ w₂ w₃ ended c.args.place c.stop_before.ensures c.stop_behind.ensures c.if-behind-here.true)

pub returns-then-behind-eq1 : goal.returns-then-behind-eq1
returns-then-behind-eq1 c =
    let w₁ = (went (from_start c.at_start.ensures c.walk.ensures) c.in-Ok.is).0 in
    let w₂ = went c.walk-2.ensures c.in-Ok-walk.is in
    let w₃ = (went c.walk-3.ensures c.in-Ok-walk-2.is).0 in
    let ended = sym c.ends.ensures ∙ c.if-not-ends.false in
    let seen = sign_seen w₁ w₂.0 w₃ ended c.args.place c.stop_before.ensures c.stop_behind.ensures c.if-behind-here.false in
    step_sign c.args.row.now c.if-row-gt-LONGEST_ROW.false (told_parts w₁ w₂.0 w₃ ended) c.args.place c.if-count-gt-LONGEST_TEXT.false seen.sign seen.there _
    (one_point w₁ w₂.0 w₃ ended c.args.place c.stop_before.ensures c.stop_behind.ensures c.if-behind-here.false w₂.1 c.if-behind-eq1.true) seen.next_is

pub returns-else-behind-eq1 : goal.returns-else-behind-eq1
returns-else-behind-eq1 c =
    let w₁ = (went (from_start c.at_start.ensures c.walk.ensures) c.in-Ok.is).0 in
    let w₂ = went c.walk-2.ensures c.in-Ok-walk.is in
    let w₃ = (went c.walk-3.ensures c.in-Ok-walk-2.is).0 in
    let ended = sym c.ends.ensures ∙ c.if-not-ends.false in
    let seen = sign_seen w₁ w₂.0 w₃ ended c.args.place c.stop_before.ensures c.stop_behind.ensures c.if-behind-here.false in
    step_sign c.args.row.now c.if-row-gt-LONGEST_ROW.false (told_parts w₁ w₂.0 w₃ ended) c.args.place c.if-count-gt-LONGEST_TEXT.false seen.sign seen.there _
    (two_points w₁ w₂.0 w₃ ended c.args.place c.stop_before.ensures c.stop_behind.ensures c.if-behind-here.false w₂.1 c.if-behind-eq1.false) seen.next_is
