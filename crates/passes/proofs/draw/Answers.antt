-- `draw`: between two turns the signs drawn, with what is still to come, give the whole answer (`Mid`), or do so once a run that was supposed to be of capitals only
-- is found not to be (`Supposing`). A turn is the pair rule (`marked`, `unmarked`) and the sign; where a code point is written as usual its word says both. The measure is how much of the
-- text is left, and that a run may have to be drawn anew. Assumes nothing.
use mathlib.Core.Path.{◌≡◌, refl, sym, ap, ◌∙◌, subst}
use Prim.Native.Nat.{ℕ, ◌+◌, ◌%◌, ◌≤◌, ◌<◌}
use native.Mathlib.Omega.{arith}
use lib.ListN.{length, get_or, take}
use Rattle.std.specs.Prelude.{Result, Ok, Err}
use Rattle.std.proofs.Common.{slice_set}
use Rattle.rules.specs.Castilian.{castilian}
use Rattle.rules.proofs.States.{Future}
use Rattle.rules.proofs.Rows.{whole_row}
use Rattle.rules.proofs.Plain.{plainly, plainly_length}
use Rattle.entries.specs.States.{free}
use Rattle.entries.specs.Entries.{entry_of, class_in, mark_in}
use Rattle.entries.specs.Numbers.{state_number}
use Rattle.deeds.specs.Acts as act
use Rattle.deeds.specs.Numbers.{act_number, fault_number, deed_number, answer_number}
use Rattle.deeds.specs.declared.Act.{Act}
use Rattle.deeds.specs.declared.Fault.{Fault}
use Rattle.deeds.specs.Stages.{deed_of, Supposed}
use Rattle.deeds.proofs.Machine.{act_small, fault_great}
use Rattle.turns.specs.Ahead.{future_at}
use Rattle.turns.proofs.Ahead.{future_plainly}
use Rattle.writing.specs.Joined.{joined}
use Rattle.passes.specs.Passes.{Answer, sign_by, measured_of}
use Rattle.passes.proofs.Going.{held}
use Rattle.passes.specs.Middle.{Mid, Supposing}
use Rattle.passes.proofs.Drawing.{Passed, told_mark, told_none, passed_none, passed_mark, not_passed, mark_small, act_is, mid_start, mid_broken, mid_fault, mid_done, mid_open}
use Rattle.passes.proofs.Supposing.{supposing, was_supposed, some_place, some_cell, undone, stood, stood_at_end, at_end, turned, fault_settled, less_anew, less_on}
use Rattle.passes.proofs.draw.Goals as goal
use Rattle.passes.proofs.draw.Lts as lts
use Rattle.passes.proofs.draw.Tie as tie
use Rattle.passes.proofs.draw.Reads as reads
use Rattle.passes.proofs.draw.Goals.{in-Some-mark+in-Some-pairs_after, in_default}

pub loop-i-init : goal.loop-i-init
loop-i-init c =
    let p = c.args.text.now in
    supposing castilian held (plainly p) c.args.signs.now c.args.signs.now 0 free 0 0
    (mid_start castilian held (plainly p) c.args.signs.now (omega (arith, plainly_length p, c.requires.1)))

-- the text's end
pub loop-i-smaller-in-None : goal.loop-i-smaller-in-None
loop-i-smaller-in-None c =
    let r = c.draw_usual-reached in
    let more : c.loop-i.i < length c.args.text.now = c.loop-i-test.true in
    less_on (length c.args.text.now) c.loop-i.i (state_number c.loop-i.state) r.result.place (state_number r.result.state) more
    (omega (arith, plainly_length c.args.text.now, r.ensures.no_word c.in-None.is))

pub loop-i-preserved-in-None : goal.loop-i-preserved-in-None
loop-i-preserved-in-None c =
    let t = plainly c.args.text.now in
    let r = c.draw_usual-reached in
    supposing castilian held t c.args.signs.now r.new.signs c.loop-i.opened (state_number r.result.state) r.result.cells r.result.place
    (stood_at_end castilian held t c.args.signs.now c.loop-i.invariant r.ensures c.in-None.is)

-- the first capital of a run is made anew
pub overflow_sub-i : goal.overflow_sub-i
overflow_sub-i c =
    some_place castilian held (plainly c.args.text.now) c.args.signs.now c.loop-i.invariant c.draw_usual-reached.ensures c.in-Some.entry c.in-Some.is
    (sym c.is_small_among_capitals.ensures ∙ c.if-is_small_among_capitals.true)

pub overflow_sub-signs : goal.overflow_sub-signs
overflow_sub-signs c =
    some_place castilian held (plainly c.args.text.now) c.args.signs.now c.loop-i.invariant c.draw_usual-reached.ensures c.in-Some.entry c.in-Some.is
    (sym c.is_small_among_capitals.ensures ∙ c.if-is_small_among_capitals.true)

pub overflow_sub-n : goal.overflow_sub-n
overflow_sub-n c =
    some_cell castilian held (plainly c.args.text.now) c.args.signs.now c.loop-i.invariant c.draw_usual-reached.ensures c.in-Some.entry c.in-Some.is
    (sym c.is_small_among_capitals.ensures ∙ c.if-is_small_among_capitals.true)

pub loop-i-smaller-then-is_small_among_capitals : goal.loop-i-smaller-then-is_small_among_capitals
loop-i-smaller-then-is_small_among_capitals c =
    less_anew (length c.args.text.now) c.loop-i.i (state_number c.loop-i.state)
    (was_supposed castilian held (plainly c.args.text.now) c.args.signs.now c.loop-i.invariant c.draw_usual-reached.ensures c.in-Some.entry c.in-Some.is
    (sym c.is_small_among_capitals.ensures ∙ c.if-is_small_among_capitals.true))

pub loop-i-preserved-then-is_small_among_capitals : goal.loop-i-preserved-then-is_small_among_capitals
loop-i-preserved-then-is_small_among_capitals c =
    undone castilian held (plainly c.args.text.now) c.args.signs.now c.loop-i.invariant c.draw_usual-reached.ensures c.in-Some.entry c.in-Some.is
    (sym c.is_small_among_capitals.ensures ∙ c.if-is_small_among_capitals.true) c.alone.result c.alone.ensures

-- a turn
pub pairs_after-requires : goal.pairs_after-requires
pairs_after-requires c =
    let t = plainly c.args.text.now in
    let r = c.draw_usual-reached in
    let mid = stood castilian held t c.args.signs.now c.loop-i.invariant r.ensures c.in-Some.entry c.in-Some.is (sym c.is_small_among_capitals.ensures ∙ c.if-is_small_among_capitals.false) in
    let m = told_mark (mark_in c.in-Some-2.entry.word) c.in-Some-mark.mark (sym c.mark.ensures ∙ c.in-Some-mark.is) in
    let mark_is = m.0 ∙ ap mark_in (r.ensures.word c.in-Some-2.entry c.in-Some-2.is).1 in
    (mid.few, m.1, mark_small castilian held t c.loop-i.opened r.result.place mid.few c.in-Some-mark.mark mark_is m.1)

pub returns-in_default-pairs_after : goal.returns-in_default-pairs_after
returns-in_default-pairs_after c =
    let t = plainly c.args.text.now in
    let r = c.draw_usual-reached in
    let mid = stood castilian held t c.args.signs.now c.loop-i.invariant r.ensures c.in-Some.entry c.in-Some.is (sym c.is_small_among_capitals.ensures ∙ c.if-is_small_among_capitals.false) in
    let m = told_mark (mark_in c.in-Some-2.entry.word) c.in-Some-mark.mark (sym c.mark.ensures ∙ c.in-Some-mark.is) in
    let word = r.ensures.word c.in-Some-2.entry c.in-Some-2.is in (
      mid_broken castilian held t c.args.signs.now r.new.signs c.loop-i.opened (state_number r.result.state) r.result.cells r.result.place mid word.0
          (not_passed castilian held t c.loop-i.opened r.result.place mid.few c.in-Some-mark.mark (m.0 ∙ ap mark_in word.1) m.1
          (sym c.pairs_after.ensures ∙ c.in_default-pairs_after.is)),
      tt,
    )

-- the pair rule is done, and the deed is known
abbrev Met : Type 0
Met = lts.After-settled tie.the-claims reads.Pre reads.Post goal.the-invariant-loop-i goal.the-decreases-loop-i

abbrev here : Met → ℕ
here c = c.draw_usual-reached.result.place

met : (c : Met) → let r = c.draw_usual-reached in
    Mid castilian (plainly c.args.text.now) c.args.signs.now r.new.signs c.loop-i.opened (state_number r.result.state) r.result.cells (here c)
met c =
    stood castilian held (plainly c.args.text.now) c.args.signs.now c.loop-i.invariant c.draw_usual-reached.ensures c.in-Some.entry c.in-Some.is
    (sym c.is_small_among_capitals.ensures ∙ c.if-is_small_among_capitals.false)

word : (c : Met) → (here c < length (plainly c.args.text.now)) × (c.in-Some-2.entry.word ≡ entry_of castilian (get_or (plainly c.args.text.now) (here c) 0))
word c = c.draw_usual-reached.ensures.word c.in-Some-2.entry c.in-Some-2.is

passed : (c : Met) → Passed castilian (plainly c.args.text.now) c.loop-i.opened (here c) c.match-mark.opened
passed c =
    let t = plainly c.args.text.now in
    elim c.match-mark.branch [
      | in-Some-mark+in-Some-pairs_after w ↦ let m = told_mark (mark_in c.in-Some-2.entry.word) w.in-Some-mark.mark (sym c.mark.ensures ∙ w.in-Some-mark.is) in
          subst (Passed castilian t c.loop-i.opened (here c)) (sym w.opened-is)
          (passed_mark castilian held t c.loop-i.opened (here c) (met c).few w.in-Some-mark.mark (m.0 ∙ ap mark_in (word c).1) m.1 _
          (sym w.pairs_after.ensures ∙ w.in-Some-pairs_after.is))
      | in_default w ↦
          passed_none castilian held t c.loop-i.opened (here c) (met c).few
          (sym (ap mark_in (word c).1) ∙ told_none (mark_in c.in-Some-2.entry.word) (sym c.mark.ensures ∙ w.in_default.is)) c.match-mark.opened w.opened-is
    ]

-- in the rules' words, as far as a run is not supposed
abbrev deed : Met → ℕ
deed c = deed_of (state_number c.draw_usual-reached.result.state) (class_in (entry_of castilian (get_or (plainly c.args.text.now) (here c) 0)))

deed_told : (c : Met) → Supposed (deed c) (future_at castilian (plainly c.args.text.now) (here c + 1)) (answer_number c.settled.result)
deed_told c =
    let p = c.args.text.now in
    let d = deed_number c.deed_of-told.result in
    let a = answer_number c.settled.result in
    let told = c.deed_of-told.ensures ∙ ap (deed_of (state_number c.draw_usual-reached.result.state)) (c.class.ensures ∙ ap class_in (word c).1) in
    subst (λ (q : ℕ). Supposed q (future_at castilian (plainly p) (here c + 1)) a) told
    (subst (λ (f : Future). Supposed d f a) (sym (future_plainly p (here c + 1))) c.settled.ensures)

pub returns-in-Err : goal.returns-in-Err
returns-in-Err c =
    let h : Met = c.before.before.before in
    let t = plainly c.args.text.now in
    let r = c.draw_usual-reached in
    let x = fault_number c.in-Err.fault in
    let f = future_at castilian t (r.result.place + 1) in
    let told = subst (λ (a : Result Act Fault). Supposed (deed h) f (answer_number a)) c.in-Err.is (deed_told h) in (
      ap Err c.fault_of.ensures
          ∙ mid_fault castilian held t c.args.signs.now r.new.signs c.loop-i.opened (state_number r.result.state) r.result.cells r.result.place (met h) (word h).0 c.match-mark.opened (passed h) x
          (act_is castilian held t (met h).past r.result.place (state_number r.result.state) (met h).at x (fault_settled (deed h) x f told (fault_great c.in-Err.fault))) (fault_great c.in-Err.fault),
      tt,
    )

pub overflow_add-n : goal.overflow_add-n
overflow_add-n c =
    let t = plainly c.args.text.now in
    let r = c.draw_usual-reached in
    let mid = stood castilian held t c.args.signs.now c.loop-i.invariant r.ensures c.in-Some.entry c.in-Some.is (sym c.is_small_among_capitals.ensures ∙ c.if-is_small_among_capitals.false) in
    omega (arith, c.count_of.ensures.1, mid.low, mid.inside, plainly_length c.args.text.now, c.requires.0)

pub loop-i-preserved : goal.loop-i-preserved
loop-i-preserved c =
    let h : Met = c.before.before.before.before.before.before.before in
    let t = plainly c.args.text.now in
    let r = c.draw_usual-reached in
    let d = act_number c.in-Ok.act in
    let told = subst (λ (a : Result Act Fault). Supposed (deed h) (future_at castilian t (r.result.place + 1)) (answer_number a)) c.in-Ok.is (deed_told h) in
    let sign_is = c.sign_of-sign.ensures ∙ ap (λ (w : ℕ). sign_by w c.in-Some-2.entry.word) c.way.ensures ∙ ap (sign_by (d % act.ways)) (word h).1 in
    subst (λ (s : ℕ). Supposing castilian t c.args.signs.now (slice_set r.new.signs r.result.place c.sign_of-sign.result) c.match-mark.opened s (r.result.cells + c.count_of.result) (r.result.place + 1))
    (sym c.then-state.ensures)
    (turned castilian held t c.args.signs.now (met h) (word h).0 (passed h) d (act_small c.in-Ok.act) c.sign_of-sign.result c.count_of.result sign_is c.count_of.ensures.0 _ _ refl refl told)

-- the text's end
pub returns-then-opened-eq0 : goal.returns-then-opened-eq0
returns-then-opened-eq0 c =
    let p = c.args.text.now in
    let l = c.loop-i in
    let ended : length (plainly p) ≤ l.i = omega (arith, plainly_length p, c.loop-i-test.false) in
    subst (λ (n : ℕ). (◌≡◌ {A = Answer} (Ok l.n) (measured_of castilian (plainly p))) × (joined (take n l.signs) ≡ whole_row castilian (plainly p))) (plainly_length p)
    (mid_done castilian held (plainly p) c.args.signs.now l.signs l.opened (state_number l.state) l.n l.i (at_end castilian held (plainly p) c.args.signs.now l.invariant ended) ended c.if-opened-eq0.true)

pub returns-else-opened-eq0 : goal.returns-else-opened-eq0
returns-else-opened-eq0 c =
    let p = c.args.text.now in
    let l = c.loop-i in
    let ended : length (plainly p) ≤ l.i = omega (arith, plainly_length p, c.loop-i-test.false) in
    (mid_open castilian held (plainly p) c.args.signs.now l.signs l.opened (state_number l.state) l.n l.i (at_end castilian held (plainly p) c.args.signs.now l.invariant ended) ended c.if-opened-eq0.false, tt)
