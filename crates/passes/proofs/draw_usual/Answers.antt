-- `draw_usual`: between two turns the pass has come on from where it began, whatever pairs are open (`Under`). Assumes nothing.
use mathlib.Core.Path.{◌≡◌, refl, sym, ap, ◌∙◌, subst}
use mathlib.Core.List.{List}
use Prim.Native.Nat.{ℕ, ◌+◌, ◌≤◌, ◌<◌}
use native.Mathlib.Omega.{arith}
use lib.ListN.{length, get_or}
use Rattle.rules.specs.Castilian.{castilian}
use Rattle.rules.proofs.Plain.{plainly, plainly_length, plainly_at}
use Rattle.entries.specs.Entries.{entry_of, sign_in, then_in, usual_in}
use Rattle.entries.specs.Numbers.{state_number}
use Rattle.entries.specs.declared.State.{State}
use Rattle.entries.proofs.Facts.{state_small}
use Rattle.deeds.specs.Acts as act
use Rattle.passes.specs.Passes.{sign_by, capital_among_small}
use Rattle.passes.proofs.Going.{held}
use Rattle.passes.proofs.Carrying.{Under, under_start, under_usual, under_apart, reached, reached_end}
use Rattle.passes.proofs.draw_usual.Goals as goal
use Rattle.passes.proofs.draw_usual.Lts as lts
use Rattle.passes.proofs.draw_usual.Tie as tie
use Rattle.passes.proofs.draw_usual.Reads as reads
use Rattle.passes.proofs.draw_usual.Goals.{then-is_usual, else-is_usual+then-is_capital_among_small}

-- once it is known whether the code point is written as usual
abbrev U : Type 0
U = lts.After-is_usual tie.the-claims reads.Pre reads.Post goal.the-invariant-loop-i goal.the-decreases-loop-i

-- the text as it is looked up, which is as long as the print
abbrev text : U → List ℕ
text u = plainly u.args.text.now

long : (u : U) → length (text u) ≡ length u.args.text.now
long u = plainly_length u.args.text.now

inside : (u : U) → u.loop-i.i < length (text u)
inside u = subst (λ (n : ℕ). u.loop-i.i < n) (sym (long u)) u.loop-i-test.true

-- its word, and what that says of the state
entry-is : (u : U) → u.entry_of-entry.result.word ≡ entry_of castilian (get_or (text u) u.loop-i.i 0)
entry-is u = u.entry_of-entry.ensures ∙ ap (entry_of castilian) (sym (plainly_at u.args.text.now u.loop-i.i))

usual-told : (u : U) → u.is_usual.result ≡ usual_in (entry_of castilian (get_or (text u) u.loop-i.i 0)) (state_number u.loop-i.state)
usual-told u = u.is_usual.ensures ∙ ap (λ (w : ℕ). usual_in w (state_number u.loop-i.state)) (entry-is u)

pub loop-i-init : goal.loop-i-init
loop-i-init c =
    under_start castilian held (plainly c.args.text.now) c.args.signs.now (state_number c.args.begun) c.args.counted c.args.from
    (subst (λ (n : ℕ). c.args.from ≤ n) (sym (plainly_length c.args.text.now)) c.requires.2) c.requires.3 (state_small c.args.begun)

pub returns-else-is_capital_among_small : goal.returns-else-is_capital_among_small
returns-else-is_capital_among_small c =
    let u : U = c.before.before.before.before in
    reached castilian held (text u) u.args.signs.now (state_number u.args.begun) u.args.counted u.args.from u.loop-i.signs u.loop-i.state u.loop-i.n u.loop-i.i u.loop-i.invariant
    (inside u) u.entry_of-entry.result (entry-is u) (sym (usual-told u) ∙ c.if-is_usual.false)

pub loop-i-preserved : goal.loop-i-preserved
loop-i-preserved c =
    let u : U = c.before.before in
    elim c.if-is_usual.branch [
      | then-is_usual w ↦ under_usual castilian held (text u) u.args.signs.now (state_number u.args.begun) u.args.counted u.args.from u.loop-i.signs (state_number u.loop-i.state) u.loop-i.n u.loop-i.i u.loop-i.invariant
          (inside u) w.sign-sign.result w.count_of-n.result c.if-is_usual.signs c.if-is_usual.n w.signs-is w.n-is (sym (usual-told u) ∙ w.if-is_usual.true) (state_number c.if-is_usual.state)
          (w.sign-sign.ensures ∙ ap sign_in (entry-is u)) (ap state_number w.state-is ∙ w.then-state.ensures ∙ ap then_in (entry-is u)) w.count_of-n.ensures.0 w.count_of-n.ensures.1
      | else-is_usual+then-is_capital_among_small w ↦ subst (λ (x : State). Under castilian (text u) u.args.signs.now c.if-is_usual.signs (state_number u.args.begun) u.args.counted u.args.from (state_number x) c.if-is_usual.n (u.loop-i.i + 1)) (sym w.state-is)
          (under_apart castilian held (text u) u.args.signs.now (state_number u.args.begun) u.args.counted u.args.from u.loop-i.signs (state_number u.loop-i.state) u.loop-i.n u.loop-i.i u.loop-i.invariant
          (inside u) w.sign_of.result 2 c.if-is_usual.signs c.if-is_usual.n w.signs-is w.n-is
          (sym (w.is_capital_among_small.ensures ∙ ap (capital_among_small (state_number u.loop-i.state)) (entry-is u)) ∙ w.if-is_capital_among_small.true)
          (w.sign_of.ensures ∙ ap (sign_by act.one_capital_way) (entry-is u)) refl)
    ]

pub returns : goal.returns
returns c =
    reached_end castilian held (plainly c.args.text.now) c.args.signs.now (state_number c.args.begun) c.args.counted c.args.from c.loop-i.signs c.loop-i.state c.loop-i.n c.loop-i.i c.loop-i.invariant
    (length c.args.text.now) (sym (plainly_length c.args.text.now)) (omega (arith, c.loop-i.invariant.inside, plainly_length c.args.text.now, c.loop-i-test.false))
