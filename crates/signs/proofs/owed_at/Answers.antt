-- `owed_at`: 46 and a letter, where a small letter is owed (`owed_step`). Assumes nothing.
use mathlib.Core.Path.{sym, ap, ◌∙◌}
use mathlib.Core.Logic.{inr}
use Prim.Native.Nat.{ℕ, ◌+◌}
use native.Mathlib.Omega.{arith}
use Rattle.std.specs.Prelude.{Some}
use Rattle.rules.specs.Cells.{dots}
use Rattle.readings.specs.Fields.{capital_in}
use Rattle.readings.specs.Words.{word_of}
use Rattle.signs.proofs.Cases.{some_shown, cell_low, byte_word, owed_step}
use Rattle.signs.proofs.owed_at.Goals as goal

pub returns : goal.returns
unfolding dots
returns c =
    let r = c.args.row.now in
    let s = some_shown c.capital_in.result c.in_ok-letter.letter (sym c.shown.ensures ∙ c.in_ok-letter.was) in
    inr (
      ap Some c.sign.ensures
          ∙ owed_step r c.args.at c.args.opened c.in_ok-letter.letter (sym (cell_low r c.args.at c.requires.1 (omega (arith, c.if-row-at-ne-D46.false))) ∙ c.if-row-at-ne-D46.false)
          (s.0 ∙ c.capital_in.ensures ∙ ap capital_in c.word_of.ensures ∙ ap (λ (y : ℕ). capital_in (word_of y)) c.byte_at.ensures ∙ ap capital_in (byte_word r (c.args.at + 1))) s.1,
      omega arith,
      (c.in_ok-letter.letter, c.args.at + 2, ap Some c.sign.ensures),
    )
