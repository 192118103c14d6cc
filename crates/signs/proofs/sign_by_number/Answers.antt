-- `sign_by_number`: the deed is that of the number's last four bits (`deed_same`); of what it asks, that of a capital alone hangs on the mode (`number_same`, and `mode_before`). Assumes nothing.
use mathlib.Core.Bool.{false}
use mathlib.Core.List.{List}
use mathlib.Core.Path.{◌≡◌, refl, ap, ◌∙◌}
use Prim.Native.Nat.{ℕ, ◌+◌, ◌%◌}
use native.Mathlib.Omega.{arith}
use Rattle.readings.specs.Modes.{number_of, mode_at}
use Rattle.readings.specs.Acts as act
use Rattle.readings.specs.Acts.{deed_number}
use Rattle.readings.specs.Fields.{deed_of, class_in, class_number, usual_in, cell_of}
use Rattle.readings.specs.Words.{word_of}
use Rattle.readings.specs.Readings.{step_of}
use Rattle.readings.specs.declared.Class.{Class}
use Rattle.readings.specs.declared.Deed.{Deed}
use Rattle.readings.specs.declared.Deed.TheVariants as a
use Rattle.readings.specs.declared.Mode.{Mode}
use Rattle.readings.proofs.Numbers.{number_small}
use Rattle.signs.proofs.Cases.{deed_same, told_usual, told_capital_sign, number_same, no_usual}
use Rattle.signs.proofs.sign_by_number.Goals as goal

-- the deed that is looked up, by the mode of the last four bits, and so by the number
module _ (n w : ℕ) (m : Mode) (c : Class) (d : Deed) (told : deed_number d ≡ deed_of (number_of m) (class_number c)) (class : class_number c ≡ class_in w) where
  by_mode : deed_number d ≡ deed_of (number_of m) (class_in w)
  by_mode = told ∙ ap (deed_of (number_of m)) class

  by_number : m ≡ mode_at (n % 16) → deed_number d ≡ deed_of n (class_in w)
  by_number its = by_mode ∙ deed_same n m its (class_in w)

-- what is none of the two has neither's number
neither : (d : Deed) → (d ≡ a.AsUsual → ⊥) → (d ≡ a.Capital → ⊥) → (deed_number d ≡ act.as_usual → ⊥) × (deed_number d ≡ act.capital → ⊥)
neither a.NoSign u k = (λ e. omega (arith, e), λ e. omega (arith, e))
neither a.AsUsual u k = (λ e. u refl, λ e. omega (arith, e))
neither a.Digit u k = (λ e. omega (arith, e), λ e. omega (arith, e))
neither a.DigitUnder u k = (λ e. omega (arith, e), λ e. omega (arith, e))
neither a.CapitalOfMany u k = (λ e. omega (arith, e), λ e. omega (arith, e))
neither a.LowerDigit u k = (λ e. omega (arith, e), λ e. omega (arith, e))
neither a.Denominator u k = (λ e. omega (arith, e), λ e. omega (arith, e))
neither a.MasculineMark u k = (λ e. omega (arith, e), λ e. omega (arith, e))
neither a.Point u k = (λ e. omega (arith, e), λ e. omega (arith, e))
neither a.OneOrFeminine u k = (λ e. omega (arith, e), λ e. omega (arith, e))
neither a.HyphenOrDash u k = (λ e. omega (arith, e), λ e. omega (arith, e))
neither a.DashOnly u k = (λ e. omega (arith, e), λ e. omega (arith, e))
neither a.NumberSign u k = (λ e. omega (arith, e), λ e. omega (arith, e))
neither a.Capital u k = (λ e. omega (arith, e), λ e. k refl)
neither a.Separates u k = (λ e. omega (arith, e), λ e. omega (arith, e))
neither a.Prefixed u k = (λ e. omega (arith, e), λ e. omega (arith, e))

pub returns-in-AsUsual : goal.returns-in-AsUsual
returns-in-AsUsual c =
    c.prefixed.ensures
    ∙ told_usual c.args.row.now c.args.at c.args.mode c.args.opened c.args.word c.requires.3 c.requires.4 (deed_number c.deed_of.result)
    (by_number c.args.mode c.args.word c.mode_at-its.result c.class_in.result c.deed_of.result c.deed_of.ensures c.class_in.ensures c.mode_at-its.ensures) (ap deed_number c.in-AsUsual.is)

pub returns-in-Capital : goal.returns-in-Capital
returns-in-Capital c =
    c.capital.ensures
    ∙ ap (step_of c.args.at c.args.opened) (c.mode_before.ensures (cell_of c.args.row.now (c.args.at + 1)) (cell_of c.args.row.now (c.args.at + 2)))
    ∙ told_capital_sign c.args.row.now c.args.at c.args.mode c.args.opened c.args.word c.requires.3 c.requires.4 (deed_number c.deed_of.result)
    (by_number c.args.mode c.args.word c.mode_at-its.result c.class_in.result c.deed_of.result c.deed_of.ensures c.class_in.ensures c.mode_at-its.ensures) (ap deed_number c.in-Capital.is)

-- the others: what the mode reads as usual is none of them
module _ (row : List ℕ) (at w : ℕ) (m : Mode) (e : w ≡ word_of (cell_of row at)) (d : Deed) (told : deed_number d ≡ deed_of (number_of m) (class_in w)) where
  unusual : (deed_number d ≡ act.as_usual → ⊥) → usual_in w (number_of m) ≡ false
  unusual n = no_usual row at (number_of m) w (number_small m) e (λ q. n (told ∙ q))

pub sign_at-requires : goal.sign_at-requires
sign_at-requires c = (
  c.requires.0,
  c.requires.1,
  c.requires.2,
  c.requires.3,
  unusual c.args.row.now c.args.at c.args.word c.mode_at-its.result c.requires.3 c.deed_of.result
      (by_mode c.args.mode c.args.word c.mode_at-its.result c.class_in.result c.deed_of.result c.deed_of.ensures c.class_in.ensures)
      (neither c.deed_of.result c.in_default.not-AsUsual c.in_default.not-Capital).0,
)

pub returns-in_default : goal.returns-in_default
returns-in_default c =
    let n = neither c.deed_of.result c.in_default.not-AsUsual c.in_default.not-Capital in
    let m = by_mode c.args.mode c.args.word c.mode_at-its.result c.class_in.result c.deed_of.result c.deed_of.ensures c.class_in.ensures in
    c.sign_at.ensures
    ∙ number_same c.args.row.now c.args.at (number_of c.mode_at-its.result) c.args.mode c.args.opened c.args.word (deed_number c.deed_of.result) c.requires.3
    (unusual c.args.row.now c.args.at c.args.word c.mode_at-its.result c.requires.3 c.deed_of.result m n.0) c.requires.4 m
    (by_number c.args.mode c.args.word c.mode_at-its.result c.class_in.result c.deed_of.result c.deed_of.ensures c.class_in.ensures c.mode_at-its.ensures) n.1
