-- `sign_at`: what the table tells of a cell, by its deed. Assumes nothing.
use mathlib.Core.Path.{◌≡◌, refl, sym, ap, ◌∙◌}
use Prim.Native.Nat.{ℕ}
use Rattle.std.specs.Prelude.{Some}
use Rattle.entries.specs.Chosen.{choose}
use Rattle.readings.specs.Modes.{number_of}
use Rattle.readings.specs.Acts.{deed_number}
use Rattle.readings.specs.Fields.{deed_of}
use Rattle.readings.specs.Readings.{Reading, once_list, step_of}
use Rattle.readings.specs.declared.Deed.{Deed}
use Rattle.readings.specs.declared.Deed.TheVariants as a
use Rattle.signs.proofs.Cases.{told_by, told_none, told_digit, told_under, told_capital, told_lower, told_denominator, told_masculine}
use Rattle.signs.proofs.sign_at.Goals as goal

-- what is no deed of the cell alone is asked
asks : (d : Deed) (w : ℕ) (x : Reading) → (d ≡ a.NoSign → ⊥) → (d ≡ a.Digit → ⊥) → (d ≡ a.DigitUnder → ⊥) → (d ≡ a.CapitalOfMany → ⊥) → (d ≡ a.LowerDigit → ⊥) → (d ≡ a.Denominator → ⊥) → (d ≡ a.MasculineMark → ⊥) → choose (once_list w) (deed_number d) x ≡ x
asks a.NoSign w x n0 n1 n2 n3 n4 n5 n6 = absurd (n0 refl)
asks a.AsUsual w x n0 n1 n2 n3 n4 n5 n6 = refl
asks a.Digit w x n0 n1 n2 n3 n4 n5 n6 = absurd (n1 refl)
asks a.DigitUnder w x n0 n1 n2 n3 n4 n5 n6 = absurd (n2 refl)
asks a.CapitalOfMany w x n0 n1 n2 n3 n4 n5 n6 = absurd (n3 refl)
asks a.LowerDigit w x n0 n1 n2 n3 n4 n5 n6 = absurd (n4 refl)
asks a.Denominator w x n0 n1 n2 n3 n4 n5 n6 = absurd (n5 refl)
asks a.MasculineMark w x n0 n1 n2 n3 n4 n5 n6 = absurd (n6 refl)
asks a.Point w x n0 n1 n2 n3 n4 n5 n6 = refl
asks a.OneOrFeminine w x n0 n1 n2 n3 n4 n5 n6 = refl
asks a.HyphenOrDash w x n0 n1 n2 n3 n4 n5 n6 = refl
asks a.DashOnly w x n0 n1 n2 n3 n4 n5 n6 = refl
asks a.NumberSign w x n0 n1 n2 n3 n4 n5 n6 = refl
asks a.Capital w x n0 n1 n2 n3 n4 n5 n6 = refl
asks a.Separates w x n0 n1 n2 n3 n4 n5 n6 = refl
asks a.Prefixed w x n0 n1 n2 n3 n4 n5 n6 = refl

pub returns-in-NoSign : goal.returns-in-NoSign
returns-in-NoSign c =
    told_none c.args.row.now c.args.at (number_of c.args.mode) c.args.opened c.args.word c.requires.3 c.requires.4 (deed_number c.deed_of-deed.result)
    (c.deed_of-deed.ensures ∙ ap (deed_of (number_of c.args.mode)) c.class_in.ensures) (ap deed_number c.in-NoSign.is)

pub returns-in-Digit : goal.returns-in-Digit
returns-in-Digit c =
    ap Some c.sign.ensures ∙ told_digit c.args.row.now c.args.at (number_of c.args.mode) c.args.opened c.args.word c.requires.3 c.requires.4 (deed_number c.deed_of-deed.result)
    (c.deed_of-deed.ensures ∙ ap (deed_of (number_of c.args.mode)) c.class_in.ensures) (ap deed_number c.in-Digit.is) c.figure_in.result c.figure_in.ensures

pub returns-in-DigitUnder : goal.returns-in-DigitUnder
returns-in-DigitUnder c =
    ap Some c.sign-in-DigitUnder.ensures ∙ told_under c.args.row.now c.args.at (number_of c.args.mode) c.args.opened c.args.word c.requires.3 c.requires.4 (deed_number c.deed_of-deed.result)
    (c.deed_of-deed.ensures ∙ ap (deed_of (number_of c.args.mode)) c.class_in.ensures) (ap deed_number c.in-DigitUnder.is) c.figure_in-in-DigitUnder.result c.figure_in-in-DigitUnder.ensures

pub returns-in-CapitalOfMany : goal.returns-in-CapitalOfMany
returns-in-CapitalOfMany c =
    ap Some c.sign-in-CapitalOfMany.ensures ∙ told_capital c.args.row.now c.args.at (number_of c.args.mode) c.args.opened c.args.word c.requires.3 c.requires.4 (deed_number c.deed_of-deed.result)
    (c.deed_of-deed.ensures ∙ ap (deed_of (number_of c.args.mode)) c.class_in.ensures) (ap deed_number c.in-CapitalOfMany.is) c.capital_in.result c.capital_in.ensures

pub returns-in-LowerDigit : goal.returns-in-LowerDigit
returns-in-LowerDigit c =
    ap Some c.sign-in-LowerDigit.ensures ∙ told_lower c.args.row.now c.args.at (number_of c.args.mode) c.args.opened c.args.word c.requires.3 c.requires.4 (deed_number c.deed_of-deed.result)
    (c.deed_of-deed.ensures ∙ ap (deed_of (number_of c.args.mode)) c.class_in.ensures) (ap deed_number c.in-LowerDigit.is) c.lower_in.result c.lower_in.ensures

pub returns-in-Denominator : goal.returns-in-Denominator
returns-in-Denominator c =
    told_denominator c.args.row.now c.args.at (number_of c.args.mode) c.args.opened c.args.word c.requires.3 c.requires.4 (deed_number c.deed_of-deed.result)
    (c.deed_of-deed.ensures ∙ ap (deed_of (number_of c.args.mode)) c.class_in.ensures) (ap deed_number c.in-Denominator.is) c.figure_in-in-Denominator.result c.figure_in-in-Denominator.ensures

pub returns-in-MasculineMark : goal.returns-in-MasculineMark
returns-in-MasculineMark c =
    told_masculine c.args.row.now c.args.at (number_of c.args.mode) c.args.opened c.args.word c.requires.3 c.requires.4 (deed_number c.deed_of-deed.result)
    (c.deed_of-deed.ensures ∙ ap (deed_of (number_of c.args.mode)) c.class_in.ensures) (ap deed_number c.in-MasculineMark.is)

pub returns-in_default : goal.returns-in_default
returns-in_default c =
    c.asked.ensures
    ∙ ap (step_of c.args.at c.args.opened)
    (sym
    (asks c.deed_of-deed.result c.args.word _ c.in_default.not-NoSign c.in_default.not-Digit c.in_default.not-DigitUnder c.in_default.not-CapitalOfMany c.in_default.not-LowerDigit c.in_default.not-Denominator c.in_default.not-MasculineMark))
    ∙ told_by c.args.row.now c.args.at (number_of c.args.mode) c.args.opened c.args.word c.requires.3 c.requires.4 (deed_number c.deed_of-deed.result)
    (c.deed_of-deed.ensures ∙ ap (deed_of (number_of c.args.mode)) c.class_in.ensures)
