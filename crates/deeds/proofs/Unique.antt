-- A deed is known by its number, since each number gives its deed back (`given_back`). So any two deeds that the promise of `deed_of` allows are the same, and
-- any two answers that the promise of `turns::settled` allows, but for a run that is supposed. Assumes nothing.
use mathlib.Core.Path.{◌≡◌, refl, sym, ap, ◌∙◌}
use mathlib.Core.Logic.{inl, inr}
use mathlib.Core.List.{List, [], ◌∷◌}
use Prim.Native.Nat.{ℕ}
use Rattle.std.specs.Prelude.{Result, Ok, Err, cond, eqb}
use Rattle.deeds.specs.Numbers.{deed_number, answer_number}
use Rattle.deeds.specs.Claims.{OneDeed, OneAnswer}
use Rattle.deeds.specs.declared.Act.{Act}
use Rattle.deeds.specs.declared.Act.TheVariants.{Sign, Letter, SeparatedLetter, CapitalAlone, FirstOfCapitals, CapitalOfMany, FirstOfNumber, Digit, FirstOfForm, LowerDigit, StopOfOrdinal, FeminineMark, BarOfFraction, DigitUnder, TheHyphen, TheDash}
use Rattle.deeds.specs.declared.Question.TheVariants.{BeginsRun, BeginsNumber, NumberPoint, OneUnder}
use Rattle.deeds.specs.declared.Fault.{Fault}
use Rattle.deeds.specs.declared.Fault.TheVariants.{NoSign, OutsideForm, SharesCells}
use Rattle.deeds.specs.declared.Deed.{Deed}
use Rattle.deeds.specs.declared.Deed.TheVariants.{Write, Ask, Refuse}

-- all deeds
listed : List Deed
listed =
    Write Sign ∷ Write Letter ∷ Write SeparatedLetter ∷ Write CapitalAlone ∷ Write FirstOfCapitals ∷ Write CapitalOfMany ∷ Write FirstOfNumber ∷ Write Digit
    ∷ Write FirstOfForm ∷ Write LowerDigit ∷ Write StopOfOrdinal ∷ Write FeminineMark ∷ Write BarOfFraction ∷ Write DigitUnder ∷ Write TheHyphen ∷ Write TheDash
    ∷ Ask BeginsRun ∷ Ask BeginsNumber ∷ Ask NumberPoint ∷ Ask OneUnder
    ∷ Refuse NoSign ∷ Refuse OutsideForm ∷ Refuse SharesCells
    ∷ []

-- the first of a list that has a number, if one has it
first_of : List Deed → ℕ → Deed
first_of [] n = Refuse NoSign
first_of (d ∷ ds) n = cond (eqb (deed_number d) n) d (first_of ds n)

given_back : (d : Deed) → first_of listed (deed_number d) ≡ d
unfolding listed first_of
given_back (Write Sign) = refl
given_back (Write a) = refl
given_back (Ask BeginsRun) = refl
given_back (Ask q) = refl
given_back (Refuse NoSign) = refl
given_back (Refuse x) = refl

pub known_by_number : (d e : Deed) → deed_number d ≡ deed_number e → d ≡ e
known_by_number d e q = sym (given_back d) ∙ ap (first_of listed) q ∙ given_back e

pub one_deed : OneDeed
one_deed s c d e p q = known_by_number d e (p ∙ sym q)

-- of an answer likewise
answer_of : Deed → Result Act Fault
answer_of (Write a) = Ok a
answer_of (Ask q) = Err NoSign
answer_of (Refuse x) = Err x

answer_back : (a : Result Act Fault) → answer_of (first_of listed (answer_number a)) ≡ a
unfolding answer_of
answer_back (Ok a) = ap answer_of (given_back (Write a))
answer_back (Err x) = ap answer_of (given_back (Refuse x))

pub answer_known : (a b : Result Act Fault) → answer_number a ≡ answer_number b → a ≡ b
answer_known a b q = sym (answer_back a) ∙ ap (λ (n : ℕ). answer_of (first_of listed n)) q ∙ answer_back b

pub one_answer : OneAnswer
one_answer d f a b (inl p) (inl q) = inl (answer_known a b (p ∙ sym q))
one_answer d f a b (inl p) (inr q) = inr (q.1, q.2)
one_answer d f a b (inr p) q = inr (p.1, p.2)
