-- What the promises of a deed fix: any two values that one of them allows are the same. Assumes nothing.
use Rattle.std.specs.Prelude.{true, ◌⊎◌, ◌≡◌, ℕ, Result}
use Rattle.rules.proofs.States.{Future}
use Rattle.rules.proofs.Sides.{mixed_next}
use Rattle.entries.specs.Numbers.{state_number, class_index}
use Rattle.entries.specs.declared.State.{State}
use Rattle.entries.specs.declared.Class.{Class}
use Rattle.deeds.specs.Acts as act
use Rattle.deeds.specs.Stages.{deed_of, Supposed}
use Rattle.deeds.specs.Numbers.{deed_number, answer_number}
use Rattle.deeds.specs.declared.Act.{Act}
use Rattle.deeds.specs.declared.Fault.{Fault}
use Rattle.deeds.specs.declared.Deed.{Deed}

-- the deed of a state and a class
abbrev pub OneDeed : Type 0
OneDeed = (s : State) (c : Class) (d e : Deed) → deed_number d ≡ deed_of (state_number s) (class_index c) → deed_number e ≡ deed_of (state_number s) (class_index c) → d ≡ e

-- what a deed comes to once what follows has decided, but for a run that has a small letter: of that it may be supposed that it is of capitals only
abbrev pub OneAnswer : Type 0
OneAnswer =
    (d : ℕ) (f : Future) (a b : Result Act Fault) → Supposed d f (answer_number a) → Supposed d f (answer_number b)
    → (a ≡ b) ⊎ ((d ≡ act.begins_run) × (mixed_next f ≡ true))
