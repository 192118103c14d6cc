-- `after_capital`: four bits of the number for each mode (`after_mode`). Assumes nothing.
use mathlib.Core.Path.{◌≡◌, sym, ap, ◌∙◌}
use Prim.Native.Nat.{ℕ, ◌*◌, ◌/◌, ◌%◌, ◌^◌}
use Rattle.readings.specs.Modes.{number_of, mode_at}
use Rattle.readings.specs.Readings.{after_capital}
use Rattle.readings.specs.declared.Mode.{Mode}
use Rattle.readings.proofs.Numbers.{number_back}
use Rattle.signs.proofs.Cases.{after_capitals, after_mode, after_small, some_mode, mode_given}
use Rattle.signs.proofs.after_capital.Goals as goal

-- what is looked up
looked : (m a : Mode) (k : ℕ) → a ≡ mode_at k → k ≡ after_capital (number_of m) → number_of a ≡ after_capital (number_of m)
looked m a k e f = ap number_of e ∙ ap (λ (n : ℕ). number_of (mode_at n)) f ∙ number_back (after_capital (number_of m)) (after_small m)

module _ (m : Mode) (n : ℕ) (e : n ≡ number_of m) where
  told : after_capitals / 2 ^ (n * 4) % 16 ≡ after_capital (number_of m)
  told = ap (λ (k : ℕ). after_capitals / 2 ^ (k * 4) % 16) e ∙ after_mode m

pub returns-in-Free : goal.returns-in-Free
returns-in-Free c =
    ap some_mode (sym (ap number_of c.in-Free.is) ∙ looked c.args.mode c.mode_at.result _ c.mode_at.ensures (told c.args.mode c.number.result c.number.ensures))

pub returns-in_default : goal.returns-in_default
returns-in_default c =
    mode_given c.mode_at.result c.in_default.not-Free
    ∙ ap some_mode (looked c.args.mode c.mode_at.result _ c.mode_at.ensures (told c.args.mode c.number.result c.number.ensures))
