-- `entry_of`: the word of each code point has a class and leads to a state (`worded`). Assumes nothing.
use Rattle.std.proofs.Common.{◌<◌, ℕ, sym, subst}
use Rattle.entries.specs.States.{states}
use Rattle.entries.specs.Entries.{classes, then_in, class_in}
use Rattle.entries.proofs.Facts.{worded}
use Rattle.entries.proofs.entry_of.Goals as goal

pub invariant_of-result : goal.invariant_of-result
invariant_of-result c =
    record {
      classed = subst (λ (w : ℕ). class_in w < classes) (sym c.word_of.ensures) (worded.class_small _);
      leads = subst (λ (w : ℕ). then_in w < states) (sym c.word_of.ensures) (worded.then_small _);
    }
