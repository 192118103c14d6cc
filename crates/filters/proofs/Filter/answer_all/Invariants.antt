-- `Filter::answer_all`: no line is longer than its room; the measure is what is left of the chunk. Assumes nothing.
use Rattle.std.proofs.Common.{length, ◌-◌, ◌≤◌}
use Rattle.limits.specs.Limits.{longest_row_line}
use Rattle.filters.proofs.Filter.answer_all.Given as goal

abbrev pub invariant-loop-at : goal.invariant-loop-at
invariant-loop-at l = l.longest ≤ longest_row_line

abbrev pub decreases-loop-at : goal.decreases-loop-at
decreases-loop-at l = length l.chunk - l.at
