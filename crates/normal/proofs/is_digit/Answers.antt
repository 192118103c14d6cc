-- `normal::is_digit` meets its contract: its two tests are those of the definition. Assumes nothing.
use borrow.Author.Tests.{le-leb, lt-leb}
use Rattle.rules.specs.Normal.{is_digit_point}
use Rattle.normal.proofs.is_digit.Goals as goal

pub returns-then-point-ge-DIGIT_0 : goal.returns-then-point-ge-DIGIT_0
unfolding is_digit_point
returns-then-point-ge-DIGIT_0 c = rw (le-leb _ _ c.if-point-ge-DIGIT_0.true)

pub returns-else-point-ge-DIGIT_0 : goal.returns-else-point-ge-DIGIT_0
unfolding is_digit_point
returns-else-point-ge-DIGIT_0 c = rw (lt-leb _ _ c.if-point-ge-DIGIT_0.false)
