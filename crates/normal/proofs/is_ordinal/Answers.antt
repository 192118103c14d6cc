-- `normal::is_ordinal` meets its contract: its two tests are those of the definition. Assumes nothing.
use borrow.Author.Tests.{eq-eqb, ne_eqb}
use Rattle.rules.specs.Normal.{is_ordinal_point}
use Rattle.normal.proofs.is_ordinal.Goals as goal

pub returns-then-point-eq-MASCULINE : goal.returns-then-point-eq-MASCULINE
unfolding is_ordinal_point
returns-then-point-eq-MASCULINE c = rw (eq-eqb _ _ c.if-point-eq-MASCULINE.true)

pub returns-else-point-eq-MASCULINE : goal.returns-else-point-eq-MASCULINE
unfolding is_ordinal_point
returns-else-point-eq-MASCULINE c = rw (ne_eqb _ _ c.if-point-eq-MASCULINE.false)
