-- `sequence_at`: the first byte's line of the table, then the later bytes that it asks for. Assumes nothing.
use mathlib.Core.Logic.{⊎_elim}
use native.Mathlib.Omega.{arith}
use Rattle.sequences.proofs.Sequences.{too_few, none_joined, whole_joined}
use Rattle.sequences.proofs.sequence_at.Goals as goal

pub returns-in_err-later : goal.returns-in_err-later
returns-in_err-later c =
    rw c.from_residual-in_err-later.ensures
    (too_few c.args.bytes.now c.args.at c.requires c.in_ok-lead.lead c.in_ok-lead.ensures (⊎_elim (λ h. absurd (omega (arith, h))) (λ h. h) c.in_err-later.ensures.lookup.0))

pub returns-in_err-point : goal.returns-in_err-point
returns-in_err-point c =
    rw c.from_residual-in_err-point.ensures
    (none_joined c.args.bytes.now c.args.at c.requires c.in_ok-lead.lead c.in_ok-lead.ensures c.in_ok-later.later.now c.in_ok-later.ensures.lookup.0.2 c.in_err-point.ensures)

pub returns : goal.returns
returns c = whole_joined c.args.bytes.now c.args.at c.requires c.in_ok-lead.lead c.in_ok-lead.ensures c.in_ok-later.later.now c.in_ok-later.ensures.lookup.0.2 c.in_ok-point.point c.in_ok-point.ensures
