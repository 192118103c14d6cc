-- `settled`: a question is decided by what follows; anything else stays as it is. Assumes nothing.
use mathlib.Core.Path.{sym, ap, ◌∙◌}
use mathlib.Core.Logic.{inl}
use Rattle.rules.specs.Castilian.{castilian}
use Rattle.deeds.specs.Numbers.{deed_number}
use Rattle.deeds.specs.Stages.{settled_by}
use Rattle.deeds.specs.declared.Deed.{Deed}
use Rattle.deeds.proofs.Machine.{settled_act, settled_fault}
use Rattle.turns.specs.Ahead.{future_at}
use Rattle.turns.proofs.settled.Goals as goal

pub returns-in-Write : goal.returns-in-Write
returns-in-Write c =
    let f = future_at castilian c.args.text.now c.args.next in
    inl (sym (ap (λ (d : Deed). settled_by (deed_number d) f) c.in-Write.is ∙ settled_act c.in-Write.act f))

pub returns-in-Refuse : goal.returns-in-Refuse
returns-in-Refuse c =
    let f = future_at castilian c.args.text.now c.args.next in
    inl (sym (ap (λ (d : Deed). settled_by (deed_number d) f) c.in-Refuse.is ∙ settled_fault c.in-Refuse.fault f))
