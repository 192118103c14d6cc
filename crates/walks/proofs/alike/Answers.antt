-- `alike`: what reads the signs that follow is a quick reading. Assumes nothing.
use mathlib.Core.Path.{sym, ap, ◌∙◌}
use native.Mathlib.Omega.{arith}
use Rattle.std.proofs.Common.{rules}
use Rattle.readings.specs.Modes.{number_of, dash, owing}
use Rattle.walks.proofs.Walking.{runs_none, some_run, dash_alone, owing_alone, same_alike, run_alike}
use Rattle.walks.proofs.alike.Goals as goal

pub repeated-requires : goal.repeated-requires
repeated-requires c = (c.requires.0, c.requires.1, c.requires.2, λ at m inside kin. (search rules, λ s h. same_alike c.args.row.now at m c.args.from s dash dash_alone (ap number_of c.in-Dash.is) kin (search rules)))

pub repeated-requires-in-Owing : goal.repeated-requires-in-Owing
repeated-requires-in-Owing c = (c.requires.0, c.requires.1, c.requires.2, λ at m inside kin. (search rules, λ s h. same_alike c.args.row.now at m c.args.from s owing owing_alone (ap number_of c.in-Owing.is) kin (search rules)))

pub repeated-requires-in_default : goal.repeated-requires-in_default
repeated-requires-in_default c = let r = some_run c.args.from.mode c.in-Some.run' (sym c.run_of.ensures ∙ c.in-Some.is) in
    (c.requires.0, c.requires.1, c.requires.2, λ at m inside kin. (search rules, λ s h. run_alike c.args.row.now at m c.args.from s kin.0 (omega (arith, r.0, r.1)) (search rules)))

pub returns-in_default-run_of : goal.returns-in_default-run_of
returns-in_default-run_of c = (runs_none c.args.row.now c.args.stop c.args.from c.args.text.now c.requires.0, c.requires.2)
