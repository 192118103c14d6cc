-- `cells::run_word`: the table has for each cell the fields of its word that a run asks for; a byte that is no cell has no word there (`no_word`), and none of these fields (`no_field`). Assumes nothing.
use mathlib.Core.Path.{refl, sym, ◌∙◌}
use mathlib.Core.Logic.{⊎_elim}
use Prim.Native.Nat.{suc}
use native.Mathlib.Omega.{arith}
use Rattle.rules.proofs.Finite.{le_or_lt}
use Rattle.entries.proofs.Places.{upto}
use Rattle.readings.specs.declared.cells.TheConstants.{RUN_WORDS}
use Rattle.readings.specs.Fields.{run_in, no_cell}
use Rattle.readings.specs.Words.{words, word_of}
use Rattle.readings.proofs.Words.{past_cells, no_word, no_field, table_told}
use Rattle.readings.proofs.cells.run_word.Goals as goal

pub returns : goal.returns
unfolding words upto
returns c =
    c.looked_up.ensures
    ∙ ⊎_elim (λ l. table_told RUN_WORDS (λ n. run_in (word_of n)) no_cell tt c.args.cell l)
    (λ l. let r = past_cells c.args.cell (omega (arith, l)) in
    sym (no_word RUN_WORDS refl no_cell (omega arith) c.args.cell r) ∙ no_field run_in refl (upto no_cell) tt c.args.cell r) (le_or_lt (suc c.args.cell) no_cell)
