-- Each demand of specs/Demands.antt, proved of the Castilian table under the demand's own name. The theorems behind them hold of any table
-- that passes the tests of `Profile.Sane`. Assumes nothing.
use Rattle.rules.specs.Castilian.{castilian}
use Rattle.rules.specs.Answers.{read}
use Rattle.rules.specs.Demands.{EveryPrintAnswered, EveryRowAnswered, EveryStepAnswered, OnePrintAnswer, OneRowAnswer, OneStepAnswer, RefusedExactly, ReadsBack, OneText, GivesTheText, NoTextExactly, Worked, NormalTwice, AcceptedIsNormal, NormalLength, OneFaultEach, VerdictIsLeast, RowExactly, ClosedMeansAll, ThreeCellsEach, CellForEachSign, SignsJoin, StepsShowText}
use Rattle.rules.proofs.Rows as rows
use Rattle.rules.proofs.Pairs as pairs
use Rattle.rules.proofs.Normal as normal
use Rattle.rules.proofs.Profile as profile
use Rattle.rules.proofs.Signs as signs
use Rattle.rules.proofs.Answers as answers
use Rattle.rules.proofs.Steps as steps
use Rattle.rules.proofs.Worked as lines
use Rattle.rules.proofs.Castilian.{sane}

-- demand 1
pub every_print_answered : EveryPrintAnswered castilian
every_print_answered = answers.every_print_answered castilian

pub every_row_answered : EveryRowAnswered castilian
every_row_answered = answers.every_row_answered castilian sane

pub every_step_answered : EveryStepAnswered castilian
every_step_answered = answers.every_step_answered castilian sane

pub one_print_answer : OnePrintAnswer castilian
one_print_answer = answers.one_print_answer castilian

pub one_row_answer : OneRowAnswer castilian
one_row_answer = answers.one_row_answer castilian sane

pub one_step_answer : OneStepAnswer castilian
one_step_answer = answers.one_step_answer castilian sane

-- demand 2
pub refused_exactly : RefusedExactly castilian
refused_exactly = answers.refused_exactly castilian

pub reads_back : ReadsBack castilian
reads_back = answers.reads_back_whole castilian sane

-- demand 3
pub one_text : OneText castilian
one_text = profile.one_text castilian sane

pub gives_the_text : GivesTheText castilian
gives_the_text r t room h l = read t h l

pub no_text_exactly : NoTextExactly castilian
no_text_exactly = answers.no_text_exactly castilian sane

-- paper 01's own
pub worked : Worked
worked = lines.worked

pub normal_twice : NormalTwice
normal_twice = normal.normal_twice

pub accepted_is_normal : AcceptedIsNormal castilian
accepted_is_normal = profile.accepted_is_normal castilian sane

pub normal_length : NormalLength
normal_length = normal.normal_length

pub one_fault_each : OneFaultEach castilian
one_fault_each = rows.one_fault_each castilian

pub verdict_is_least : VerdictIsLeast castilian
verdict_is_least = rows.verdict_is_least castilian

pub row_exactly : RowExactly castilian
row_exactly = rows.row_exactly castilian

pub closed_means_all : ClosedMeansAll castilian
closed_means_all = pairs.closed_means_all castilian sane.kinds

pub three_cells_each : ThreeCellsEach castilian
three_cells_each = signs.three_cells_each castilian sane

pub cell_for_each_sign : CellForEachSign castilian
cell_for_each_sign = signs.cell_for_each_sign castilian sane

pub signs_join : SignsJoin castilian
signs_join = signs.signs_join castilian sane

pub steps_show_text : StepsShowText castilian
steps_show_text = steps.steps_show_text castilian sane
