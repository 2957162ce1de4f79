use Rattle.mh_tools.proofs.Clauses.{answers_alone, answers_as_one, caused, keeps, marks, reads_input, string_texts, tells}
use Rattle.mh_tools.proofs.top.mh.Goals as goal

pub returns-clause-plan : goal.returns-clause-plan
returns-clause-plan g c =
    let ran = rw (c.run.ensures, c.caller.ensures, c.as_slice.ensures.value) at c.run_command-outcome.ensures.plan in
    record { outcome = c.run_command-outcome.result; left = ran.0; follows = ran.1; unread = rw c.as_slice.ensures.value at c.run_command-outcome.ensures.input; ends_so = c.report.ensures.ends; told = c.report.ensures.told }

pub returns-clause-input : goal.returns-clause-input
returns-clause-input g c = reads_input _ (returns-clause-plan g c) (rw c.run.ensures at c.run.type_inv)

pub returns-clause-caused : goal.returns-clause-caused
returns-clause-caused g c = caused _ (returns-clause-plan g c) (rw c.run.ensures at c.run.type_inv)

pub returns-clause-seen : goal.returns-clause-seen
returns-clause-seen g c = tells _ (returns-clause-plan g c) (rw c.run.ensures at c.run.type_inv)

pub returns-clause-alone : goal.returns-clause-alone
returns-clause-alone g c = answers_alone _ (returns-clause-plan g c) (rw c.run.ensures at c.run.type_inv)

pub returns-clause-as_one : goal.returns-clause-as_one
returns-clause-as_one g c = answers_as_one _ (returns-clause-plan g c) (rw c.run.ensures at c.run.type_inv)

pub returns-clause-keeps : goal.returns-clause-keeps
returns-clause-keeps g c = keeps _ (returns-clause-plan g c) (rw c.run.ensures at c.run.type_inv)

pub returns-clause-marks : goal.returns-clause-marks
returns-clause-marks g c = marks _ (returns-clause-plan g c) (rw c.run.ensures at c.run.type_inv) (string_texts c.args.words.now.items)
