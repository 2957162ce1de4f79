use Rattle.step_plans.proofs.file.replace_file.Goals as goal

pub returns-clause-plan : goal.returns-clause-plan
returns-clause-plan g c = rw (← c.hand.view_is) (rw (c.run-run.ensures, ← c.hand.view_is) at c.replace.ensures)
