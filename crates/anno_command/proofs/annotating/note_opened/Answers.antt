use Rattle.file_plans.proofs.Following.{go, stop}
use Rattle.anno_plans.specs.Anno.{opened_noted}
use Rattle.anno_command.proofs.annotating.note_opened.Goals as goal

pub returns-in_err-note_chosen-clause-plan : goal.returns-in_err-note_chosen-clause-plan
unfolding opened_noted
returns-in_err-note_chosen-clause-plan g c = stop _ c.in_err-note_chosen.ensures.plan c.from_residual.ensures

pub returns-clause-plan : goal.returns-clause-plan
unfolding opened_noted
returns-clause-plan g c = go _ c.in_ok-note_chosen.ensures.plan (rw (c.in_ok-note_chosen.ensures.run, c.in_ok-note_chosen.ensures.mail) at c.make_current.ensures.plan)
