use Rattle.file_plans.proofs.Following.{go, stop}
use Rattle.command_stages.proofs.Values.{value_off, value_on}
use Rattle.pick_plans.specs.Pick.{chosen_from, opened_picked}
use Rattle.pick_command.proofs.changing.pick_opened.Goals as goal

pub returns-in_err-numbers-clause-plan : goal.returns-in_err-numbers-clause-plan
unfolding opened_picked
returns-in_err-numbers-clause-plan g c = value_off _ (chosen_from c.args.job.now c.args.opened.listing c.args.opened.sequences) _ _ c.in_err-numbers.ensures c.from_residual.ensures

pub returns-in_err-found-clause-plan : goal.returns-in_err-found-clause-plan
unfolding opened_picked
returns-in_err-found-clause-plan g c =
    value_on _ (chosen_from c.args.job.now c.args.opened.listing c.args.opened.sequences) _ c.in_ok-numbers.ensures
    (stop _ (rw (c.run.ensures, c.place.ensures, c.as_slice.ensures.value) at (c.in_err-found.ensures c.args.hand.now.kept)) c.from_residual-in_err-found.ensures)

pub returns-clause-plan : goal.returns-clause-plan
unfolding opened_picked
returns-clause-plan g c =
    value_on _ (chosen_from c.args.job.now c.args.opened.listing c.args.opened.sequences) _ c.in_ok-numbers.ensures
    (go _ (rw (c.run.ensures, c.place.ensures, c.as_slice.ensures.value) at (c.in_ok-found.ensures c.args.hand.now.kept)) (rw c.as_slice-2.ensures at c.mark_found.ensures.plan))
