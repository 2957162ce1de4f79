use Rattle.std.proofs.Common.{refl}
use Rattle.file_plans.proofs.Following.{go, no_room, stop}
use Rattle.command_stages.proofs.Values.{value_off, value_on}
use Rattle.mhbuild_plans.specs.Building.{text_built}
use Rattle.mhbuild_plans.specs.Parsed.{parsed}
use Rattle.mhbuild_plans.proofs.Ends.{limit_ends}
use Rattle.mhbuild_command.proofs.message.build.Goals as goal

pub returns-in_err-draft : goal.returns-in_err-draft
unfolding text_built
returns-in_err-draft g c = value_off _ (parsed c.args.text.now) _ _ c.in_err-draft.ensures c.from_residual.ensures

pub returns-in_err-givens : goal.returns-in_err-givens
unfolding text_built
returns-in_err-givens g c =
    value_on _ (parsed c.args.text.now) _ c.in_ok-draft.ensures
    (stop _ (rw (c.as_slice.ensures, c.wants.ensures) at c.in_err-givens.ensures) c.from_residual-in_err-givens.ensures)

pub returns-in_err-message : goal.returns-in_err-message
unfolding text_built
returns-in_err-message g c =
    value_on _ (parsed c.args.text.now) _ c.in_ok-draft.ensures
    (go _ (rw (c.as_slice.ensures, c.wants.ensures) at c.in_ok-givens.ensures) (no_room _ c.from_residual-in_err-message.ensures refl))

pub returns : goal.returns
unfolding text_built
returns g c =
    value_on _ (parsed c.args.text.now) _ c.in_ok-draft.ensures
    (go _ (rw (c.as_slice.ensures, c.wants.ensures) at c.in_ok-givens.ensures)
    (limit_ends _ _ _ _ (rw (c.in_ok-message.ensures, c.run.ensures) at c.within_limit.ensures)))
