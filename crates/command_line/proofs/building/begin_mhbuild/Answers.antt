use Rattle.std.proofs.Common.{refl}
use Rattle.file_plans.proofs.Following.{beside, go, no_room, recalled, stop, whole}
use Rattle.mhbuild_plans.specs.Building.{mhbuild}
use Rattle.command_plans.specs.Command.{build_begun, build_job}
use Rattle.command_plans.specs.Profile.{path_of}
use Rattle.command_line.proofs.building.begin_mhbuild.Goals as goal
use Rattle.mh_profile.specs.Reading.{entries_seen}

pub returns-in_err-enter_context : goal.returns-in_err-enter_context
unfolding build_begun
returns-in_err-enter_context g c = stop _ (beside (whole (rw c.requires at c.in_err-enter_context.ensures.plan))) c.from_residual.ensures

pub returns-in_err-job : goal.returns-in_err-job
unfolding build_begun
returns-in_err-job g c = go _ (beside (whole (rw c.requires at c.in_ok-enter_context.ensures.plan))) (no_room _ c.from_residual-in_err-job.ensures refl)

pub returns : goal.returns
unfolding build_begun
returns g c =
    go _ (beside (whole (rw c.requires at c.in_ok-enter_context.ensures.plan)))
    (recalled (λ h. mhbuild c.args.hand.now.run (path_of c.args.profile.now) (build_job c.args.words (entries_seen h.context) c.args.profile.now))
    (rw (c.in_ok-enter_context.ensures.run, c.in_ok-enter_context.ensures.mail, c.requires, c.in_ok-job.ensures) at c.mhbuild.ensures.plan))
