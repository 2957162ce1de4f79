use Rattle.std.proofs.Common.{ap, refl}
use Rattle.file_plans.proofs.Following.{no_room, refuses, same_plan}
use Rattle.part_rows.specs.PartViews.{view_of}
use Rattle.mhstore_plans.specs.Storing.{all_filed}
use Rattle.mhstore_plans.proofs.FilesOf.{files_are}
use Rattle.mhstore_command.proofs.filing.store_message.Goals as goal

pub returns-in_err-message-clause-plan : goal.returns-in_err-message-clause-plan
returns-in_err-message-clause-plan g c = no_room _ c.from_residual.ensures refl

pub returns-in_err-parts-in-None-clause-plan : goal.returns-in_err-parts-in-None-clause-plan
returns-in_err-parts-in-None-clause-plan g c = no_room _ c.from_residual-in_err-parts-in-None.ensures refl

pub returns-in_err-no_part-in-Some-clause-plan : goal.returns-in_err-no_part-in-Some-clause-plan
returns-in_err-no_part-in-Some-clause-plan g c = no_room _ c.from_residual-in_err-no_part-in-Some.ensures refl

pub returns-in-None-clause-plan : goal.returns-in-None-clause-plan
returns-in-None-clause-plan g c =
    rw (rw (c.in_ok-message.ensures, c.as_slice.ensures) at c.in-None.ensures)
    (same_plan _ _ (ap (λ fs. all_filed c.args.hand.now.run c.args.job.now fs) (files_are c.args.number c.args.job.now.parts c.args.message.now (λ p. view_of c.args.message.now p.now) _ (rw (c.in_ok-message.ensures, c.as_slice-in-None.ensures) at c.in_ok-parts-in-None.ensures)))
    (rw (c.as_slice-in-None-2.ensures.value, c.in_ok-message.ensures) at c.store_parts.ensures.plan))

pub returns-clause-plan : goal.returns-clause-plan
returns-clause-plan g c = rw (rw (c.in_ok-message.ensures, c.as_slice.ensures) at c.in-Some.ensures, c.in_ok-no_part-in-Some.ensures) (refuses _ refl)
