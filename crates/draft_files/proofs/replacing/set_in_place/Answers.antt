use Rattle.std.proofs.Common.{refl}
use Rattle.file_plans.proofs.Following.{go, no_room, stop}
use Rattle.draft_files.specs.Replacing.{set_in_place}
use Rattle.draft_files.proofs.replacing.set_in_place.Goals as goal

pub returns-in_err-original-clause-plan : goal.returns-in_err-original-clause-plan
returns-in_err-original-clause-plan g c = no_room _ c.from_residual.ensures refl

pub returns-in_err-temp-clause-plan : goal.returns-in_err-temp-clause-plan
unfolding set_in_place
returns-in_err-temp-clause-plan g c = stop _ c.in_err-temp.ensures.plan c.from_residual-in_err-temp.ensures

pub returns-in_err-rename-clause-plan : goal.returns-in_err-rename-clause-plan
unfolding set_in_place
returns-in_err-rename-clause-plan g c =
    go _ c.in_ok-temp.ensures.plan
    (stop _ (rw (c.run.ensures, c.name.ensures.value, c.in_ok-original.ensures, c.in_ok-temp.ensures.same.0) at (c.in_err-rename.ensures c.write_file.new.hand.kept)) c.from_residual-in_err-rename.ensures)

pub returns-in_err-rename-2-clause-plan : goal.returns-in_err-rename-2-clause-plan
unfolding set_in_place
returns-in_err-rename-2-clause-plan g c =
    go _ c.in_ok-temp.ensures.plan
    (go _ (rw (c.run.ensures, c.name.ensures.value, c.in_ok-original.ensures, c.in_ok-temp.ensures.same.0) at (c.in_ok-rename.ensures c.write_file.new.hand.kept))
    (stop _ (rw (c.run-2.ensures, c.name-2.ensures.value, c.in_ok-temp.ensures.same.0) at (c.in_err-rename-2.ensures c.write_file.new.hand.kept)) c.from_residual-in_err-rename-2.ensures))

pub returns-clause-plan : goal.returns-clause-plan
unfolding set_in_place
returns-clause-plan g c =
    go _ c.in_ok-temp.ensures.plan
    (go _ (rw (c.run.ensures, c.name.ensures.value, c.in_ok-original.ensures, c.in_ok-temp.ensures.same.0) at (c.in_ok-rename.ensures c.write_file.new.hand.kept))
    (go _ (rw (c.run-2.ensures, c.name-2.ensures.value, c.in_ok-temp.ensures.same.0) at (c.in_ok-rename-2.ensures c.write_file.new.hand.kept))
    (rw (c.run-3.ensures, c.name-3.ensures.value, c.in_ok-temp.ensures.same.0) at (c.sync.ensures c.write_file.new.hand.kept))))
