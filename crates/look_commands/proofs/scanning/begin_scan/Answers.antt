use Rattle.std.proofs.Common.{refl}
use Rattle.file_plans.proofs.Following.{go, no_room, stop, whole}
use Rattle.command_plans.specs.Command.{scan_begun}
use Rattle.look_commands.proofs.scanning.begin_scan.Goals as goal

pub returns-in_err-folder : goal.returns-in_err-folder
unfolding scan_begun
returns-in_err-folder g c = stop _ (whole c.in_err-folder.ensures.plan) c.from_residual.ensures

pub returns-in_err-look : goal.returns-in_err-look
unfolding scan_begun
returns-in_err-look g c =
    go _ (whole c.in_ok-folder.ensures.plan)
    (stop _ (whole (rw (c.run.ensures, c.in_ok-folder.ensures.run) at (c.in_err-look.ensures c.enter_folder.new.hand.kept))) c.from_residual-in_err-look.ensures)

pub returns-in_err-known_sequences : goal.returns-in_err-known_sequences
unfolding scan_begun
returns-in_err-known_sequences g c =
    go _ (whole c.in_ok-folder.ensures.plan)
    (go _ (whole (rw (c.run.ensures, c.in_ok-folder.ensures.run) at (c.in_ok-look.ensures c.enter_folder.new.hand.kept))) (no_room _ c.from_residual-in_err-known_sequences.ensures refl))

pub returns-in_err-negation : goal.returns-in_err-negation
unfolding scan_begun
returns-in_err-negation g c =
    go _ (whole c.in_ok-folder.ensures.plan)
    (go _ (whole (rw (c.run.ensures, c.in_ok-folder.ensures.run) at (c.in_ok-look.ensures c.enter_folder.new.hand.kept))) (no_room _ c.from_residual-in_err-negation.ensures refl))

pub returns : goal.returns
unfolding scan_begun
returns g c =
    go _ (whole c.in_ok-folder.ensures.plan)
    (go _ (whole (rw (c.run.ensures, c.in_ok-folder.ensures.run) at (c.in_ok-look.ensures c.enter_folder.new.hand.kept)))
    (rw (c.in_ok-folder.ensures.run, c.in_ok-folder.ensures.mail, c.requires, c.folder.view_is, c.in_ok-known_sequences.ensures, c.in_ok-negation.ensures) at c.scan.ensures.plan))
