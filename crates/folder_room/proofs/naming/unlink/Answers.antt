use Rattle.std.proofs.Common.{◌∙◌, ap}
use Rattle.std.proofs.lemmas.Result.{on_ok_weaker}
use Rattle.folder_room.specs.Positions.{with_change}
use Rattle.folder_files.specs.Worlds.{shown}
use Rattle.folder_files.specs.declared.world.Change.TheVariants as change
use Rattle.folder_room.proofs.Renaming.{unlink_made, unlink_none}
use Rattle.folder_room.proofs.naming.unlink.Goals as goal

pub returns-in-None-clause-ok : goal.returns-in-None-clause-ok
returns-in-None-clause-ok c = λ run. unlink_none c.args.world.now run c.args.place.now c.args.name.now c.in-None.ensures

pub returns-in_ok-duplicate-in-Some-clause-ok : goal.returns-in_ok-duplicate-in-Some-clause-ok
returns-in_ok-duplicate-in-Some-clause-ok c = λ run.
    on_ok_weaker c.change_at.result (λ e. e ∙ (ap (λ n. with_change (shown c.args.world.now) c.args.place.now (change.Gone n)) c.in_ok-duplicate-in-Some.ensures ∙ unlink_made c.args.world.now run c.args.place.now c.args.name.now _ c.in-Some.ensures)) c.change_at.ensures.ok
