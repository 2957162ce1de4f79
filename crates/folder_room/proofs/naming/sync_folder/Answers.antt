use Rattle.std.proofs.Common.{◌∙◌}
use Rattle.std.proofs.lemmas.Result.{on_ok_weaker}
use Rattle.folder_room.proofs.Renaming.{sync_made}
use Rattle.folder_room.proofs.naming.sync_folder.Goals as goal

pub returns-clause-ok : goal.returns-clause-ok
returns-clause-ok c = λ run. on_ok_weaker c.sync_at.result (λ e. e ∙ sync_made c.args.world.now run c.args.place.now) c.sync_at.ensures.ok
