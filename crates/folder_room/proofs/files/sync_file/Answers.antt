use Rattle.std.proofs.Common.{rules}
use Rattle.folder_room.proofs.Syncing.{sync_none, sync_one, sync_lost}
use Rattle.folder_room.proofs.files.sync_file.Goals as goal

pub returns-in_default : goal.returns-in_default
returns-in_default c = λ run. sync_none c.args.world.now run c.args.place.now c.args.name.now (search rules)

pub returns-in-Some-file_position : goal.returns-in-Some-file_position
returns-in-Some-file_position c = λ run.
    sync_one c.args.world.now run c.args.place.now c.args.name.now c.in-Some.id c.in-Some-file_position.index c.get_mut.result.now c.in-Some.ensures (search rules) (search rules) (search rules) c.get_mut.ensures.value

pub returns-in_default-file_position : goal.returns-in_default-file_position
returns-in_default-file_position c = λ run.
    sync_lost c.args.world.now run c.args.place.now c.args.name.now c.in-Some.id c.in-Some.ensures (search rules)
