use Rattle.std.proofs.Common.{rules, refl, ◌∙◌, ap}
use Rattle.std.proofs.lemmas.Result.{on_ok_weaker}
use Rattle.folder_room.specs.Positions.{synced_there}
use Rattle.folder_files.specs.declared.world.Directory.{Directory}
use Rattle.folder_room.proofs.Placing.{shown_set, shown_same, place_of}
use Rattle.folder_room.proofs.disk.sync_at.Goals as goal

pub returns-in-Some-clause-ok : goal.returns-in-Some-clause-ok
returns-in-Some-clause-ok c =
    on_ok_weaker c.sync_directory.result (λ e. shown_set c.args.world.now c.in-Some.index c.args.place.now c.get_mut.result.now c.sync_directory.new.directory (synced_there) (search rules) (search rules)
    (c.sync_directory.ensures.place ∙ (ap (λ (d : Directory). d.place) c.get_mut.ensures.value ∙ place_of c.args.world.now.directories c.in-Some.index c.args.place.now c.get_mut.result.now (search rules)))
    (e ∙ search rules)) c.sync_directory.ensures.ok

pub returns-in-None-clause-ok : goal.returns-in-None-clause-ok
returns-in-None-clause-ok c = shown_same c.args.world.now c.args.place.now (synced_there) (search rules) refl
