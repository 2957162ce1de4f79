use Rattle.std.proofs.Common.{rules, ◌∙◌}
use Rattle.std.proofs.lemmas.Result.{on_ok_weaker}
use Rattle.folder_files.specs.Worlds.{shown}
use Rattle.folder_room.proofs.Making.{create_made, create_not, no_directory_free, taken_not_free}
use Rattle.folder_room.proofs.files.create.Goals as goal

pub returns-then-not-is_there-clause-ok : goal.returns-then-not-is_there-clause-ok
returns-then-not-is_there-clause-ok c = λ run.
    create_not c.args.world.now run c.args.place.now c.args.name.now c.args.bytes.now (no_directory_free ((shown c.args.world.now).directories c.args.place.now) c.args.name.now (search rules))

pub returns-in-Some-clause-ok : goal.returns-in-Some-clause-ok
returns-in-Some-clause-ok c = λ run.
    create_not c.args.world.now run c.args.place.now c.args.name.now c.args.bytes.now (taken_not_free ((shown c.args.world.now).directories c.args.place.now) c.args.name.now _ c.in-Some.ensures)

pub returns-in-None-clause-ok : goal.returns-in-None-clause-ok
returns-in-None-clause-ok c = λ run.
    on_ok_weaker c.create_free.result (λ e. e ∙ create_made c.args.world.now run c.args.place.now c.args.name.now c.args.bytes.now (search rules) c.in-None.ensures) c.create_free.ensures.ok
