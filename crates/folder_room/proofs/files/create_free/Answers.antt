use Rattle.std.proofs.Common.{rules, ◌∙◌}
use Rattle.folder_room.proofs.Making.{new_world}
use Rattle.folder_room.proofs.files.create_free.Goals as goal

pub returns-in-Ok-clause-ok : goal.returns-in-Ok-clause-ok
returns-in-Ok-clause-ok c =
    c.in-Ok.ensures.ok
    ∙ new_world c.args.world.now _ c.args.place.now c.args.name.now c.args.bytes.now c.in-Some.id _ (search rules) (search rules) (search rules)
