use Rattle.std.proofs.Common.{◌≡◌, rules, ◌∙◌, ap, ◌∷◌}
use Rattle.folder_files.specs.Worlds.{shown}
use Rattle.folder_room.specs.Parents.{with_all_made}
use Rattle.folder_room.proofs.Folders.{made_more}
use Rattle.folder_room.proofs.parents.+make_all.Goals as goal

pub returns-in-Ok-clause-ok : goal.returns-in-Ok-clause-ok
returns-in-Ok-clause-ok n c =
    let parts : c.in-Some.place.now ∷ c.in-Some.rest.now ≡ c.args.places.now = search rules in
    made_more c.args.world.now c.push.new.self (record { place = c.in_ok-duplicate.field-0; safe = c.new.result; pending = c.new-2.result }) c.in-Some.place.now (shown c.make_all-2.new.world) c.in-Some.rest.now (search rules) (search rules) (search rules) (search rules) (search rules) c.in-Ok.ensures.ok
    ∙ ap (with_all_made (shown c.args.world.now)) parts
