use Rattle.std.proofs.Common.{rules, ◌∙◌, ap, ◌∷◌, ◌||◌}
use Rattle.std.proofs.lemmas.Result.{on_ok_weaker}
use Rattle.folder_files.specs.Places.{same_place}
use Rattle.folder_files.specs.Worlds.{shown}
use Rattle.folder_room.specs.Parents.{is_among}
use Rattle.folder_room.proofs.Folders.{folder_made}
use Rattle.folder_room.proofs.parents.make_folder.Goals as goal

pub returns-clause-ok : goal.returns-clause-ok
returns-clause-ok c = λ run.
    on_ok_weaker c.make_all.result
    (λ h. folder_made c.args.world.now (shown c.make_all.new.world) run c.args.place.now (c.in_ok-duplicate.field-0 ∷ c.in_ok-places.places.items)
    (λ p. ap (λ q. same_place q p || is_among c.in_ok-places.places.items p) c.in_ok-duplicate.ensures ∙ ap (λ b. same_place c.args.place.now p || b) (c.in_ok-places.ensures p)) h)
    (search rules)
