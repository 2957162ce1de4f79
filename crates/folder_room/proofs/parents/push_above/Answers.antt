use Rattle.std.proofs.Common.{◌==◌, ◌&&◌, ◌||◌, ap, sym, ◌∙◌}
use Rattle.std.proofs.lemmas.Result.{on_ok_weaker}
use Rattle.folder_room.specs.Parents.{is_among, is_above}
use Rattle.folder_room.proofs.parents.push_above.Goals as goal

pub returns-then-next-eq47 : goal.returns-then-next-eq47
returns-then-next-eq47 c = λ name e.
    on_ok_weaker c.push_folder.result (λ h p. h p ∙ ap (λ n. is_among c.args.above.now.items p || ((n == 47) && is_above c.args.path.now name p)) (sym c.if-next-eq47.true)) (c.push_folder.ensures name e)
