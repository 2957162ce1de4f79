use Rattle.std.proofs.Common.{rules, ◌∙◌}
use Rattle.std.proofs.lemmas.Result.{on_ok_weaker}
use Rattle.folder_room.specs.Positions.{with_change}
use Rattle.folder_files.specs.Worlds.{shown}
use Rattle.folder_files.specs.declared.world.Change.TheVariants as change
use Rattle.folder_room.proofs.Renaming.{rename_made, rename_none, rename_itself}
use Rattle.folder_room.proofs.naming.rename.Goals as goal

pub returns-then-same-clause-ok : goal.returns-then-same-clause-ok
returns-then-same-clause-ok c = λ run. rename_itself c.args.world.now run c.args.place.now c.args.from.now c.args.to.now (search rules)

pub returns-in-None-clause-ok : goal.returns-in-None-clause-ok
returns-in-None-clause-ok c = λ run. rename_none c.args.world.now run c.args.place.now c.args.from.now c.args.to.now c.in-None.ensures

pub returns-in_ok-duplicate-in-Some-2-clause-ok : goal.returns-in_ok-duplicate-in-Some-2-clause-ok
returns-in_ok-duplicate-in-Some-2-clause-ok c = λ run.
    on_ok_weaker c.change_at.result (λ e. e ∙ ((λ i. with_change (shown c.args.world.now) c.args.place.now (change.Moved (c.in_ok-duplicate-in-Some.ensures i) (c.in_ok-duplicate-in-Some-2.ensures i))) ∙ rename_made c.args.world.now run c.args.place.now c.args.from.now c.args.to.now _ (search rules) c.in-Some.ensures)) c.change_at.ensures.ok
