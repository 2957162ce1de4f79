use Rattle.std.proofs.Common.{rules, ◌∙◌, ap}
use Rattle.std.proofs.lemmas.Result.{on_ok_weaker}
use Rattle.folder_room.specs.Positions.{with_change}
use Rattle.folder_files.specs.Worlds.{shown}
use Rattle.folder_files.specs.declared.world.Change.TheVariants as change
use Rattle.folder_room.proofs.Renaming.{link_made, link_none, link_taken}
use Rattle.folder_room.proofs.naming.link.Goals as goal

pub returns-in_default-clause-ok : goal.returns-in_default-clause-ok
returns-in_default-clause-ok c = λ run. link_none c.args.world.now run c.args.place.now c.args.from.now c.args.to.now (search rules)

pub returns-in_ok-duplicate-in-None-clause-ok : goal.returns-in_ok-duplicate-in-None-clause-ok
returns-in_ok-duplicate-in-None-clause-ok c = λ run.
    on_ok_weaker c.change_at.result (λ e. e ∙ (ap (λ n. with_change (shown c.args.world.now) c.args.place.now (change.Set n c.in-Some.file)) c.in_ok-duplicate-in-None.ensures ∙ link_made c.args.world.now run c.args.place.now c.args.from.now c.args.to.now c.in-Some.file c.in-Some.ensures c.in-None.ensures)) c.change_at.ensures.ok

pub returns-in-Some-leads-clause-ok : goal.returns-in-Some-leads-clause-ok
returns-in-Some-leads-clause-ok c = λ run. link_taken c.args.world.now run c.args.place.now c.args.from.now c.args.to.now _ _ c.in-Some.ensures c.in-Some-leads.ensures
