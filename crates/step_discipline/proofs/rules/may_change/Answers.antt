use Rattle.std.proofs.Common.{rules}
use Rattle.std.proofs.lemmas.Result.{IfOk-weaker}
use Rattle.step_discipline.specs.Seen.{seen_all}
use Rattle.folder_files.proofs.Kinding.{makes_kind, creates_kind, links_kind, renames_kind, unlinks_kind, cuts_kind}
use Rattle.step_discipline.proofs.rules.may_change.Goals as goal

pub returns-in-MakeFolder : goal.returns-in-MakeFolder
returns-in-MakeFolder c = makes_kind c.args.run (seen_all c.args.own.now) _ _ _ c.in-MakeFolder.is (search rules)

pub returns-in-Create : goal.returns-in-Create
returns-in-Create c = creates_kind c.args.run (seen_all c.args.own.now) _ _ _ _ _ c.in-Create.is c.may_create.ensures

pub returns-in-Link : goal.returns-in-Link
returns-in-Link c = links_kind c.args.run (seen_all c.args.own.now) _ _ _ _ _ c.in-Link.is c.may_link.ensures

pub returns-in-Rename : goal.returns-in-Rename
returns-in-Rename c = renames_kind c.args.run (seen_all c.args.own.now) _ _ _ _ _ c.in-Rename.is c.may_rename.ensures

pub returns-in-Unlink : goal.returns-in-Unlink
returns-in-Unlink c = unlinks_kind c.args.run (seen_all c.args.own.now) _ _ _ _ c.in-Unlink.is c.may_unlink.ensures

pub returns-in-CutDrop : goal.returns-in-CutDrop
returns-in-CutDrop c = IfOk-weaker c.may_cut.result _ _ (λ b e. cuts_kind c.args.run (seen_all c.args.own.now) _ _ _ _ c.in-CutDrop.is e) c.may_cut.ensures
