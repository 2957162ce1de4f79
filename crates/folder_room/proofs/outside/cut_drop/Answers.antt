use Rattle.std.proofs.Common.{rules, ap, ◌∙◌, length}
use Rattle.folder_files.specs.declared.world.Outside.{Outside}
use Rattle.folder_room.proofs.Keyed.{same_at}
use Rattle.folder_room.proofs.Outsides.{cut_made, cut_longer, cut_missing}
use Rattle.folder_room.proofs.outside.cut_drop.Goals as goal

pub returns-in_default : goal.returns-in_default
returns-in_default c = λ run. cut_missing c.args.world.now run c.args.path.now c.args.cut (search rules)

pub returns-then-len-cut : goal.returns-then-len-cut
returns-then-len-cut c = λ run.
    cut_made c.args.world.now run c.args.path.now c.args.cut c.in-Some.index c.get_mut.result.now c.new.result (search rules) (search rules) (search rules) c.get_mut.ensures.value
    (ap (λ (o : Outside). length o.bytes) (c.get_mut.ensures.value ∙ same_at c.args.world.now.drops c.in-Some.index c.get_mut.result.now c.index-as_slice-index.result (search rules)) ∙ search rules)

pub returns-else-len-cut : goal.returns-else-len-cut
returns-else-len-cut c = λ run.
    cut_longer c.args.world.now run c.args.path.now c.args.cut c.in-Some.index c.index-as_slice-index.result (search rules) (search rules) (search rules) (search rules)
