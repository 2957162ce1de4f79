use Rattle.std.proofs.Common.{rules, arith, ◌==◌}
use Rattle.folder_room.proofs.Keyed.{skips_more_by, is_at_by, skips_none_by}
use Rattle.folder_room.proofs.files.file_position.Goals as goal

pub loop-index-init : goal.loop-index-init
loop-index-init c = skips_none_by (λ x. x.id == c.args.id) c.args.files.now

pub loop-index-preserved : goal.loop-index-preserved
loop-index-preserved c = skips_more_by (λ x. x.id == c.args.id) c.args.files.now c.loop-index.index c.index-files-index.result (omega arith) (search rules) c.loop-index.invariant

pub returns-then-files-index-clause-found : goal.returns-then-files-index-clause-found
returns-then-files-index-clause-found c =
    (omega arith, c.loop-index.invariant, is_at_by (λ x. x.id == c.args.id) c.args.files.now c.loop-index.index c.index-files-index.result (omega arith) (search rules))
