use Rattle.std.proofs.Common.{rules, arith, get_or}
use Rattle.folder_files.specs.Places.{same_path}
use Rattle.folder_room.proofs.Keyed.{skips_more_by, is_at_by, skips_none_by}
use Rattle.folder_room.proofs.Outsides.{path_test, path_apart}
use Rattle.folder_room.proofs.outside.outside_position.Goals as goal

pub loop-index-init : goal.loop-index-init
loop-index-init c = skips_none_by (λ o. same_path o.path c.args.path.now) c.args.drops.now

pub loop-index-preserved : goal.loop-index-preserved
loop-index-preserved c =
    skips_more_by (λ o. same_path o.path c.args.path.now) c.args.drops.now c.loop-index.index c.index-drops-index.result (omega arith) (path_apart (get_or c.args.drops.now c.loop-index.index c.index-drops-index.result).path c.args.path.now (search rules)) c.loop-index.invariant

pub returns-then-same-clause-found : goal.returns-then-same-clause-found
returns-then-same-clause-found c =
    (omega arith, c.loop-index.invariant, is_at_by (λ o. same_path o.path c.args.path.now) c.args.drops.now c.loop-index.index c.index-drops-index.result (omega arith) (path_test (get_or c.args.drops.now c.loop-index.index c.index-drops-index.result).path c.args.path.now (search rules)))
