use Rattle.std.proofs.Common.{rules, arith}
use Rattle.folder_room.proofs.Placing.{skips_more, is_of, skips_none}
use Rattle.folder_room.proofs.places.position.Goals as goal

pub loop-index-init : goal.loop-index-init
loop-index-init c = skips_none c.args.directories.now c.args.place.now

pub loop-index-preserved : goal.loop-index-preserved
loop-index-preserved c =
    skips_more c.args.directories.now c.loop-index.index c.args.place.now c.index-directories-index.result (omega arith) (search rules) c.loop-index.invariant

pub returns-then-same-clause-found : goal.returns-then-same-clause-found
returns-then-same-clause-found c =
    (omega arith, c.loop-index.invariant, is_of c.args.directories.now c.loop-index.index c.args.place.now c.index-directories-index.result (omega arith) (search rules))
