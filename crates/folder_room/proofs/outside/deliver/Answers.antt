use Rattle.std.proofs.Common.{rules}
use Rattle.std.proofs.lemmas.Result.{on_ok_weaker}
use Rattle.folder_room.proofs.Outsides.{delivered_more, delivered_first}
use Rattle.folder_room.proofs.outside.deliver.Goals as goal

pub returns-in-Some-clause-ok : goal.returns-in-Some-clause-ok
returns-in-Some-clause-ok c =
    on_ok_weaker c.extend.result (λ e. delivered_more c.args.world.now c.args.path.now c.args.piece.now c.in-Some.index c.get_mut.result.now c.extend.new.self (search rules) (search rules) c.get_mut.ensures.value (search rules)) c.extend.ensures.ok

pub returns-in_ok-bytes-in-None-clause-ok : goal.returns-in_ok-bytes-in-None-clause-ok
returns-in_ok-bytes-in-None-clause-ok c =
    on_ok_weaker c.push.result (λ e. delivered_first c.args.world.now c.args.path.now c.args.piece.now c.push.new.self c.in_ok-path-in-None.path c.in_ok-bytes-in-None.bytes (search rules) (search rules) (search rules) e) c.push.ensures.ok
