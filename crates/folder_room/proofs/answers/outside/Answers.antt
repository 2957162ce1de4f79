use Rattle.std.proofs.Common.{rules}
use Rattle.folder_room.proofs.Outsides.{outside_found, outside_lacking}
use Rattle.folder_room.proofs.answers.outside.Goals as goal

pub returns-in-Some : goal.returns-in-Some
returns-in-Some c = outside_found c.args.drops.now c.in-Some.index c.args.path.now c.index-drops-index.result (search rules) (search rules)

pub returns-in-None : goal.returns-in-None
returns-in-None c = outside_lacking c.args.drops.now c.args.path.now (search rules)
