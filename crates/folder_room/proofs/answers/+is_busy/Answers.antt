use Rattle.std.proofs.Common.{rules}
use Rattle.folder_room.proofs.Locking.{busy_here, busy_there}
use Rattle.folder_room.proofs.answers.+is_busy.Goals as goal

pub returns-then-is_theirs : goal.returns-then-is_theirs
returns-then-is_theirs t c = busy_here _ c.args.locks.now c.in-Some.rest.now c.in-Some.held.now c.args.place.now c.args.run (search rules) (search rules) (search rules) (search rules)

pub returns-else-is_theirs : goal.returns-else-is_theirs
returns-else-is_theirs t c = busy_there _ c.args.locks.now c.in-Some.rest.now c.in-Some.held.now c.args.place.now c.args.run (search rules) (λ a b. search rules) (search rules)
