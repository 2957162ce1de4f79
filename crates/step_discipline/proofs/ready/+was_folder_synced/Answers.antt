use Rattle.std.proofs.Common.{rules}
use Rattle.step_discipline.proofs.Onces.{once_here, once_there}
use Rattle.step_discipline.proofs.ready.+was_folder_synced.Goals as goal

pub returns-then-syncs_folder : goal.returns-then-syncs_folder
returns-then-syncs_folder t c = once_here _ c.args.own.now c.in-Some.older.now c.in-Some.deed.now _ (search rules) (search rules) (search rules)

pub returns-else-syncs_folder : goal.returns-else-syncs_folder
returns-else-syncs_folder t c = once_there _ c.args.own.now c.in-Some.older.now c.in-Some.deed.now _ (search rules) (search rules) (search rules)
