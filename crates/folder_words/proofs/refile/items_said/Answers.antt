use Rattle.folder_words.proofs.RefileFolders.{missing_said, none_named, some_named, wrong_named}
use Rattle.folder_words.proofs.refile.items_said.Goals as goal

pub targets_said-requires : goal.targets_said-requires
targets_said-requires c = some_named c.args.items.now _ (rw c.in-Ok-Some.field-0-is at c.in-Ok-Some.ensures)

pub targets_said-requires-in-Err : goal.targets_said-requires-in-Err
targets_said-requires-in-Err c = wrong_named c.args.items.now _ c.in-Err.ensures

pub returns-in_ok-wrong_at-in-Ok-None : goal.returns-in_ok-wrong_at-in-Ok-None
returns-in_ok-wrong_at-in-Ok-None c = missing_said c.args.words.now c.args.items.now _ (none_named c.args.items.now (rw c.in-Ok-None.field-0-is at c.in-Ok-None.ensures)) (rw c.len.ensures at c.in_ok-wrong_at-in-Ok-None.ensures)
