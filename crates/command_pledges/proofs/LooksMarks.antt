-- A command that only looks at a folder, and makes it the current one, minds the marks of messages.
use Rattle.std.proofs.Common.{◌≡◌, ℕ, true, List}
use Rattle.mh_base.specs.Folders.{is_folder_name}
use Rattle.sequence_marks.proofs.Sequences.{MindsSequences}
use Rattle.told_folders.specs.Pledge.{look_pledge}
use Rattle.told_folders.specs.Tasks.{Task}
use Rattle.command_pledges.proofs.MindsMarks.{minds_all, noting_changes}

pub looks_mind : (run : ℕ) (path : List ℕ) (task : Task) → is_folder_name task.folder ≡ true → MindsSequences (look_pledge run path task)
looks_mind run path task valid = minds_all (look_pledge run path task) path (noting_changes run path) (λ before p name old new m. (task.folder, valid, m.0, m.1))
