use Rattle.std.proofs.Common.{length}
use Rattle.step_discipline.proofs.ready.+was_folder_synced.Given as goal

abbrev pub decreases-was_folder_synced : goal.decreases-was_folder_synced
decreases-was_folder_synced l = length l.own.now
