use Rattle.folder_words.proofs.RefileFolders.{AreNoted}
use Rattle.folder_words.proofs.refile.folders_named.Given as goal

abbrev pub invariant-loop-item : goal.invariant-loop-item
invariant-loop-item l = AreNoted l.item-items l.item-index l.named
