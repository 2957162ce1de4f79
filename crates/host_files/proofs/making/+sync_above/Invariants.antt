use Rattle.host_files.proofs.making.+sync_above.Given as goal

abbrev pub decreases-sync_above : goal.decreases-sync_above
decreases-sync_above l = l.depth
