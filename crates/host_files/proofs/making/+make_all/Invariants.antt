use Rattle.host_files.proofs.making.+make_all.Given as goal

abbrev pub decreases-make_all : goal.decreases-make_all
decreases-make_all l = l.depth
