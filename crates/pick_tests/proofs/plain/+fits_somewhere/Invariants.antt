use Rattle.std.proofs.Common.{length}
use Rattle.pick_tests.proofs.plain.+fits_somewhere.Given as goal

abbrev pub decreases-fits_somewhere : goal.decreases-fits_somewhere
decreases-fits_somewhere l = length l.line.now
