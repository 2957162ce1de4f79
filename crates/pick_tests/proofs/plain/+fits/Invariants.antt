use Rattle.std.proofs.Common.{◌+◌, length}
use Rattle.pick_tests.proofs.plain.+fits.Given as goal

abbrev pub decreases-fits : goal.decreases-fits
decreases-fits l = length l.elements.now + length l.line.now
