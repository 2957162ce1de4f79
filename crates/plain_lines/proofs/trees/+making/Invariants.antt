use Rattle.std.proofs.Common.{◌+◌, ◌*◌}
use Rattle.plain_lines.proofs.trees.+making.Given as goal

abbrev pub decreases-part : goal.decreases-part
decreases-part l = l.levels * 2

abbrev pub decreases-parts : goal.decreases-parts
decreases-parts l = l.levels * 2 + 1
