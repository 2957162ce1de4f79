use Rattle.std.proofs.Common.{length}
use Rattle.mbox_drop.proofs.PartsLoop.{IsParting}
use Rattle.mbox_drop.proofs.parts.cut_parts.Given as goal

abbrev pub invariant-parts : goal.invariant-parts
invariant-parts l = IsParting l.first l.fn.bytes l.left l.messages.items l.long

abbrev pub decreases-parts : goal.decreases-parts
decreases-parts l = length l.left
