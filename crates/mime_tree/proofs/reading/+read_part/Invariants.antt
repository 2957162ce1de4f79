use Rattle.std.proofs.Common.{◌-◌, map, take}
use Rattle.mime_tree.specs.Trees.{IsPart, AreKids}
use Rattle.mime_tree.proofs.reading.+read_part.Given as goal

abbrev pub decreases-read_part : goal.decreases-read_part
decreases-read_part l = l.levels

abbrev pub invariant-loop-i : goal.invariant-loop-i
invariant-loop-i l = AreKids (IsPart (l.levels - 1) l.bytes l.within) l.fn.path 1 (map (λ k. k.span) (take l.i l.kid-items)) l.kids.items
