use Rattle.std.proofs.Common.{◌≡◌, ◌+◌, drop}
use Rattle.mime_tree.specs.BoundaryLines.{line_len}
use Rattle.mime_tree.proofs.mark.line_len.Given as goal

abbrev pub invariant-loop-i : goal.invariant-loop-i
invariant-loop-i l = l.i + line_len (drop l.i l.text) ≡ line_len l.text
