use Rattle.std.proofs.Common.{◌≡◌, ◌≤◌, drop}
use Rattle.mime_tree.specs.declared.gap.Nesting.TheVariants.{Between}
use Rattle.mime_tree.specs.Depths.{depth_of}
use Rattle.mime_tree.specs.Gaps.{behind_gap_at}
use Rattle.mime_tree.proofs.gap.behind_gap.Given as goal

abbrev pub invariant-loop-i : goal.invariant-loop-i
invariant-loop-i l = (behind_gap_at l.place (drop l.i l.text) ≡ behind_gap_at Between l.text) × (depth_of l.place ≤ l.i)
