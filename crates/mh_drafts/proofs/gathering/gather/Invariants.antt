use Rattle.std.proofs.Common.{◌≡◌, ◌≤◌, ◌+◌, length}
use Rattle.mime_tree.specs.BoundaryLines.{lines}
use Rattle.mh_drafts.specs.Gatherings.{completed}
use Rattle.mh_drafts.specs.Items.{whole_of}
use Rattle.mh_drafts.specs.Marks.{marks_from, marks_in}
use Rattle.mh_drafts.proofs.gathering.gather.Given as goal

abbrev pub invariant-loop-rest : goal.invariant-loop-rest
invariant-loop-rest l = record {
  whole : completed l.gathering (marks_from l.gathering.depth (lines l.rest)) ≡ whole_of (marks_in l.body);
  few : length l.gathering.signs + length l.rest ≤ length l.body;
  shallow : l.gathering.depth + length l.rest ≤ length l.body;
}

abbrev pub decreases-loop-rest : goal.decreases-loop-rest
decreases-loop-rest l = length l.rest
