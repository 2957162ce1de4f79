use Rattle.std.proofs.Common.{◌≡◌, ◌≤◌, ◌++◌, drop}
use Rattle.mail_text.specs.Marks.{marks, marks_from, depth_of}
use Rattle.mail_text.proofs.marks.marks.Given as goal

abbrev pub invariant-loop-c : goal.invariant-loop-c
invariant-loop-c l = record {
  deep : depth_of l.inside ≤ l.c-index;
  left : l.marks.items ++ marks_from l.inside (drop l.c-index l.text) ≡ marks l.text;
}
