use Rattle.std.proofs.Common.{◌≡◌, ◌+◌, ◌≤◌, false, drop}
use Rattle.std.specs.Prelude.{option_map}
use Rattle.mh_drafts.specs.Comments.{comment_end}
use Rattle.mh_drafts.proofs.comment.comment_end.Given as goal

abbrev pub invariant-loop-i : goal.invariant-loop-i
invariant-loop-i l = record {
  ends : option_map (λ n. n + l.i) (comment_end l.depth l.protected (drop l.i l.text)) ≡ comment_end 0 false l.text;
  inside : l.depth ≤ l.i;
}
