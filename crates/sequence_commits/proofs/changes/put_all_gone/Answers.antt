use Rattle.sequence_commits.specs.PrivateChanges.{entry_names, is_left_over}
use Rattle.sequence_commits.proofs.ChangesTo.{more_gone}
use Rattle.sequence_commits.proofs.changes.put_all_gone.Goals as goal

pub loop-index-preserved : goal.loop-index-preserved
loop-index-preserved c =
    more_gone (is_left_over c.args.ending.now c.args.kept.now) (entry_names c.args.seen.now) c.loop-index.index c.args.changes.now c.loop-index.changes c.put_gone_at.new.changes c.in_ok-put_gone_at.ensures c.loop-index.invariant
