use Rattle.sequence_commits.proofs.EntriesAlike.{other_length, next_differs, next_alike, all_alike}
use Rattle.sequence_commits.proofs.telling.same_entries.Goals as goal

pub returns-then-some-others : goal.returns-then-some-others
returns-then-some-others c = other_length _ _ c.if-some-others.true

pub returns-then-not-same_entry : goal.returns-then-not-same_entry
returns-then-not-same_entry c = next_differs _ _ _ _ _ _ c.loop-index-test.true c.if-some-others.false c.index-some-index.is c.index-others-index.is c.same_entry.ensures c.if-not-same_entry.true c.loop-index.invariant

pub loop-index-preserved : goal.loop-index-preserved
loop-index-preserved c = next_alike _ _ _ _ _ _ c.loop-index-test.true c.if-some-others.false c.index-some-index.is c.index-others-index.is c.same_entry.ensures c.if-not-same_entry.false c.loop-index.invariant

pub returns : goal.returns
returns c = all_alike _ _ _ c.loop-index-test.false c.if-some-others.false c.loop-index.invariant
