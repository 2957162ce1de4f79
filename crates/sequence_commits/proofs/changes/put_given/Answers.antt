use Rattle.std.proofs.Common.{◌∙◌, ◌++◌, ◌∷◌, [], Some}
use Rattle.sequence_commits.proofs.ChangesTo.{more_given, all_given}
use Rattle.sequence_commits.proofs.changes.put_given.Goals as goal

pub loop-entry-preserved : goal.loop-entry-preserved
loop-entry-preserved c =
    more_given _ _ _ _ _ _ c.loop-entry-test.true c.entry-item.is
    (c.in_ok-push.ensures.ok ∙ (λ i. c.loop-entry.changes ++ record { name = c.in_ok-duplicate.ensures i; value = Some (c.in_ok-duplicate-2.ensures i) } ∷ [])) c.loop-entry.invariant

pub returns : goal.returns
returns c = all_given _ _ _ _ c.loop-entry-test.false c.loop-entry.invariant
