use Rattle.std.proofs.Common.{sym, ◌∙◌, subst}
use Rattle.mh_profile.specs.Changes.{with_entry}
use Rattle.mh_profile.specs.Names.{IsFieldName}
use Rattle.mh_profile.specs.Validity.{IsEntry}
use Rattle.mh_profile.specs.Values.{IsUnfolded}
use Rattle.sequence_commits.proofs.EntriesSet.{more_set, none_set, all_set, each_entry}
use Rattle.sequence_commits.proofs.changes.looked_up.Goals as goal

pub loop-entry-init : goal.loop-entry-init
loop-entry-init c = c.new-found.ensures ∙ none_set c.args.entries.now

pub set-requires : goal.set-requires
set-requires c =
    let e : IsEntry c.entry-item.result = each_entry _ _ _ c.requires c.loop-entry-test.true c.entry-item.is in
    record { name = subst IsFieldName (sym c.in_ok-duplicate.ensures) e.name; value = subst IsUnfolded (sym c.in_ok-duplicate-2.ensures) e.value }

pub loop-entry-preserved : goal.loop-entry-preserved
loop-entry-preserved c =
    more_set _ _ _ _ _ c.loop-entry-test.true c.entry-item.is (c.in_ok-set.ensures.ok ∙ (λ i. with_entry (c.in_ok-duplicate.ensures i) (c.in_ok-duplicate-2.ensures i) c.loop-entry.found)) c.loop-entry.invariant

pub returns : goal.returns
returns c = all_set _ _ _ c.loop-entry-test.false c.loop-entry.invariant
