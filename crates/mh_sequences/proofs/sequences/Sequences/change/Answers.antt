use Rattle.std.proofs.Common.{map, ap, subst, sym}
use Rattle.mh_sequences.specs.Changes.{change_of, IsAllChanged}
use Rattle.mh_sequences.specs.Sequences.{AreSequences, told, told_entry}
use Rattle.mh_sequences.proofs.Changing.{each_valid, each_changed, change_none}
use Rattle.mh_sequences.proofs.sequences.Sequences.change.Goals as goal

pub by_names-requires : goal.by_names-requires
by_names-requires c = each_valid (change_of c.args.change) (change_none c.args.change) (map told_entry c.self.inside.users.entries) (map told c.in_ok-changed.changed.items) c.in_ok-changed.ensures c.self.invariant

pub invariant_of-self : goal.invariant_of-self
invariant_of-self c =
    subst AreSequences (sym c.in_ok-self-inside.ensures)
    (each_valid (change_of c.args.change) (change_none c.args.change) (map told_entry c.self.inside.users.entries) (map told c.in_ok-changed.changed.items) c.in_ok-changed.ensures c.self.invariant)

pub returns-clause-ok : goal.returns-clause-ok
returns-clause-ok c =
    subst (λ new. IsAllChanged (change_of c.args.change) c.args.self.now.users new) (sym c.in_ok-self-inside.ensures)
    (subst (λ old. IsAllChanged (change_of c.args.change) old (map told c.in_ok-changed.changed.items)) (ap (λ v. v.users) c.self.view_is)
    (each_changed (change_of c.args.change) (change_none c.args.change) (map told_entry c.self.inside.users.entries) (map told c.in_ok-changed.changed.items) c.in_ok-changed.ensures c.self.invariant))

pub returns-clause-valid : goal.returns-clause-valid
returns-clause-valid c = invariant_of-self c
