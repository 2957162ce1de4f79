use Rattle.std.proofs.Common.{◌≡◌, ap, subst, sym, ◌∙◌}
use Rattle.std.specs.Map.{values_of}
use Rattle.mh_profile.specs.Changes.{without}
use Rattle.mh_profile.specs.Names.{key_of}
use Rattle.mh_profile.specs.Validity.{AreEntries}
use Rattle.mh_profile.proofs.EntryLists.{entries_filtered}
use Rattle.mh_profile.proofs.KeyedEntries.{removed_keyed, removed_values}
use Rattle.mh_profile.proofs.entries.Entries.remove.Goals as goal

pub invariant_of-self : goal.invariant_of-self
invariant_of-self c =
    let is : c.as_slice.result.now ≡ key_of c.args.name.now = c.as_slice.ensures.value ∙ c.in_ok-key.ensures in
    let left : values_of c.shift_remove.new.self.entries ≡ without c.args.name.now (values_of c.self.inside.map.entries) =
    ap values_of c.shift_remove.ensures.entries ∙ removed_values c.args.name.now c.as_slice.result.now is c.self.inside.map.entries c.self.invariant.0 c.self.invariant.1 in
    (rw c.shift_remove.ensures.entries (removed_keyed _ c.self.inside.map.entries c.self.invariant.0), subst AreEntries (sym left) (entries_filtered _ (values_of c.self.inside.map.entries) c.self.invariant.1))

pub returns-clause-ok : goal.returns-clause-ok
returns-clause-ok c =
    let is : c.as_slice.result.now ≡ key_of c.args.name.now = c.as_slice.ensures.value ∙ c.in_ok-key.ensures in
    ap values_of c.shift_remove.ensures.entries
    ∙ removed_values c.args.name.now c.as_slice.result.now is c.self.inside.map.entries c.self.invariant.0 c.self.invariant.1
    ∙ ap (without c.args.name.now) c.self.view_is
