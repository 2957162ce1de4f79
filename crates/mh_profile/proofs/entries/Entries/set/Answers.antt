use Rattle.std.proofs.Common.{◌≡◌, false, Some, ap, slice_get, subst, sym, ◌∙◌}
use Rattle.std.specs.Map.{values_of}
use Rattle.mh_profile.specs.Changes.{with_entry}
use Rattle.mh_profile.specs.Names.{key_of}
use Rattle.mh_profile.specs.Validity.{AreEntries, has_name}
use Rattle.mh_profile.proofs.EntryLists.{entries_with, with_entry-absent}
use Rattle.mh_profile.proofs.KeyedEntries.{added_keyed, added_values, has_by_key, set_keyed, set_values}
use Rattle.mh_profile.proofs.entries.Entries.set.Goals as goal

pub invariant_of-self : goal.invariant_of-self
invariant_of-self c =
    let is : c.as_slice-2.result.now ≡ key_of c.args.name = c.as_slice-2.ensures.value ∙ c.in_ok-key.ensures ∙ ap key_of c.as_slice.ensures in
    let found : slice_get (values_of c.self.inside.map.entries) c.in-Some.index ≡ Some c.index_mut.result.now = c.index_mut.ensures.value in
    let changed = set_values c.args.name c.as_slice-2.result.now is c.self.inside.map.entries c.in-Some.index c.index_mut.result.now c.args.value c.in_ok-key.key c.self.invariant.0 c.in-Some.ensures.index found in (
      set_keyed c.self.inside.map.entries c.in-Some.index c.index_mut.result.now c.args.value c.self.invariant.0 found,
      subst AreEntries (sym changed) (entries_with c.args.name c.args.value (values_of c.self.inside.map.entries) c.requires.name c.requires.value c.self.invariant.1),
    )

pub returns-in-Some-clause-ok : goal.returns-in-Some-clause-ok
returns-in-Some-clause-ok c =
    let is : c.as_slice-2.result.now ≡ key_of c.args.name = c.as_slice-2.ensures.value ∙ c.in_ok-key.ensures ∙ ap key_of c.as_slice.ensures in
    set_values c.args.name c.as_slice-2.result.now is c.self.inside.map.entries c.in-Some.index c.index_mut.result.now c.args.value c.in_ok-key.key c.self.invariant.0 c.in-Some.ensures.index c.index_mut.ensures.value
    ∙ ap (with_entry c.args.name c.args.value) c.self.view_is

pub invariant_of-self-in-None : goal.invariant_of-self-in-None
invariant_of-self-in-None c =
    let keyed : c.in_ok-key.key.items ≡ key_of c.args.name = c.in_ok-key.ensures ∙ ap key_of c.as_slice.ensures in
    let is : c.as_slice-2.result.now ≡ key_of c.args.name = c.as_slice-2.ensures.value ∙ keyed in
    let absent : has_name c.args.name (values_of c.self.inside.map.entries) ≡ false =
    has_by_key c.args.name c.as_slice-2.result.now is c.self.inside.map.entries c.self.invariant.0 ∙ sym c.in-None.ensures.found in
    let more =
    ap values_of c.in_ok-add-in-None.ensures.ok ∙ added_values c.self.inside.map.entries c.in_ok-key.key (record { name = c.args.name; value = c.args.value })
    ∙ sym (with_entry-absent c.args.name c.args.value (values_of c.self.inside.map.entries) absent) in (
      rw c.in_ok-add-in-None.ensures.ok (added_keyed c.self.inside.map.entries c.in_ok-key.key (record { name = c.args.name; value = c.args.value }) c.self.invariant.0 keyed),
      subst AreEntries (sym more) (entries_with c.args.name c.args.value (values_of c.self.inside.map.entries) c.requires.name c.requires.value c.self.invariant.1),
    )

pub returns-in_ok-add-in-None-clause-ok : goal.returns-in_ok-add-in-None-clause-ok
returns-in_ok-add-in-None-clause-ok c =
    let is : c.as_slice-2.result.now ≡ key_of c.args.name = c.as_slice-2.ensures.value ∙ c.in_ok-key.ensures ∙ ap key_of c.as_slice.ensures in
    let absent : has_name c.args.name (values_of c.self.inside.map.entries) ≡ false =
    has_by_key c.args.name c.as_slice-2.result.now is c.self.inside.map.entries c.self.invariant.0 ∙ sym c.in-None.ensures.found in
    ap values_of c.in_ok-add-in-None.ensures.ok
    ∙ added_values c.self.inside.map.entries c.in_ok-key.key (record { name = c.args.name; value = c.args.value })
    ∙ sym (with_entry-absent c.args.name c.args.value (values_of c.self.inside.map.entries) absent)
    ∙ ap (with_entry c.args.name c.args.value) c.self.view_is
