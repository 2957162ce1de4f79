use Rattle.std.proofs.Common.{◌≡◌, ◌++◌, ◌∷◌, [], true, false, ap, subst, sym, ◌∙◌}
use Rattle.std.specs.Map.{values_of}
use Rattle.mh_profile.specs.Changes.{noted}
use Rattle.mh_profile.specs.Names.{key_of}
use Rattle.mh_profile.specs.Validity.{AreEntries, has_name}
use Rattle.mh_profile.proofs.EntryLists.{entries_more, noted_new, noted_there}
use Rattle.mh_profile.proofs.KeyedEntries.{added_keyed, added_values, has_by_key}
use Rattle.mh_profile.proofs.entries.Entries.note.Goals as goal

pub returns-then-contains_key : goal.returns-then-contains_key
returns-then-contains_key c =
    let is : c.as_slice-2.result.now ≡ key_of c.args.entry.name = c.as_slice-2.ensures.value ∙ c.in_ok-key.ensures ∙ ap key_of c.as_slice.ensures in
    let there : has_name c.args.entry.name (values_of c.self.inside.map.entries) ≡ true =
    has_by_key c.args.entry.name c.as_slice-2.result.now is c.self.inside.map.entries c.self.invariant.0 ∙ sym c.contains_key.ensures ∙ c.if-contains_key.true in
    subst (λ es. es ≡ noted es c.args.entry) c.self.view_is (noted_there (values_of c.self.inside.map.entries) c.args.entry there)

pub invariant_of-self-2 : goal.invariant_of-self-2
invariant_of-self-2 c =
    let keyed : c.in_ok-key.key.items ≡ key_of c.args.entry.name = c.in_ok-key.ensures ∙ ap key_of c.as_slice.ensures in
    let is : c.as_slice-2.result.now ≡ key_of c.args.entry.name = c.as_slice-2.ensures.value ∙ keyed in
    let absent : has_name c.args.entry.name (values_of c.self.inside.map.entries) ≡ false =
    has_by_key c.args.entry.name c.as_slice-2.result.now is c.self.inside.map.entries c.self.invariant.0 ∙ sym c.contains_key.ensures ∙ c.if-contains_key.false in
    let more : values_of c.add.new.map.entries ≡ values_of c.self.inside.map.entries ++ c.args.entry ∷ [] =
    ap values_of c.in_ok-add.ensures.ok ∙ added_values c.self.inside.map.entries c.in_ok-key.key c.args.entry in
    (rw c.in_ok-add.ensures.ok (added_keyed c.self.inside.map.entries c.in_ok-key.key c.args.entry c.self.invariant.0 keyed), subst AreEntries (sym more) (entries_more (values_of c.self.inside.map.entries) c.args.entry c.self.invariant.1 c.requires absent))

pub returns : goal.returns
returns c =
    let is : c.as_slice-2.result.now ≡ key_of c.args.entry.name = c.as_slice-2.ensures.value ∙ c.in_ok-key.ensures ∙ ap key_of c.as_slice.ensures in
    let absent : has_name c.args.entry.name (values_of c.self.inside.map.entries) ≡ false =
    has_by_key c.args.entry.name c.as_slice-2.result.now is c.self.inside.map.entries c.self.invariant.0 ∙ sym c.contains_key.ensures ∙ c.if-contains_key.false in
    ap values_of c.in_ok-add.ensures.ok
    ∙ added_values c.self.inside.map.entries c.in_ok-key.key c.args.entry
    ∙ noted_new (values_of c.self.inside.map.entries) c.args.entry absent
    ∙ ap (λ es. noted es c.args.entry) c.self.view_is
