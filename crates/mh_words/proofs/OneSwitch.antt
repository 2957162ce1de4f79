-- A text names one switch at most.
use Rattle.std.proofs.Common.{◌≡◌, ◌<◌, ℕ, List, [], sym, ap, subst, inl, inr, refl, arith, append-nil}
use Rattle.std.proofs.lemmas.Bool.{cases_lt}
use Rattle.mh_words.specs.declared.table.Kind.{Kind}
use Rattle.mh_words.specs.declared.table.Switch.{Switch}
use Rattle.mh_words.specs.Switches.{IsAt, BeginsWith, IsFullName, IsSwitch, IsUnknown, IsAmbiguous}
use Rattle.mh_words.proofs.Lookups.{same_switch}

-- the same switch
pub record IsSame (index other : ℕ) (kind sort : Kind) : Type 0 where
  pub index_same : index ≡ other
  pub kind_same : kind ≡ sort

begins_itself : (text : List ℕ) → BeginsWith text text
begins_itself text = ([], sym (append-nil text))

at_one : (switches : List Switch) (index other : ℕ) (one two : List ℕ) (kind sort : Kind) → IsAt switches index (record { name = one; kind = kind }) → IsAt switches other (record { name = two; kind = sort })
    → index ≡ other → IsSame index other kind sort
at_one switches index other one two kind sort a b e = record {
  index_same = e;
  kind_same = ap (λ (s : Switch). s.kind) (same_switch switches index (record { name = one; kind = kind }) (record { name = two; kind = sort }) a (subst (λ i. IsAt switches i (record { name = two; kind = sort })) (sym e) b));
}

full_index : (switches : List Switch) (text : List ℕ) (index other : ℕ) (kind sort : Kind) → IsFullName switches text index kind → IsFullName switches text other sort → index ≡ other
full_index switches text index other kind sort a b = elim (cases_lt index other) [
  | inl below ↦ absurd (b.first index (record { name = text; kind = kind }) below a.there refl)
  | inr above ↦ elim (cases_lt other index) [
    | inl below ↦ absurd (a.first other (record { name = text; kind = sort }) below b.there refl)
    | inr same ↦ omega arith
  ]
]

pub switch_same : (switches : List Switch) (text : List ℕ) (index other : ℕ) (kind sort : Kind) → IsSwitch switches text index kind → IsSwitch switches text other sort → IsSame index other kind sort
switch_same switches text index other kind sort (inl a) (inl b) = at_one switches index other text text kind sort a.there b.there (full_index switches text index other kind sort a b)
switch_same switches text index other kind sort (inl a) (inr b) = at_one switches index other text b.name kind sort a.there b.there (b.only index (record { name = text; kind = kind }) a.there (begins_itself text))
switch_same switches text index other kind sort (inr a) (inl b) = at_one switches index other a.name text kind sort a.there b.there (sym (a.only other (record { name = text; kind = sort }) b.there (begins_itself text)))
switch_same switches text index other kind sort (inr a) (inr b) = at_one switches index other a.name b.name kind sort a.there b.there (b.only index (record { name = a.name; kind = kind }) a.there a.begins)

pub switch_unknown : (switches : List Switch) (text : List ℕ) (index : ℕ) (kind : Kind) → IsSwitch switches text index kind → IsUnknown switches text → ⊥
switch_unknown switches text index kind (inl a) none = none index (record { name = text; kind = kind }) a.there (begins_itself text)
switch_unknown switches text index kind (inr a) none = none index (record { name = a.name; kind = kind }) a.there a.begins

pub switch_ambiguous : (switches : List Switch) (text : List ℕ) (index : ℕ) (kind : Kind) → IsSwitch switches text index kind → IsAmbiguous switches text → ⊥
switch_ambiguous switches text index kind (inl a) two = two.no_full index (record { name = text; kind = kind }) a.there refl
switch_ambiguous switches text index kind (inr a) two =
    let i : two.index ≡ index = a.only two.index two.one two.one_there two.one_begins in
    let j : two.other ≡ index = a.only two.other two.two two.two_there two.two_begins in
    let apart : two.index < two.other = two.apart in
    absurd (omega arith)

pub unknown_ambiguous : (switches : List Switch) (text : List ℕ) → IsUnknown switches text → IsAmbiguous switches text → ⊥
unknown_ambiguous switches text none two = none two.index two.one two.one_there two.one_begins
