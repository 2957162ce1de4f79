-- Entries under their keys.
use Rattle.std.proofs.Common.{◌≡◌, ℕ, zero, suc, ◌<◌, Bool, true, false, Option, Some, None, List, [], ◌∷◌, ◌++◌, length, get_or, map, ⊎_elim, refl, sym, ◌∙◌, ap, arith}
use Rattle.std.specs.Prelude.{is_some, bytes_eq, slice_get, position}
use Rattle.std.specs.Option.{option_map}
use Rattle.std.specs.Global.{Vec}
use Rattle.std.specs.Map.{keys_of, values_of, lookup, remove_entry}
use Rattle.indexmap.specs.Layout.{set_value_at}
use Rattle.std.proofs.lemmas.Bool.{cases_Bool}
use Rattle.std.proofs.lemmas.List.Quantifiers.{position-Some}
use Rattle.mh_profile.specs.declared.named_value.NamedValue.{NamedValue}
use Rattle.mh_profile.specs.Names.{same_entry, key_of}
use Rattle.mh_profile.specs.Keys.{AreKeyed}
use Rattle.mh_profile.specs.Validity.{AreEntries, has_name}
use Rattle.mh_profile.specs.Changes.{value_of, with_entry, without}
use Rattle.mh_profile.proofs.Keys.{same_by_key}
use Rattle.mh_profile.proofs.EntryLists.{has_as, without_none}

-- an entry stands under this key
abbrev pub stands : List ℕ → Vec ℕ → Bool
stands key k = bytes_eq key k.items

pub none_there : {X : Type 0} (o : Option X) → is_some o ≡ false → o ≡ None
none_there None e = refl
none_there (Some x) e = cc

module _ (name key : List ℕ) (is : key ≡ key_of name) where
  same_at : (p : Vec ℕ × NamedValue) → p.0.items ≡ key_of p.1.name → stands key p.0 ≡ same_entry name p.1.name
  same_at p keyed = ap (λ k. bytes_eq k p.0.items) is ∙ ap (bytes_eq (key_of name)) keyed ∙ sym (same_by_key name p.1.name)

  pub value_by_key : (ps : List (Vec ℕ × NamedValue)) → AreKeyed ps → value_of name (values_of ps) ≡ option_map (λ v. v.value) (lookup (stands key) ps)
  value_by_key [] h = refl
  value_by_key (p ∷ ps) h =
      let same = same_at p h.0 in
      ⊎_elim (λ e. let s : same_entry name p.1.name ≡ true = sym same ∙ e in rw (e, s) refl) (λ e. let s : same_entry name p.1.name ≡ false = sym same ∙ e in rw (e, s) (value_by_key ps h.1)) (cases_Bool (stands key p.0))

  pub has_by_key : (ps : List (Vec ℕ × NamedValue)) → AreKeyed ps → has_name name (values_of ps) ≡ is_some (lookup (stands key) ps)
  has_by_key [] h = refl
  has_by_key (p ∷ ps) h =
      let same = same_at p h.0 in
      ⊎_elim (λ e. let s : same_entry name p.1.name ≡ true = sym same ∙ e in rw (e, s) refl) (λ e. let s : same_entry name p.1.name ≡ false = sym same ∙ e in rw (e, s) (has_by_key ps h.1)) (cases_Bool (stands key p.0))

  pub removed_values : (ps : List (Vec ℕ × NamedValue)) → AreKeyed ps → AreEntries (values_of ps) → values_of (remove_entry (stands key) ps) ≡ without name (values_of ps)
  removed_values [] h k = refl
  removed_values (p ∷ ps) h k =
      let same = same_at p h.0 in
      ⊎_elim
      (λ e. let s : same_entry name p.1.name ≡ true = sym same ∙ e in rw (e, s) (sym (without_none name (values_of ps) (has_as name p.1.name (values_of ps) s ∙ k.1))))
      (λ e. let s : same_entry name p.1.name ≡ false = sym same ∙ e in rw (e, s) (ap (λ l. p.1 ∷ l) (removed_values ps h.1 k.2)))
      (cases_Bool (stands key p.0))

  -- the first entry under the key gets the value
  set_first : (ps : List (Vec ℕ × NamedValue)) (i : ℕ) (v : NamedValue) (value : List ℕ) (d : Vec ℕ) → AreKeyed ps → stands key (get_or (keys_of ps) i d) ≡ true
      → i < length (keys_of ps) → ((k : ℕ) → k < i → stands key (get_or (keys_of ps) k d) ≡ false) → slice_get (values_of ps) i ≡ Some v
      → values_of (set_value_at ps i (record { name = v.name; value = value })) ≡ with_entry name value (values_of ps)
  set_first [] i v value d h at lt before found = absurd (omega arith)
  set_first (p ∷ ps) zero v value d h at lt before found =
      let s : same_entry name p.1.name ≡ true = sym (same_at p h.0) ∙ at in
      let e : p.1 ≡ v = cc in
      rw s (ap (λ x. record { name = x.name; value = value } ∷ values_of ps) (sym e))
  set_first (p ∷ ps) (suc i) v value d h at lt before found =
      let s : same_entry name p.1.name ≡ false = sym (same_at p h.0) ∙ before 0 (omega arith) in
      rw s (ap (λ l. p.1 ∷ l) (set_first ps i v value d h.1 at (omega arith) (λ k below. before (suc k) (omega arith)) found))

  pub set_values : (ps : List (Vec ℕ × NamedValue)) (i : ℕ) (v : NamedValue) (value : List ℕ) (d : Vec ℕ) → AreKeyed ps → Some i ≡ position (stands key) (keys_of ps) → slice_get (values_of ps) i ≡ Some v
      → values_of (set_value_at ps i (record { name = v.name; value = value })) ≡ with_entry name value (values_of ps)
  set_values ps i v value d h at found =
      let first = position-Some (stands key) (keys_of ps) i d (sym at) in
      set_first ps i v value d h first.1 first.0 first.2 found

pub removed_keyed : (test : Vec ℕ → Bool) (ps : List (Vec ℕ × NamedValue)) → AreKeyed ps → AreKeyed (remove_entry test ps)
removed_keyed test [] h = tt
removed_keyed test (p ∷ ps) h = ⊎_elim (λ e. rw e h.1) (λ e. rw e (h.0, removed_keyed test ps h.1)) (cases_Bool (test p.0))

pub set_keyed : (ps : List (Vec ℕ × NamedValue)) (i : ℕ) (v : NamedValue) (value : List ℕ) → AreKeyed ps → slice_get (values_of ps) i ≡ Some v → AreKeyed (set_value_at ps i (record { name = v.name; value = value }))
set_keyed [] i v value h found = tt
set_keyed (p ∷ ps) zero v value h found = let e : p.1 ≡ v = cc in (h.0 ∙ ap (λ x. key_of x.name) e, h.1)
set_keyed (p ∷ ps) (suc i) v value h found = (h.0, set_keyed ps i v value h.1 found)

pub added_keyed : (ps : List (Vec ℕ × NamedValue)) (key : Vec ℕ) (e : NamedValue) → AreKeyed ps → key.items ≡ key_of e.name → AreKeyed (ps ++ (key, e) ∷ [])
added_keyed [] key e h is = (is, tt)
added_keyed (p ∷ ps) key e h is = (h.0, added_keyed ps key e h.1 is)

pub added_values : (ps : List (Vec ℕ × NamedValue)) (key : Vec ℕ) (e : NamedValue) → values_of (ps ++ (key, e) ∷ []) ≡ values_of ps ++ e ∷ []
added_values [] key e = refl
added_values (p ∷ ps) key e = ap (λ l. p.1 ∷ l) (added_values ps key e)

pub name_there : (ps : List (Vec ℕ × NamedValue)) (i : ℕ) (k : Vec ℕ) (v : NamedValue) → Some (k, v) ≡ slice_get ps i → slice_get (map (λ e. e.name) (values_of ps)) i ≡ Some v.name
name_there [] i k v found = cc
name_there (p ∷ ps) zero k v found = let e : (k, v) ≡ p = cc in ap (λ x. Some x.1.name) (sym e)
name_there (p ∷ ps) (suc i) k v found = name_there ps i k v found
