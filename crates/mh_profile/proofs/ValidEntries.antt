-- What is read of a text are entries, and changes keep them so.
use Rattle.std.proofs.Common.{◌≡◌, ℕ, Bool, true, false, List, [], ◌∷◌, Option, Some, None, filter, refl}
use Rattle.std.specs.Prelude.{not}
use Rattle.mail_headers.specs.Fields.{FieldText, field_in}
use Rattle.mh_profile.specs.declared.named_value.NamedValue.{NamedValue}
use Rattle.mh_profile.specs.Lines.{folded_lines}
use Rattle.mh_profile.specs.Names.{same_entry}
use Rattle.mh_profile.specs.Reading.{entries_in, first_of_each, listed}
use Rattle.mh_profile.specs.Validity.{AreEntries, IsEntry, has_name}
use Rattle.mh_profile.proofs.EntryLists.{entries_filtered}
use Rattle.mh_profile.proofs.FieldEntries.{field_valid}
use Rattle.mh_profile.proofs.OneLineValues.{IsUnfolded-unfolded}

-- each is an entry
abbrev Each : List NamedValue → Type 0
Each [] = Unit {0}
Each (e ∷ es) = IsEntry e × Each es

each_listed : (lines : List (List ℕ)) → Each (listed lines)
each_listed [] = tt
each_listed (l ∷ lines) = go (field_in l) refl (each_listed lines)
  where
    go : (o : Option FieldText) → field_in l ≡ o → Each (listed lines) → Each (listed (l ∷ lines))
    go None e rest = rw e rest
    go (Some f) e rest = rw e (record { name = field_valid l f e; value = IsUnfolded-unfolded f.value }, rest)

-- no other entry has the name of the first
none_left : (name : List ℕ) (es : List NamedValue) → has_name name (filter (λ x. not (same_entry name x.name)) es) ≡ false
none_left name [] = refl
none_left name (e ∷ es) = go (same_entry name e.name) refl (none_left name es)
  where
    go : (v : Bool) → same_entry name e.name ≡ v → has_name name (filter (λ x. not (same_entry name x.name)) es) ≡ false → has_name name (filter (λ x. not (same_entry name x.name)) (e ∷ es)) ≡ false
    go true t rest = rw t rest
    go false t rest = rw t (rw t rest)

first_entries : (es : List NamedValue) → Each es → AreEntries (first_of_each es)
first_entries [] all = tt
first_entries (e ∷ es) all = (all.0, none_left e.name (first_of_each es), entries_filtered (λ x. not (same_entry e.name x.name)) (first_of_each es) (first_entries es all.1))

-- what is read of a text are entries
pub entries_valid : (text : List ℕ) → AreEntries (entries_in text)
unfolding entries_in
entries_valid text = first_entries (listed (folded_lines text)) (each_listed (folded_lines text))
