-- Entries of the context that are no sequence's: changing them keeps the marks of all private sequences.
use Rattle.std.proofs.Common.{◌≡◌, ℕ, Bool, true, false, ◌&&◌, ◌||◌, List, [], ◌∷◌, refl, ◌∙◌, ap, bytes_eq}
use Rattle.mh_profile.specs.declared.named_value.NamedValue.{NamedValue}
use Rattle.mh_profile.specs.Changes.{with_entry}
use Rattle.mh_profile.specs.Names.{IsFieldName, is_attribute, same_entry}
use Rattle.mh_profile.specs.Printing.{printed}
use Rattle.mh_profile.specs.Reading.{entries_in}
use Rattle.mh_profile.specs.Values.{IsUnfolded}
use Rattle.mh_profile.proofs.EntryLists.{entries_with}
use Rattle.mh_profile.proofs.PrintedBack.{reads_back}
use Rattle.mh_profile.proofs.ValidEntries.{entries_valid}
use Rattle.mh_sequences.specs.Lists.{lists}
use Rattle.mh_sequences.specs.Names.{is_seq_name}
use Rattle.mh_sequences.specs.Reading.{attribute, lists_private, suffix}
use Rattle.folder_files.proofs.Names.{bytes_true}
use Rattle.sequence_marks.specs.SequenceMarks.{says_private}

pub by_bool : {X : Type 0} (b : Bool) → (b ≡ true → X) → (b ≡ false → X) → X
by_bool true f g = f refl
by_bool false f g = g refl

both : {X : Type 0} (b : Bool) → b ≡ true → b ≡ false → X
both true t f = cc
both false t f = cc

-- a sequence's entry has an attribute's name
is_attributed : (ending sequence : List ℕ) → is_attribute (attribute ending sequence) ≡ true
is_attributed ending sequence = refl

-- any other name is another
no_attribute : (name ending sequence : List ℕ) → is_attribute name ≡ false → bytes_eq name (attribute ending sequence) ≡ false
no_attribute name ending sequence plain =
    by_bool (bytes_eq name (attribute ending sequence)) (λ t. both (is_attribute name) (ap is_attribute (bytes_true name (attribute ending sequence) t) ∙ is_attributed ending sequence) plain) (λ f. f)

not_same : (name ending sequence : List ℕ) → is_attribute name ≡ false → same_entry name (attribute ending sequence) ≡ false
unfolding same_entry
not_same name ending sequence plain = rw (no_attribute name ending sequence plain, plain) refl

-- an entry whose name is the same as one that is no attribute's
not_listed : (name other ending sequence : List ℕ) → is_attribute name ≡ false → same_entry name other ≡ true → bytes_eq other (attribute ending sequence) ≡ false
not_listed name other ending sequence plain same =
    by_bool (bytes_eq other (attribute ending sequence)) (λ t. both (same_entry name other) same (ap (λ z. same_entry name z) (bytes_true other (attribute ending sequence) t) ∙ not_same name ending sequence plain)) (λ f. f)

passed : (b c : Bool) → b ≡ false → (b && c) ≡ false
passed false c e = refl
passed true c e = cc

pub lists_same : (name value ending sequence : List ℕ) (n : ℕ) (es : List NamedValue) → is_attribute name ≡ false → lists_private (with_entry name value es) ending sequence n ≡ lists_private es ending sequence n
lists_same name value ending sequence n [] plain = rw (no_attribute name ending sequence plain) refl
lists_same name value ending sequence n (e ∷ es) plain = by_bool (same_entry name e.name)
    (λ t. rw t (rw (not_listed name e.name ending sequence plain t) refl))
    (λ f. rw f (ap (λ z. (bytes_eq e.name (attribute ending sequence) && lists e.value n) || z) (lists_same name value ending sequence n es plain)))

-- a text in which such an entry has another value marks the same
pub marks_same : (folder sequence name value text : List ℕ) (n : ℕ) → is_attribute name ≡ false → IsFieldName name → IsUnfolded value
    → says_private folder sequence (printed (with_entry name value (entries_in text))) n ≡ says_private folder sequence text n
marks_same folder sequence name value text n plain field clean =
    ap (λ es. is_seq_name sequence && lists_private es (suffix folder) sequence n) (reads_back (with_entry name value (entries_in text)) (entries_with name value (entries_in text) field clean (entries_valid text)))
    ∙ ap (λ b. is_seq_name sequence && b) (lists_same name value (suffix folder) sequence n (entries_in text) plain)
