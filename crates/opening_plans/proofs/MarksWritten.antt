-- What a folder's new text marks, and what the context does after a change of entries.
use Rattle.std.proofs.Common.{◌≡◌, ◌⊎◌, inl, inr, ℕ, Bool, true, false, ◌&&◌, ◌||◌, List, [], ◌∷◌, ◌++◌, Option, Some, None, map, filter, refl, sym, ◌∙◌, ap, subst, bytes_eq}
use Rattle.std.specs.Prelude.{IfSome, not, if◌then◌else◌}
use Rattle.mh_base.specs.Numbers.{IsMsgNum}
use Rattle.mh_profile.specs.declared.named_value.NamedValue.{NamedValue}
use Rattle.mh_profile.specs.Changes.{with_entry, without}
use Rattle.mh_profile.specs.Names.{is_attribute, same_entry}
use Rattle.mh_profile.specs.Printing.{printed}
use Rattle.mh_profile.specs.Reading.{entries_in}
use Rattle.mh_profile.specs.Validity.{AreEntries, has_name}
use Rattle.mh_profile.proofs.EntryLists.{entries_filtered, entries_with}
use Rattle.mh_profile.proofs.PrintedBack.{reads_back}
use Rattle.mh_profile.proofs.ValidEntries.{entries_valid}
use Rattle.mh_sequences.specs.Lists.{lists}
use Rattle.mh_sequences.specs.Names.{is_seq_name}
use Rattle.mh_sequences.specs.Printing.{private_entries, text_of}
use Rattle.mh_sequences.specs.Reading.{attribute, lists_private, lists_public, suffix}
use Rattle.mail_headers.specs.Fields.{fields_of, same_name}
use Rattle.mh_sequences.specs.Sequences.{AreSequences, Marked, member}
use Rattle.mh_sequences.proofs.ReadBack as read_back
use Rattle.folder_files.proofs.Names.{both, bytes_true, bytes_false, not_both, or_case, or_last}
use Rattle.step_plans.specs.ContextCommit.{AreChanges, IsChangeBy, changed, changed_by}
use Rattle.step_plans.specs.declared.change.ChangeEntry.{ChangeEntry}
use Rattle.sequence_marks.specs.SequenceMarks.{says_private, says_public}
use Rattle.sequence_marks.proofs.OtherEntries.{by_bool}
use Rattle.sequence_commits.specs.FolderEntries.{is_of_folder}
use Rattle.sequence_commits.specs.PrivateChanges.{changes_to, entry_names, given, gone, is_left_over}

pub and_both : (a b : Bool) → a ≡ true → b ≡ true → (a && b) ≡ true
and_both a b e f = rw (e, f) refl

-- what a text of sequences marks is a member of them
pub text_marks : (m : Marked) → AreSequences m.users → IfSome m.cur IsMsgNum → (sequence : List ℕ) (n : ℕ) → says_public sequence (text_of m) n ≡ true → member m.users sequence n ≡ true
text_marks m valid cur sequence n e =
    let parts = both (is_seq_name sequence) (lists_public (fields_of (text_of m)) sequence n) e in
    let told = (read_back.reads_back m valid cur sequence).numbers sequence n in
    told ∙ and_both (is_seq_name sequence) (lists_public (fields_of (text_of m)) sequence n || lists_private (private_entries (suffix sequence) m.users) (suffix sequence) sequence n) parts.0
    (ap (λ b. b || lists_private (private_entries (suffix sequence) m.users) (suffix sequence) sequence n) parts.1)

-- and so is what the entries of the private ones list
pub entries_mark : (m : Marked) → AreSequences m.users → IfSome m.cur IsMsgNum → (folder sequence : List ℕ) (n : ℕ) → is_seq_name sequence ≡ true
    → lists_private (private_entries (suffix folder) m.users) (suffix folder) sequence n ≡ true → member m.users sequence n ≡ true
entries_mark m valid cur folder sequence n named e =
    let told = (read_back.reads_back m valid cur folder).numbers sequence n in
    told ∙ and_both (is_seq_name sequence) (lists_public (fields_of (text_of m)) sequence n || lists_private (private_entries (suffix folder) m.users) (suffix folder) sequence n) named
    (or_last (lists_public (fields_of (text_of m)) sequence n) (lists_private (private_entries (suffix folder) m.users) (suffix folder) sequence n) e)

-- an entry that is the same as a sequence's is that one
attribute_same : (name other ending sequence : List ℕ) → same_entry name other ≡ true → bytes_eq other (attribute ending sequence) ≡ true → bytes_eq name (attribute ending sequence) ≡ true
unfolding same_entry
attribute_same name other ending sequence same is = go (or_case (bytes_eq name other) (not (is_attribute name) && not (is_attribute other) && same_name name other) same)
  where
    attributed : is_attribute other ≡ true
    attributed = ap is_attribute (bytes_true other (attribute ending sequence) is)

    go : (bytes_eq name other ≡ true) ⊎ ((not (is_attribute name) && not (is_attribute other) && same_name name other) ≡ true) → bytes_eq name (attribute ending sequence) ≡ true
    go (inl e) = subst (λ z. bytes_eq z (attribute ending sequence) ≡ true) (sym (bytes_true name other e)) is
    go (inr e) = let parts = both (not (is_attribute name) && not (is_attribute other)) (same_name name other) e in let more = both (not (is_attribute name)) (not (is_attribute other)) parts.0 in absurd (negated (is_attribute other) attributed more.1)
      where
        negated : (b : Bool) → b ≡ true → not b ≡ true → ⊥
        negated true e f = cc (f)
        negated false e f = cc (e)

-- the entry of this name lists the number, after a change
abbrev pub GivesOne : List ℕ → Option (List ℕ) → List ℕ → ℕ → Type 0
GivesOne name None wanted n = ⊥
GivesOne name (Some value) wanted n = (bytes_eq name wanted ≡ true) × (lists value n ≡ true)

abbrev pub Gives : List ChangeEntry → List ℕ → ℕ → Type 0
Gives [] wanted n = ⊥
Gives (c ∷ cs) wanted n = GivesOne c.name c.value wanted n ⊎ Gives cs wanted n

with_lists : (name value ending sequence : List ℕ) (n : ℕ) (es : List NamedValue) → lists_private (with_entry name value es) ending sequence n ≡ true → GivesOne name (Some value) (attribute ending sequence) n ⊎ (lists_private es ending sequence n ≡ true)
with_lists name value ending sequence n [] e =
    elim (or_case (bytes_eq name (attribute ending sequence) && lists value n) false e) [
      | inl t ↦ inl (both (bytes_eq name (attribute ending sequence)) (lists value n) t)
      | inr f ↦ cc (f)
    ]
with_lists name value ending sequence n (e ∷ es) h =
    by_bool (same_entry name e.name)
    (λ t. elim (or_case (bytes_eq e.name (attribute ending sequence) && lists value n) (lists_private es ending sequence n) (rw t at h)) [
      | inl k ↦ let parts = both (bytes_eq e.name (attribute ending sequence)) (lists value n) k in inl (attribute_same name e.name ending sequence t parts.0, parts.1)
      | inr k ↦ inr (or_last (bytes_eq e.name (attribute ending sequence) && lists e.value n) (lists_private es ending sequence n) k)
    ])
    (λ f. elim (or_case (bytes_eq e.name (attribute ending sequence) && lists e.value n) (lists_private (with_entry name value es) ending sequence n) (rw f at h)) [
      | inl k ↦ inr (ap (λ b. b || lists_private es ending sequence n) k)
      | inr k ↦ elim (with_lists name value ending sequence n es k) [
        | inl g ↦ inl g
        | inr g ↦ inr (or_last (bytes_eq e.name (attribute ending sequence) && lists e.value n) (lists_private es ending sequence n) g)
      ]
    ])

without_lists : (name ending sequence : List ℕ) (n : ℕ) (es : List NamedValue) → lists_private (without name es) ending sequence n ≡ true → lists_private es ending sequence n ≡ true
without_lists name ending sequence n [] e = e
without_lists name ending sequence n (e ∷ es) h = go (not (same_entry name e.name)) h (without_lists name ending sequence n es)
  where
    go : (b : Bool) → lists_private (if b then e ∷ without name es else without name es) ending sequence n ≡ true → (lists_private (without name es) ending sequence n ≡ true → lists_private es ending sequence n ≡ true) → lists_private (e ∷ es) ending sequence n ≡ true
    go true k f = elim (or_case (bytes_eq e.name (attribute ending sequence) && lists e.value n) (lists_private (without name es) ending sequence n) k) [
      | inl t ↦ ap (λ b. b || lists_private es ending sequence n) t
      | inr t ↦ or_last (bytes_eq e.name (attribute ending sequence) && lists e.value n) (lists_private es ending sequence n) (f t)
    ]
    go false k f = or_last (bytes_eq e.name (attribute ending sequence) && lists e.value n) (lists_private es ending sequence n) (f k)

one_lists : (name : List ℕ) (value : Option (List ℕ)) (ending sequence : List ℕ) (n : ℕ) (es : List NamedValue) → lists_private (changed_by name value es) ending sequence n ≡ true → GivesOne name value (attribute ending sequence) n ⊎ (lists_private es ending sequence n ≡ true)
one_lists name None ending sequence n es e = inr (without_lists name ending sequence n es e)
one_lists name (Some value) ending sequence n es e = with_lists name value ending sequence n es e

-- what is listed after changes was given by one of them, or listed before
pub changed_lists : (cs : List ChangeEntry) (es : List NamedValue) (ending sequence : List ℕ) (n : ℕ) → lists_private (changed cs es) ending sequence n ≡ true → Gives cs (attribute ending sequence) n ⊎ (lists_private es ending sequence n ≡ true)
unfolding changed
changed_lists [] es ending sequence n e = inr e
changed_lists (c ∷ cs) es ending sequence n e = elim (changed_lists cs (changed_by c.name c.value es) ending sequence n e) [
  | inl g ↦ inl (inr g)
  | inr f ↦ elim (one_lists c.name c.value ending sequence n es f) [ inl g ↦ inl (inl g) | inr g ↦ inr g ]
]

-- no change speaks of this name
abbrev pub Silent : List ChangeEntry → List ℕ → Type 0
Silent [] wanted = Unit {0}
Silent (c ∷ cs) wanted = (bytes_eq c.name wanted ≡ false) × Silent cs wanted

other_entry : (name other ending sequence : List ℕ) → bytes_eq name (attribute ending sequence) ≡ false → same_entry name other ≡ true → bytes_eq other (attribute ending sequence) ≡ false
other_entry name other ending sequence apart same =
    by_bool (bytes_eq other (attribute ending sequence)) (λ t. absurd (not_both (bytes_eq name (attribute ending sequence)) (attribute_same name other ending sequence same t) apart)) (λ f. f)

with_same : (name value ending sequence : List ℕ) (n : ℕ) (es : List NamedValue) → bytes_eq name (attribute ending sequence) ≡ false → lists_private (with_entry name value es) ending sequence n ≡ lists_private es ending sequence n
with_same name value ending sequence n [] apart = rw apart refl
with_same name value ending sequence n (e ∷ es) apart = by_bool (same_entry name e.name)
    (λ t. rw t (rw (other_entry name e.name ending sequence apart t) refl))
    (λ f. rw f (ap (λ z. (bytes_eq e.name (attribute ending sequence) && lists e.value n) || z) (with_same name value ending sequence n es apart)))

without_same : (name ending sequence : List ℕ) (n : ℕ) (es : List NamedValue) → bytes_eq name (attribute ending sequence) ≡ false → lists_private (without name es) ending sequence n ≡ lists_private es ending sequence n
without_same name ending sequence n [] apart = refl
without_same name ending sequence n (e ∷ es) apart = by_bool (same_entry name e.name)
    (λ t. rw t (without_same name ending sequence n es apart ∙ sym (rw (other_entry name e.name ending sequence apart t) refl)))
    (λ f. rw f (ap (λ z. (bytes_eq e.name (attribute ending sequence) && lists e.value n) || z) (without_same name ending sequence n es apart)))

one_same : (name : List ℕ) (value : Option (List ℕ)) (ending sequence : List ℕ) (n : ℕ) (es : List NamedValue) → bytes_eq name (attribute ending sequence) ≡ false → lists_private (changed_by name value es) ending sequence n ≡ lists_private es ending sequence n
one_same name None ending sequence n es apart = without_same name ending sequence n es apart
one_same name (Some value) ending sequence n es apart = with_same name value ending sequence n es apart

-- such changes list the same
pub changed_same : (cs : List ChangeEntry) (es : List NamedValue) (ending sequence : List ℕ) (n : ℕ) → Silent cs (attribute ending sequence) → lists_private (changed cs es) ending sequence n ≡ lists_private es ending sequence n
unfolding changed
changed_same [] es ending sequence n silent = refl
changed_same (c ∷ cs) es ending sequence n silent = changed_same cs (changed_by c.name c.value es) ending sequence n silent.1 ∙ one_same c.name c.value ending sequence n es silent.0

-- changes keep entries entries
pub changed_valid : (cs : List ChangeEntry) (es : List NamedValue) → AreChanges cs → AreEntries es → AreEntries (changed cs es)
unfolding changed
changed_valid [] es ok all = all
changed_valid (c ∷ cs) es ok all = changed_valid cs (changed_by c.name c.value es) ok.1 (one c.value ok.0)
  where
    one : (value : Option (List ℕ)) → IsChangeBy c.name value → AreEntries (changed_by c.name value es)
    one None o = entries_filtered (λ e. not (same_entry c.name e.name)) es all
    one (Some value) o = entries_with c.name value es o.0 o.1 all

-- the text that changes make of a text has just their entries
pub text_back : (cs : List ChangeEntry) (text : List ℕ) → AreChanges cs → entries_in (printed (changed cs (entries_in text))) ≡ changed cs (entries_in text)
text_back cs text ok = reads_back (changed cs (entries_in text)) (changed_valid cs (entries_in text) ok (entries_valid text))

-- where no change speaks of a folder's sequence, its marks stay the same
pub marks_stay : (cs : List ChangeEntry) (text folder sequence : List ℕ) (n : ℕ) → AreChanges cs → (is_seq_name sequence ≡ true → Silent cs (attribute (suffix folder) sequence))
    → says_private folder sequence (printed (changed cs (entries_in text))) n ≡ says_private folder sequence text n
marks_stay cs text folder sequence n ok silent = go (is_seq_name sequence) refl
  where
    go : (b : Bool) → is_seq_name sequence ≡ b → (b && lists_private (entries_in (printed (changed cs (entries_in text)))) (suffix folder) sequence n) ≡ (b && lists_private (entries_in text) (suffix folder) sequence n)
    go true e = ap (λ es. lists_private es (suffix folder) sequence n) (text_back cs text ok) ∙ changed_same cs (entries_in text) (suffix folder) sequence n (silent e)
    go false e = refl

-- what the context marks after changes of a folder's entries was given by one of them, or marked before
pub marks_given : (cs : List ChangeEntry) (text folder sequence : List ℕ) (n : ℕ) → AreChanges cs → says_private folder sequence (printed (changed cs (entries_in text))) n ≡ true
    → (is_seq_name sequence ≡ true) × (Gives cs (attribute (suffix folder) sequence) n ⊎ (says_private folder sequence text n ≡ true))
marks_given cs text folder sequence n ok e =
    let parts = both (is_seq_name sequence) (lists_private (entries_in (printed (changed cs (entries_in text)))) (suffix folder) sequence n) e in (
      parts.0,
      elim (changed_lists cs (entries_in text) (suffix folder) sequence n (sym (ap (λ es. lists_private es (suffix folder) sequence n) (text_back cs text ok)) ∙ parts.1)) [
        | inl g ↦ inl g
        | inr f ↦ inr (and_both (is_seq_name sequence) (lists_private (entries_in text) (suffix folder) sequence n) parts.0 f)
      ],
    )

gone_gives : (names : List (List ℕ)) (wanted : List ℕ) (n : ℕ) → Gives (map gone names) wanted n → ⊥
gone_gives [] wanted n g = g
gone_gives (x ∷ names) wanted n (inl g) = g
gone_gives (x ∷ names) wanted n (inr g) = gone_gives names wanted n g

given_gives : (kept : List NamedValue) (names : List (List ℕ)) (ending sequence : List ℕ) (n : ℕ) → Gives (map given kept ++ map gone names) (attribute ending sequence) n → lists_private kept ending sequence n ≡ true
given_gives [] names ending sequence n g = absurd (gone_gives names (attribute ending sequence) n g)
given_gives (e ∷ kept) names ending sequence n (inl g) = ap (λ b. b || lists_private kept ending sequence n) (and_both (bytes_eq e.name (attribute ending sequence)) (lists e.value n) g.0 g.1)
given_gives (e ∷ kept) names ending sequence n (inr g) = or_last (bytes_eq e.name (attribute ending sequence) && lists e.value n) (lists_private kept ending sequence n) (given_gives kept names ending sequence n g)

-- the changes that write a folder's entries give what these entries list
pub changes_give : (kept seen : List NamedValue) (ending sequence : List ℕ) (n : ℕ) → Gives (changes_to ending kept seen) (attribute ending sequence) n → lists_private kept ending sequence n ≡ true
unfolding changes_to
changes_give kept seen ending sequence n g = given_gives kept (filter (is_left_over ending kept) (entry_names seen)) ending sequence n g

-- of what they speak: names of the folder's entries
gone_silent : (ending wanted : List ℕ) (kept : List NamedValue) (names : List (List ℕ)) → is_of_folder ending wanted ≡ false → Silent (map gone (filter (is_left_over ending kept) names)) wanted
gone_silent ending wanted kept [] other = tt
gone_silent ending wanted kept (x ∷ names) other = go (is_left_over ending kept x) refl (gone_silent ending wanted kept names other)
  where
    apart : is_of_folder ending x ≡ true → bytes_eq x wanted ≡ false
    apart e = bytes_false x wanted (λ same. not_both (is_of_folder ending wanted) (subst (λ z. is_of_folder ending z ≡ true) same e) other)

    go : (b : Bool) → is_left_over ending kept x ≡ b → Silent (map gone (filter (is_left_over ending kept) names)) wanted → Silent (map gone (if b then x ∷ filter (is_left_over ending kept) names else filter (is_left_over ending kept) names)) wanted
    go true e rest = (apart (both (is_of_folder ending x) (not (has_name x kept)) e).0, rest)
    go false e rest = rest

abbrev pub AreOfFolder : List ℕ → List NamedValue → Type 0
AreOfFolder ending [] = Unit {0}
AreOfFolder ending (e ∷ es) = (is_of_folder ending e.name ≡ true) × AreOfFolder ending es

given_silent : (ending wanted : List ℕ) (kept : List NamedValue) (rest : List ChangeEntry) → is_of_folder ending wanted ≡ false → AreOfFolder ending kept → Silent rest wanted → Silent (map given kept ++ rest) wanted
given_silent ending wanted [] rest other all silent = silent
given_silent ending wanted (e ∷ kept) rest other all silent = (bytes_false e.name wanted (λ same. not_both (is_of_folder ending wanted) (subst (λ z. is_of_folder ending z ≡ true) same all.0) other), given_silent ending wanted kept rest other all.1 silent)

pub changes_silent : (kept seen : List NamedValue) (ending wanted : List ℕ) → is_of_folder ending wanted ≡ false → AreOfFolder ending kept → Silent (changes_to ending kept seen) wanted
unfolding changes_to
changes_silent kept seen ending wanted other all = given_silent ending wanted kept (map gone (filter (is_left_over ending kept) (entry_names seen))) other all (gone_silent ending wanted kept (entry_names seen) other)
