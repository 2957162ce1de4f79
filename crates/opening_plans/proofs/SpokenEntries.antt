-- Changes of the context that speak of an entry: what it lists after them was given by one of them.
use Rattle.std.proofs.Common.{◌≡◌, ◌⊎◌, inl, inr, ℕ, Bool, true, false, ◌&&◌, ◌||◌, List, [], ◌∷◌, ◌++◌, Option, Some, None, map, filter, refl, sym, ◌∙◌, ap, subst, bytes_eq}
use Rattle.std.specs.Prelude.{not, if◌then◌else◌}
use Rattle.mh_profile.specs.declared.named_value.NamedValue.{NamedValue}
use Rattle.mh_profile.specs.Changes.{value_of, with_entry, without}
use Rattle.mh_profile.specs.Names.{is_attribute, same_entry}
use Rattle.mh_profile.specs.Printing.{printed}
use Rattle.mh_profile.specs.Reading.{entries_in}
use Rattle.mh_profile.specs.Validity.{AreEntries, has_name}
use Rattle.mh_profile.proofs.ValidEntries.{entries_valid}
use Rattle.mail_headers.specs.Fields.{same_name}
use Rattle.mh_sequences.specs.Lists.{lists}
use Rattle.mh_sequences.specs.Names.{is_seq_name}
use Rattle.mh_sequences.specs.Reading.{attribute, lists_private, suffix}
use Rattle.folder_files.proofs.Names.{both, bytes_self, bytes_true, not_both, or_case, or_last}
use Rattle.step_plans.specs.ContextCommit.{AreChanges, changed, changed_by, same_value, says}
use Rattle.step_plans.specs.declared.change.ChangeEntry.{ChangeEntry}
use Rattle.sequence_marks.specs.SequenceMarks.{says_private}
use Rattle.sequence_marks.proofs.OtherEntries.{by_bool}
use Rattle.sequence_commits.specs.FolderEntries.{is_of_folder}
use Rattle.sequence_commits.specs.PrivateChanges.{changes_to, entry_names, given, gone, is_left_over}
use Rattle.opening_plans.proofs.FolderEndings.{of_folder}
use Rattle.opening_plans.proofs.MarksWritten.{Gives, GivesOne, Silent, and_both, changed_same, changed_valid, text_back}

-- some change speaks of this name
abbrev pub Speaks : List ChangeEntry → List ℕ → Type 0
Speaks [] wanted = ⊥
Speaks (c ∷ cs) wanted = (bytes_eq c.name wanted ≡ true) ⊎ Speaks cs wanted

spoken_or : (cs : List ChangeEntry) (wanted : List ℕ) → Speaks cs wanted ⊎ Silent cs wanted
spoken_or [] wanted = inr tt
spoken_or (c ∷ cs) wanted = by_bool (bytes_eq c.name wanted) (λ t. inl (inl t)) (λ f. elim (spoken_or cs wanted) [ inl s ↦ inl (inr s) | inr s ↦ inr (f, s) ])

not_silent : (cs : List ChangeEntry) (wanted : List ℕ) → Speaks cs wanted → Silent cs wanted → ⊥
not_silent [] wanted s silent = s
not_silent (c ∷ cs) wanted (inl t) silent = not_both (bytes_eq c.name wanted) t silent.0
not_silent (c ∷ cs) wanted (inr s) silent = not_silent cs wanted s silent.1

-- an entry is the same as itself
same_self : (name : List ℕ) → same_entry name name ≡ true
unfolding same_entry
same_self name = ap (λ b. b || (not (is_attribute name) && not (is_attribute name) && same_name name name)) (bytes_self name)

-- one that is the same as a sequence's has its name
same_named : (ending sequence other : List ℕ) → same_entry (attribute ending sequence) other ≡ true → attribute ending sequence ≡ other
unfolding same_entry
same_named ending sequence other e = elim (or_case (bytes_eq (attribute ending sequence) other) (not (is_attribute (attribute ending sequence)) && not (is_attribute other) && same_name (attribute ending sequence) other) e) [
  | inl t ↦ bytes_true (attribute ending sequence) other t
  | inr t ↦ cc (t)
]

module _ (ending sequence : List ℕ) (n : ℕ) where
  abbrev attr : List ℕ
  attr = attribute ending sequence

  -- one of another name
  other_name : (name other : List ℕ) → bytes_eq name attr ≡ true → same_entry name other ≡ false → bytes_eq other attr ≡ false
  other_name name other is apart =
      by_bool (bytes_eq other attr)
      (λ t. absurd (not_both (same_entry name other) (subst (λ z. same_entry name z ≡ true) (bytes_true name attr is ∙ sym (bytes_true other attr t)) (same_self name)) apart))
      (λ f. f)

  -- what is listed stands in an entry of the sequence's name
  listed_named : (es : List NamedValue) → lists_private es ending sequence n ≡ true → has_name attr es ≡ true
  listed_named [] e = cc (e)
  listed_named (e ∷ es) h = elim (or_case (bytes_eq e.name attr && lists e.value n) (lists_private es ending sequence n) h) [
    | inl t ↦ ap (λ b. b || has_name attr es) (subst (λ z. same_entry attr z ≡ true) (sym (bytes_true e.name attr (both (bytes_eq e.name attr) (lists e.value n) t).0)) (same_self attr))
    | inr t ↦ or_last (same_entry attr e.name) (has_name attr es) (listed_named es t)
  ]

  -- an entry that was taken away lists nothing
  without_none : (name : List ℕ) (es : List NamedValue) → bytes_eq name attr ≡ true → lists_private (without name es) ending sequence n ≡ false
  without_none name [] is = refl
  without_none name (e ∷ es) is = by_bool (same_entry name e.name) (λ t. rw t (without_none name es is)) (λ f. rw f (rw (other_name name e.name is f) (without_none name es is)))

  -- one that got a value lists what that does
  with_only : (name value : List ℕ) (es : List NamedValue) → bytes_eq name attr ≡ true → AreEntries es → lists_private (with_entry name value es) ending sequence n ≡ true → lists value n ≡ true
  with_only name value [] is all h = elim (or_case (bytes_eq name attr && lists value n) false h) [ inl t ↦ (both (bytes_eq name attr) (lists value n) t).1 | inr t ↦ cc (t) ]
  with_only name value (e ∷ es) is all h = by_bool (same_entry name e.name)
      (λ t. elim (or_case (bytes_eq e.name attr && lists value n) (lists_private es ending sequence n) (rw t at h)) [
        | inl k ↦ (both (bytes_eq e.name attr) (lists value n) k).1
        | inr k ↦
            let here : attr ≡ e.name = same_named ending sequence e.name (subst (λ z. same_entry z e.name ≡ true) (bytes_true name attr is) t) in
            absurd (not_both (has_name attr es) (listed_named es k) (subst (λ z. has_name z es ≡ false) (sym here) all.1))
      ])
      (λ f. elim (or_case (bytes_eq e.name attr && lists e.value n) (lists_private (with_entry name value es) ending sequence n) (rw f at h)) [
        | inl k ↦ absurd (not_both (bytes_eq e.name attr) (both (bytes_eq e.name attr) (lists e.value n) k).0 (other_name name e.name is f))
        | inr k ↦ with_only name value es is all.2 k
      ])

  one_given : (name : List ℕ) (value : Option (List ℕ)) (es : List NamedValue) → bytes_eq name attr ≡ true → AreEntries es → lists_private (changed_by name value es) ending sequence n ≡ true → GivesOne name value attr n
  one_given name None es is all h = absurd (not_both (lists_private (without name es) ending sequence n) h (without_none name es is))
  one_given name (Some value) es is all h = (is, with_only name value es is all h)

  -- what an entry lists of which changes speak was given by one of them
  pub spoken_gives : (cs : List ChangeEntry) (es : List NamedValue) → AreChanges cs → AreEntries es → Speaks cs attr → lists_private (changed cs es) ending sequence n ≡ true → Gives cs attr n
  unfolding changed
  spoken_gives [] es ok all s e = absurd s
  spoken_gives (c ∷ cs) es ok all s e = elim (spoken_or cs attr) [
    | inl later ↦ inr (spoken_gives cs (changed_by c.name c.value es) ok.1 (changed_valid (c ∷ []) es (ok.0, tt) all) later e)
    | inr silent ↦ inl (one_given c.name c.value es (first s silent) all (sym (changed_same cs (changed_by c.name c.value es) ending sequence n silent) ∙ e))
  ]
    where
      first : Speaks (c ∷ cs) attr → Silent cs attr → bytes_eq c.name attr ≡ true
      first (inl t) silent = t
      first (inr later) silent = absurd (not_silent cs attr later silent)

  -- the value of the entry that lists it
  listed_value : (es : List NamedValue) → AreEntries es → lists_private es ending sequence n ≡ true → (value : List ℕ) × (value_of attr es ≡ Some value) × (lists value n ≡ true)
  listed_value [] all h = cc (h)
  listed_value (e ∷ es) all h = by_bool (same_entry attr e.name)
      (λ t. (
        e.value,
        rw t refl,
        elim (or_case (bytes_eq e.name attr && lists e.value n) (lists_private es ending sequence n) h) [
          | inl k ↦ (both (bytes_eq e.name attr) (lists e.value n) k).1
          | inr k ↦ absurd (not_both (has_name attr es) (listed_named es k) (subst (λ z. has_name z es ≡ false) (sym (same_named ending sequence e.name t)) all.1))
        ],
      ))
      (λ f. let rest = listed_value es all.2 (elim (or_case (bytes_eq e.name attr && lists e.value n) (lists_private es ending sequence n) h) [
        | inl k ↦ absurd (not_both (bytes_eq e.name attr) (both (bytes_eq e.name attr) (lists e.value n) k).0 (other_name attr e.name (bytes_self attr) f))
        | inr k ↦ k
      ]) in (rest.0, rw f rest.1, rest.2))

  -- where entries say already what changes would make, what they list of an entry of which these speak is given by one
  pub settled_gives : (cs : List ChangeEntry) (es : List NamedValue) → AreEntries es → says es cs ≡ true → Speaks cs attr → lists_private es ending sequence n ≡ true → Gives cs attr n
  unfolding says
  settled_gives [] es all e s h = absurd s
  settled_gives (c ∷ cs) es all e (inl t) h =
      let v = listed_value es all h in
      let parts = both (same_value (value_of c.name es) c.value) (says es cs) e in
      inl (one c.value v.0 v.2 (subst (λ o. same_value o c.value ≡ true) (ap (λ z. value_of z es) (bytes_true c.name attr t) ∙ v.1) parts.0))
    where
      one : (value : Option (List ℕ)) (v : List ℕ) → lists v n ≡ true → same_value (Some v) value ≡ true → GivesOne c.name value attr n
      one None v has e = cc (e)
      one (Some w) v has e = (t, subst (λ z. lists z n ≡ true) (bytes_true v w e) has)
  settled_gives (c ∷ cs) es all e (inr s) h = inr (settled_gives cs es all (both (same_value (value_of c.name es) c.value) (says es cs) e).1 s h)

-- of what the changes speak that write a folder's entries
speaks_left : (cs ds : List ChangeEntry) (wanted : List ℕ) → Speaks cs wanted → Speaks (cs ++ ds) wanted
speaks_left [] ds wanted s = absurd s
speaks_left (c ∷ cs) ds wanted (inl t) = inl t
speaks_left (c ∷ cs) ds wanted (inr s) = inr (speaks_left cs ds wanted s)

speaks_right : (cs ds : List ChangeEntry) (wanted : List ℕ) → Speaks ds wanted → Speaks (cs ++ ds) wanted
speaks_right [] ds wanted s = s
speaks_right (c ∷ cs) ds wanted s = inr (speaks_right cs ds wanted s)

module _ (folder sequence : List ℕ) (named : is_seq_name sequence ≡ true) (kept : List NamedValue) where
  abbrev ending : List ℕ
  ending = suffix folder

  abbrev wanted : List ℕ
  wanted = attribute ending sequence

  given_speaks : (ks : List NamedValue) → has_name wanted ks ≡ true → Speaks (map given ks) wanted
  given_speaks [] e = cc (e)
  given_speaks (k ∷ ks) e = elim (or_case (same_entry wanted k.name) (has_name wanted ks) e) [
    | inl t ↦ inl (subst (λ z. bytes_eq z wanted ≡ true) (same_named ending sequence k.name t) (bytes_self wanted))
    | inr t ↦ inr (given_speaks ks t)
  ]

  left_over : has_name wanted kept ≡ false → is_left_over ending kept wanted ≡ true
  left_over none = and_both (is_of_folder ending wanted) (not (has_name wanted kept)) (of_folder ending folder sequence named ∙ bytes_self ending) (ap not none)

  gone_speaks : has_name wanted kept ≡ false → (n : ℕ) (es : List NamedValue) → lists_private es ending sequence n ≡ true → Speaks (map gone (filter (is_left_over ending kept) (entry_names es))) wanted
  gone_speaks none n [] e = cc (e)
  gone_speaks none n (e ∷ es) h = elim (or_case (bytes_eq e.name wanted && lists e.value n) (lists_private es ending sequence n) h) [
    | inl t ↦ here (both (bytes_eq e.name wanted) (lists e.value n) t).0
    | inr t ↦ later (is_left_over ending kept e.name) (gone_speaks none n es t)
  ]
    where
      here : bytes_eq e.name wanted ≡ true → Speaks (map gone (if is_left_over ending kept e.name then e.name ∷ filter (is_left_over ending kept) (entry_names es) else filter (is_left_over ending kept) (entry_names es))) wanted
      here is = rw (subst (λ z. is_left_over ending kept z ≡ true) (sym (bytes_true e.name wanted is)) (left_over none)) (inl is)

      later : (b : Bool) → Speaks (map gone (filter (is_left_over ending kept) (entry_names es))) wanted → Speaks (map gone (if b then e.name ∷ filter (is_left_over ending kept) (entry_names es) else filter (is_left_over ending kept) (entry_names es))) wanted
      later true s = inr s
      later false s = s

  -- what the entries list that were seen is spoken of
  pub listed_spoken : (n : ℕ) (es : List NamedValue) → lists_private es ending sequence n ≡ true → Speaks (changes_to ending kept es) wanted
  unfolding changes_to
  listed_spoken n es e = by_bool (has_name wanted kept)
      (λ t. speaks_left (map given kept) (map gone (filter (is_left_over ending kept) (entry_names es))) wanted (given_speaks kept t))
      (λ f. speaks_right (map given kept) (map gone (filter (is_left_over ending kept) (entry_names es))) wanted (gone_speaks f n es e))

-- so of the text that changes make of a text
pub text_spoken : (cs : List ChangeEntry) (text folder sequence : List ℕ) (n : ℕ) → AreChanges cs → Speaks cs (attribute (suffix folder) sequence) → says_private folder sequence (printed (changed cs (entries_in text))) n ≡ true
    → Gives cs (attribute (suffix folder) sequence) n
text_spoken cs text folder sequence n ok s e =
    let parts = both (is_seq_name sequence) (lists_private (entries_in (printed (changed cs (entries_in text)))) (suffix folder) sequence n) e in
    spoken_gives (suffix folder) sequence n cs (entries_in text) ok (entries_valid text) s (sym (ap (λ es. lists_private es (suffix folder) sequence n) (text_back cs text ok)) ∙ parts.1)
