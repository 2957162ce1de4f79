-- Numbers that the context does not mark, as a run knows it under a folder's lock.
use Rattle.std.proofs.Common.{◌≡◌, inl, inr, ◌∷◌, ℕ, true, false, List, refl}
use Rattle.std.specs.Prelude.{IfSome}
use Rattle.mh_base.specs.Numbers.{IsMsgNum}
use Rattle.mh_profile.specs.declared.named_value.NamedValue.{NamedValue}
use Rattle.mh_profile.specs.Printing.{printed}
use Rattle.mh_profile.specs.Reading.{entries_in}
use Rattle.mh_profile.proofs.ValidEntries.{entries_valid}
use Rattle.mh_sequences.specs.Names.{is_seq_name}
use Rattle.mh_sequences.specs.Printing.{private_entries}
use Rattle.mh_sequences.specs.Reading.{attribute, lists_private, suffix}
use Rattle.mh_sequences.specs.Runs.{has}
use Rattle.mh_sequences.specs.Sequences.{AreSequences, Marked, member}
use Rattle.mh_sequences.specs.declared.run.Run.{Run}
use Rattle.mh_sequences.proofs.ContextEntries.{valid_entries}
use Rattle.mh_sequences.proofs.Suffixes.{suffix_clean}
use Rattle.folder_files.specs.Careful.{HasLock}
use Rattle.folder_files.specs.Deeds.{Deed, WasDone, did}
use Rattle.folder_files.specs.declared.place.Place.{Place}
use Rattle.folder_files.specs.declared.place.Place.TheVariants.{Folder, Mail}
use Rattle.folder_files.specs.declared.step.Answer.{Answer}
use Rattle.folder_files.specs.declared.step.Answer.TheVariants as answer
use Rattle.folder_files.specs.declared.step.Step.{Step}
use Rattle.folder_files.specs.declared.step.Step.TheVariants as step
use Rattle.folder_files.proofs.Names.{both, not_both}
use Rattle.step_plans.specs.Commits.{IsBase}
use Rattle.step_plans.specs.ContextCommit.{AreChanges, changed, context_name, says}
use Rattle.step_plans.specs.Pledges.{MayAsk, Pledge}
use Rattle.step_plans.specs.declared.change.ChangeEntry.{ChangeEntry}
use Rattle.marks_law.specs.Apart.{IsFree}
use Rattle.marks_law.specs.Apart as apart
use Rattle.sequence_marks.specs.SequenceMarks.{private_marks, says_private}
use Rattle.sequence_marks.proofs.OtherEntries.{by_bool}
use Rattle.sequence_commits.specs.PrivateChanges.{changes_to}
use Rattle.sequence_commits.proofs.ChangesTo.{are_changes}
use Rattle.opening_plans.proofs.CommitSeen.{NoCommit}
use Rattle.opening_plans.proofs.FolderSeen.{renamed_own}
use Rattle.opening_plans.proofs.MarksWritten.{Gives, changes_give, entries_mark, marks_given}
use Rattle.opening_plans.proofs.SpokenEntries.{listed_spoken, settled_gives, text_spoken}

-- the run knows of each private sequence of the folder that the context does not mark what this text does not
abbrev pub FreesRead : ℕ → List ℕ → List ℕ → List ℕ → List Deed → Type 0
FreesRead run path folder context own = (sequence : List ℕ) (n : ℕ) → says_private folder sequence context n ≡ false → IsFree run (private_marks path folder sequence) n own

-- or that it marks no number that was not listed
abbrev pub FreesOthers : ℕ → List ℕ → List ℕ → List Run → List Deed → Type 0
FreesOthers run path folder listing own = (sequence : List ℕ) (n : ℕ) → has listing n ≡ false → IsFree run (private_marks path folder sequence) n own

pub free_kept : (run : ℕ) (path folder sequence : List ℕ) (n : ℕ) (own : List Deed) (s : Step) (a : Answer) → (s ≡ step.Unlock (Folder path folder) → ⊥) → NoCommit path s → IsFree run (private_marks path folder sequence) n own
    → IsFree run (private_marks path folder sequence) n (did s a ∷ own)
free_kept run path folder sequence n own s a off none f = apart.on off none f

-- sequences of listed numbers take the place of those that were read of a context
module _ (w : Pledge) (path folder context : List ℕ) (listing : List Run) (m : Marked) (valid : AreSequences m.users) (cur : IfSome m.cur IsMsgNum) (listed : (sequence : List ℕ) (n : ℕ) → member m.users sequence n ≡ true → has listing n ≡ true) where
  abbrev mail : Place
  mail = Mail path

  abbrev kept : List NamedValue
  kept = private_entries (suffix folder) m.users

  abbrev cs : List ChangeEntry
  cs = changes_to (suffix folder) kept (entries_in context)

  ok : AreChanges cs
  ok = are_changes (suffix folder) kept (entries_in context) (valid_entries (suffix folder) m.users (suffix_clean folder) valid)

  given_listed : (sequence : List ℕ) (n : ℕ) → is_seq_name sequence ≡ true → Gives cs (attribute (suffix folder) sequence) n → has listing n ≡ true
  given_listed sequence n named g = listed sequence n (entries_mark m valid cur folder sequence n named (changes_give kept (entries_in context) (suffix folder) sequence n g))

  -- where the context says it already
  pub settled_frees : (own : List Deed) → says (entries_in context) cs ≡ true → FreesRead w.run path folder context own → FreesOthers w.run path folder listing own
  settled_frees own so f sequence n unlisted = by_bool (says_private folder sequence context n)
      (λ t. let parts = both (is_seq_name sequence) (lists_private (entries_in context) (suffix folder) sequence n) t in
      absurd (not_both (has listing n) (given_listed sequence n parts.0
      (settled_gives (suffix folder) sequence n cs (entries_in context) (entries_valid context) so (listed_spoken folder sequence parts.0 kept n (entries_in context) parts.1) parts.1)) unlisted))
      (λ e. f sequence n e)

  -- where a commit made it so
  pub commit_frees : (own : List Deed) (temp old : List ℕ) → MayAsk w own (step.Rename mail temp context_name) → HasLock (Folder path folder) own → IsBase w.run mail context_name old own
      → WasDone (step.Create mail temp (printed (changed cs (entries_in old)))) own → FreesRead w.run path folder context own → FreesOthers w.run path folder listing (did (step.Rename mail temp context_name) answer.Done ∷ own)
  commit_frees own temp old may lock base made f sequence n unlisted = by_bool (says_private folder sequence context n)
      (λ t. apart.committed refl (renamed_own w mail own temp context_name refl may) made lock (unsaid t))
      (λ e. apart.carried refl (renamed_own w mail own temp context_name refl may) made base more (f sequence n e))
    where
      text : List ℕ
      text = printed (changed cs (entries_in old))

      unsaid : says_private folder sequence context n ≡ true → says_private folder sequence text n ≡ false
      unsaid t = by_bool (says_private folder sequence text n)
          (λ e. let parts = both (is_seq_name sequence) (lists_private (entries_in context) (suffix folder) sequence n) t in
          absurd (not_both (has listing n) (given_listed sequence n parts.0 (text_spoken cs old folder sequence n ok (listed_spoken folder sequence parts.0 kept n (entries_in context) parts.1) e)) unlisted))
          (λ e. e)

      more : says_private folder sequence text n ≡ true → says_private folder sequence old n ≡ true
      more e = let g = marks_given cs old folder sequence n ok e in elim g.1 [
        | inl given ↦ absurd (not_both (has listing n) (given_listed sequence n g.0 given) unlisted)
        | inr was ↦ was
      ]
