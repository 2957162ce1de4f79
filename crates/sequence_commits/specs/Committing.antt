-- The plans by which a folder's sequences are committed.
use Rattle.std.specs.Prelude.{ℕ, Bool, true, false, nat_lt, List, length, Ok, Err, if◌then◌else◌}
use Rattle.mh_base.specs.Entries.{entry_text}
use Rattle.mh_base.specs.declared.entry.Entry.TheVariants.{Sequences}
use Rattle.mh_profile.specs.declared.named_value.NamedValue.{NamedValue}
use Rattle.mh_sequences.specs.declared.mark.Mark.{Mark}
use Rattle.mh_sequences.specs.declared.run.Run.{Run}
use Rattle.mh_sequences.specs.Printing.{private_entries, text_of}
use Rattle.mh_sequences.specs.Reading.{suffix}
use Rattle.mh_sequences.specs.Sequences.{Marked}
use Rattle.folder_files.specs.declared.place.Place.{Place}
use Rattle.file_plans.specs.Plan.{Return, Recall, ◌>>=◌}
use Rattle.step_plans.specs.ContextCommit.{LIMIT_BYTES, commit_context}
use Rattle.step_plans.specs.PlanFaults.{Planned}
use Rattle.step_plans.specs.Replacing.{replaced}
use Rattle.step_plans.specs.declared.fault.PlanFault.TheVariants as fault
use Rattle.sequence_commits.specs.Cutting.{cut_to}
use Rattle.sequence_commits.specs.Marking.{marked_by_all}
use Rattle.sequence_commits.specs.PrivateChanges.{changes_to}
use Rattle.mh_profile.specs.Reading.{entries_seen}
use Rattle.sequence_commits.specs.Telling.{same_told}

-- the text takes the place of the folder's, where it is not too long
unfoldable pub sequences_replaced : ℕ → Place → List ℕ → Planned Unit
sequences_replaced run p text =
    if nat_lt LIMIT_BYTES (length text) then Return (Err (fault.TooLarge (length text)))
    else replaced run p (entry_text Sequences) text

-- of the folder with this ending the context has just these entries
unfoldable pub entries_committed : ℕ → Place → List ℕ → List NamedValue → Planned Unit
entries_committed run mail ending kept =
    Recall (λ h. commit_context run mail (changes_to ending kept (entries_seen h.context)))

-- the folder's text, and then the context
unfoldable pub told_committed : ℕ → Place → Place → List ℕ → List ℕ → List NamedValue → Planned Unit
told_committed run p mail ending text kept = do
  written ← sequences_replaced run p text
  entries_committed run mail ending kept

-- new sequences of the folder at this place: its text, and then what the context says of the private ones
abbrev pub sequences_committed : ℕ → Place → Place → List ℕ → Marked → Planned Unit
sequences_committed run p mail folder new =
    told_committed run p mail (suffix folder) (text_of new) (private_entries (suffix folder) new.users)

abbrev pub committed_unless : Bool → ℕ → Place → Place → List ℕ → Marked → Planned Unit
committed_unless true run p mail folder new = Return (Ok tt)
committed_unless false run p mail folder new = sequences_committed run p mail folder new

-- new sequences in place of others; no step where the text and the private entries are alike
unfoldable pub changed_sequences : ℕ → Place → Place → List ℕ → Marked → Marked → Planned Unit
changed_sequences run p mail folder old new = committed_unless (same_told folder old new) run p mail folder new

-- what marks make of sequences
abbrev pub marks_committed : ℕ → Place → Place → List ℕ → Marked → List Mark → Planned Unit
marks_committed run p mail folder old marks = changed_sequences run p mail folder old (marked_by_all marks old)

-- what is left of sequences under a set of listed numbers
abbrev pub cut_committed : ℕ → Place → Place → List ℕ → Marked → List Run → Planned Unit
cut_committed run p mail folder old listing = changed_sequences run p mail folder old (cut_to listing old)
