-- What commits make of a mailbox, by what their run knows of the context. Nothing here knows of steps.
use Rattle.std.specs.Prelude.{ℕ, List, length, nat_lt, Option, None, Some, if◌then◌else◌}
use Rattle.mh_profile.specs.Printing.{printed}
use Rattle.mh_profile.specs.declared.named_value.NamedValue.{NamedValue}
use Rattle.mh_sequences.specs.Printing.{text_of}
use Rattle.mh_sequences.specs.Sequences.{Marked}
use Rattle.folder_files.specs.declared.place.Place.TheVariants.{Folder, Mail}
use Rattle.file_plans.specs.MailboxChanges.{with_context_text}
use Rattle.file_plans.specs.Mailboxes.{Mailbox}
use Rattle.step_plans.specs.ContextCommit.{LIMIT_BYTES, changed, says}
use Rattle.step_plans.specs.declared.change.ChangeEntry.{ChangeEntry}
use Rattle.sequence_commits.specs.PrivateChanges.{private_changes}
use Rattle.sequence_commits.specs.SequencesChanged.{with_sequences_text}
use Rattle.sequence_commits.specs.Telling.{same_told}

-- a mailbox, and the entries of its context
pub record Kept : Type 0 where
  pub mailbox : Mailbox
  pub entries : List NamedValue

abbrev pub kept_of : Mailbox → List NamedValue → Kept
kept_of m entries = record { mailbox = m; entries = entries }

-- what is there after commits: all were made, or the text of one was too long, with its length
pub record Commits : Type 0 where
  pub kept : Kept
  pub long : Option ℕ

abbrev pub all_made : Kept → Commits
all_made k = record { kept = k; long = None }

abbrev pub too_long : Kept → ℕ → Commits
too_long k l = record { kept = k; long = Some l }

-- the context of this mail directory has new entries, unless their text is too long
abbrev pub entries_written : List ℕ → List NamedValue → Kept → Commits
entries_written path entries k =
    if nat_lt LIMIT_BYTES (length (printed entries)) then too_long k (length (printed entries))
    else all_made (kept_of (with_context_text k.mailbox (Mail path) (printed entries)) entries)

-- these changes of the context are made, where it doesn't say so already
unfoldable pub context_kept : List ℕ → List ChangeEntry → Kept → Commits
context_kept path cs k = if says k.entries cs then all_made k else entries_written path (changed cs k.entries) k

-- the folder's sequences have a new text, unless it is too long, and then the context says of the private ones what it
-- is to say
abbrev pub sequences_written : List ℕ → List ℕ → Marked → Kept → Commits
sequences_written path folder new k =
    if nat_lt LIMIT_BYTES (length (text_of new)) then too_long k (length (text_of new))
    else context_kept path (private_changes folder new.users k.entries)
    (kept_of (with_sequences_text k.mailbox (Folder path folder) (text_of new)) k.entries)

-- new sequences of the folder in place of others, where they tell anything else
unfoldable pub sequences_kept : List ℕ → List ℕ → Marked → Marked → Kept → Commits
sequences_kept path folder old new k =
    if same_told folder old new then all_made k else sequences_written path folder new k
