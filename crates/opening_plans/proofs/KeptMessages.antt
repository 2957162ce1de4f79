-- Commits leave the messages of folders as they are.
use Rattle.std.proofs.Common.{◌≡◌, ℕ, Bool, true, false, List, Option, Some, None, refl, ◌∙◌}
use Rattle.std.specs.Prelude.{length, nat_lt, option_map, if◌then◌else◌}
use Rattle.mh_profile.specs.Printing.{printed}
use Rattle.mh_sequences.specs.Printing.{text_of}
use Rattle.mh_sequences.specs.Sequences.{Marked}
use Rattle.folder_files.specs.Places.{same_place}
use Rattle.folder_files.specs.declared.place.Place.{Place}
use Rattle.folder_files.specs.declared.place.Place.TheVariants.{Folder, Mail}
use Rattle.file_plans.specs.MailboxChanges.{with_context_text}
use Rattle.file_plans.specs.Mailboxes.{Folder as FolderValue, Mailbox}
use Rattle.step_plans.specs.ContextCommit.{LIMIT_BYTES, changed, says}
use Rattle.step_plans.specs.declared.change.ChangeEntry.{ChangeEntry}
use Rattle.sequence_commits.specs.PrivateChanges.{private_changes}
use Rattle.sequence_commits.specs.SequencesChanged.{folder_with_sequences, with_sequences_text}
use Rattle.sequence_commits.specs.Telling.{same_told}
use Rattle.opening_plans.specs.Kept.{Kept, all_made, context_kept, kept_of, sequences_kept, too_long}

-- the message of this number, where the folder is there
abbrev pub message_of : Option FolderValue → ℕ → Option (List ℕ)
message_of None n = None
message_of (Some f) n = f.messages n

abbrev pub message_at : Mailbox → Place → ℕ → Option (List ℕ)
message_at m p n = message_of (m.folders p) n

pub context_messages : (path : List ℕ) (cs : List ChangeEntry) (k : Kept) (p : Place) (n : ℕ) → message_at (context_kept path cs k).kept.mailbox p n ≡ message_at k.mailbox p n
unfolding context_kept
context_messages path cs k p n = go (says k.entries cs) (nat_lt LIMIT_BYTES (length (printed (changed cs k.entries))))
  where
    go : (a b : Bool)
        → message_at (if a then all_made k else (if b then too_long k (length (printed (changed cs k.entries))) else all_made (kept_of (with_context_text k.mailbox (Mail path) (printed (changed cs k.entries))) (changed cs k.entries)))).kept.mailbox p n
        ≡ message_at k.mailbox p n
    go true b = refl
    go false true = refl
    go false false = refl

text_messages : (b : Bool) (text : List ℕ) (o : Option FolderValue) (n : ℕ) → message_of (if b then option_map (folder_with_sequences text) o else o) n ≡ message_of o n
text_messages true text None n = refl
text_messages true text (Some f) n = refl
text_messages false text o n = refl

pub sequences_messages : (path folder : List ℕ) (old new : Marked) (k : Kept) (p : Place) (n : ℕ) → message_at (sequences_kept path folder old new k).kept.mailbox p n ≡ message_at k.mailbox p n
unfolding sequences_kept
sequences_messages path folder old new k p n = go (same_told folder old new) (nat_lt LIMIT_BYTES (length (text_of new)))
  where
    next : Kept
    next = kept_of (with_sequences_text k.mailbox (Folder path folder) (text_of new)) k.entries

    go : (a b : Bool)
        → message_at (if a then all_made k else (if b then too_long k (length (text_of new)) else context_kept path (private_changes folder new.users k.entries) next)).kept.mailbox p n
        ≡ message_at k.mailbox p n
    go true b = refl
    go false true = refl
    go false false = context_messages path (private_changes folder new.users k.entries) next p n ∙ text_messages (same_place (Folder path folder) p) (text_of new) (k.mailbox.folders p) n
