-- What such a command comes to, by the mailbox. Nothing here knows of steps.
use Rattle.std.specs.Prelude.{ℕ, List, Option, None, Some, Result, Ok, Err}
use Rattle.std.specs.List.{flat_map}
use Rattle.mh_profile.specs.declared.named_value.NamedValue.{NamedValue}
use Rattle.mh_sequences.specs.declared.run.Run.{Run}
use Rattle.mh_sequences.specs.Sequences.{Marked}
use Rattle.folder_files.specs.declared.place.Place.TheVariants.{Folder}
use Rattle.folder_files.specs.declared.refusal.Refusal.TheVariants as refusal
use Rattle.file_plans.specs.Mailboxes.{Folder as FolderValue, Mailbox}
use Rattle.step_plans.specs.declared.command_fault.CommandFault.{CommandFault}
use Rattle.step_plans.specs.declared.command_fault.CommandFault.TheVariants as fault
use Rattle.sequence_commits.specs.Cutting.{cut_to}
use Rattle.sequence_commits.specs.Reading.{sequences_in}
use Rattle.command_stages.specs.Works.{Work, readable, refused_at}
use Rattle.opening_plans.specs.BegunWork.{Homes, after_commits, begun_work, current_work, runs_in}
use Rattle.opening_plans.specs.Kept.{Kept, kept_of, sequences_kept}
use Rattle.told_folders.specs.Tasks.{Task, checked, chosen_from}

abbrev pub joined : List (List ℕ) → List ℕ
joined lines = flat_map (λ line. line) lines

-- the folder has these numbers and sequences: the lines of these, and the current folder
abbrev pub told_work : List ℕ → Task → List Run → Marked → Kept → Work CommandFault
told_work path t listing m k = current_work path t.folder (joined (t.lines listing m)) k

abbrev pub chosen_work : List ℕ → Task → List Run → Marked → Kept → Result (List ℕ) CommandFault → Work CommandFault
chosen_work path t listing m k (Ok numbers) =
    after_commits (sequences_kept path t.folder m (t.becomes listing numbers m) k)
    (told_work path t listing (t.becomes listing numbers m))
chosen_work path t listing m k (Err e) = refused_at k.mailbox e

-- the sequences are changed by the messages that the words choose of a folder with these numbers and sequences
abbrev pub opened_work : List ℕ → Task → List Run → Marked → Kept → Work CommandFault
opened_work path t listing m k = chosen_work path t listing m k (chosen_from t listing m)

-- a command that changes sequences, where the context has these entries, and what was held aside in the folder goes so
unfoldable pub changed_work : List ℕ → List NamedValue → Homes → Task → Mailbox → Work CommandFault
changed_work path entries h t m = begun_work path t.folder entries h m (opened_work path t)

-- the lines are said, where no word is refused
abbrev pub listed_work : List ℕ → Task → List Run → Kept → Result Marked CommandFault → Work CommandFault
listed_work path t listing k (Ok m) = told_work path t listing m k
listed_work path t listing k (Err e) = refused_at k.mailbox e

abbrev pub read_work : List ℕ → Task → Kept → List Run → Result (List ℕ) CommandFault → Work CommandFault
read_work path t k listing (Ok text) =
    listed_work path t listing k (checked t listing (cut_to listing (sequences_in text k.entries t.folder)))
read_work path t k listing (Err e) = refused_at k.mailbox e

abbrev pub there_work : List ℕ → Task → Kept → Option FolderValue → Work CommandFault
there_work path t k None = refused_at k.mailbox (fault.Refused (refusal.NoFolder t.folder))
there_work path t k (Some f) = read_work path t k (runs_in f) (readable f.sequences)

-- one that only looks
unfoldable pub looked_work : List ℕ → List NamedValue → Task → Mailbox → Work CommandFault
looked_work path entries t m = there_work path t (kept_of m entries) (m.folders (Folder path t.folder))
