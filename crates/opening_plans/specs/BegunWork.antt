-- What a command comes to that begins a folder. Nothing here knows of steps.
use Rattle.std.specs.Prelude.{◌≡◌, ℕ, List, Option, None, Some, Result, Ok, Err, is_some}
use Rattle.mh_profile.specs.declared.named_value.NamedValue.{NamedValue}
use Rattle.mh_sequences.specs.declared.run.Run.{Run}
use Rattle.mh_sequences.specs.Sequences.{Marked}
use Rattle.folder_files.specs.declared.place.Place.TheVariants.{Folder}
use Rattle.folder_files.specs.declared.refusal.Refusal.TheVariants as refusal
use Rattle.file_plans.specs.Mailboxes.{Folder as FolderValue, Mailbox}
use Rattle.step_plans.specs.declared.command_fault.CommandFault.{CommandFault}
use Rattle.step_plans.specs.declared.command_fault.CommandFault.TheVariants as fault
use Rattle.held_messages.specs.HeldPairs.{AreHeld, homes, settled, with_folder_changed}
use Rattle.held_messages.specs.Highest.{IsTop}
use Rattle.held_messages.specs.declared.held.HeldPair.{HeldPair}
use Rattle.sequence_commits.specs.Cutting.{cut_to}
use Rattle.sequence_commits.specs.Reading.{sequences_in}
use Rattle.sequence_commits.specs.RunsOfAll.{runs_of_all}
use Rattle.command_stages.specs.Current.{current_change}
use Rattle.command_stages.specs.Texts.{too_large}
use Rattle.command_stages.specs.Works.{Work, readable, refused_at}
use Rattle.opening_plans.specs.Kept.{Commits, Kept, context_kept, kept_of, sequences_kept}

-- the messages that other runs hold aside in a folder, and where each goes
pub record Homes : Type 0 where
  pub pairs : List HeldPair
  pub ends : List (Option ℕ)

-- the pairs are those of the folder, and each goes where it goes alone
pub record AreHomes (run : ℕ) (f : FolderValue) (h : Homes) : Type 0 where
  pub held : AreHeld run f h.pairs
  pub highest : ℕ
  pub top : IsTop f highest
  pub ends : h.ends ≡ homes (λ k. is_some (f.messages k)) highest h.pairs

-- so in the folder of this place, where it is there
abbrev pub AreHomesAt : ℕ → Option FolderValue → Homes → Type 0
AreHomesAt run None h = Unit {0}
AreHomesAt run (Some f) h = AreHomes run f h

abbrev pub settled_by : Homes → FolderValue → FolderValue
settled_by h f = settled f h.pairs h.ends

-- the numbers of a folder's messages, as runs
abbrev pub runs_in : FolderValue → List Run
runs_in f = runs_of_all (λ n. is_some (f.messages n))

-- how a command goes on after commits: not at all where a text was too long
abbrev pub unless_long : Option ℕ → Kept → (Kept → Work CommandFault) → Work CommandFault
unless_long None k next = next k
unless_long (Some l) k next = refused_at k.mailbox (too_large l)

abbrev pub after_commits : Commits → (Kept → Work CommandFault) → Work CommandFault
after_commits c next = unless_long c.long c.kept next

-- the numbers that are absent leave the sequences, and the command goes on with the folder's numbers and what is left
-- of its sequences
abbrev pub cut_work : List ℕ → List ℕ → List Run → Marked → Kept → (List Run → Marked → Kept → Work CommandFault)
    → Work CommandFault
cut_work path folder listing read k next =
    after_commits (sequences_kept path folder read (cut_to listing read) k) (next listing (cut_to listing read))

abbrev pub text_work : List ℕ → List ℕ → List NamedValue → List Run → Mailbox → Result (List ℕ) CommandFault
    → (List Run → Marked → Kept → Work CommandFault) → Work CommandFault
text_work path folder entries listing m (Ok text) next =
    cut_work path folder listing (sequences_in text entries folder) (kept_of m entries) next
text_work path folder entries listing m (Err e) next = refused_at m e

-- a folder that isn't there is refused; else each message that was held aside is where it goes
abbrev pub folder_work : List ℕ → List ℕ → List NamedValue → Homes → Mailbox → Option FolderValue
    → (List Run → Marked → Kept → Work CommandFault) → Work CommandFault
folder_work path folder entries h m None next = refused_at m (fault.Refused (refusal.NoFolder folder))
folder_work path folder entries h m (Some f) next =
    text_work path folder entries (runs_in (settled_by h f)) (with_folder_changed m (Folder path folder) (settled_by h))
    (readable f.sequences) next

-- a folder is begun where the context has these entries, and the command goes on so
unfoldable pub begun_work : List ℕ → List ℕ → List NamedValue → Homes → Mailbox
    → (List Run → Marked → Kept → Work CommandFault) → Work CommandFault
begun_work path folder entries h m next = folder_work path folder entries h m (m.folders (Folder path folder)) next

-- the end of a command that wrote this text: Done, or a text was too long
abbrev pub end_by : Option ℕ → Result Unit CommandFault
end_by None = Ok tt
end_by (Some l) = Err (too_large l)

abbrev pub ended_so : List ℕ → Commits → Work CommandFault
ended_so text c = record { text = text; end = end_by c.long; mailbox = c.kept.mailbox }

-- this text was written, and the folder becomes the current one
abbrev pub current_work : List ℕ → List ℕ → List ℕ → Kept → Work CommandFault
current_work path folder text k = ended_so text (context_kept path (current_change folder) k)
