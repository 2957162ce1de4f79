-- What a command pledges that begins a folder and changes what marks its messages.
use Rattle.std.specs.Prelude.{◌≡◌, ◌⊎◌, ℕ, List}
use Rattle.mh_base.specs.Entries.{entry_text}
use Rattle.mh_base.specs.declared.entry.Entry.TheVariants.{Sequences}
use Rattle.mh_profile.specs.Reading.{entries_in}
use Rattle.mh_profile.specs.declared.named_value.NamedValue.{NamedValue}
use Rattle.mh_sequences.specs.Printing.{private_entries, text_of}
use Rattle.mh_sequences.specs.Reading.{suffix}
use Rattle.mh_sequences.specs.Sequences.{Marked}
use Rattle.mh_sequences.specs.declared.run.Run.{Run}
use Rattle.folder_files.specs.Commands.{Manner}
use Rattle.folder_files.specs.Deeds.{Deed}
use Rattle.folder_files.specs.declared.place.Place.{Place}
use Rattle.folder_files.specs.declared.place.Place.TheVariants.{Folder, Mail}
use Rattle.folder_files.specs.declared.step.Step.{Step}
use Rattle.step_plans.specs.ContextPledge.{MarksContext}
use Rattle.step_plans.specs.Pledges.{Pledge}
use Rattle.sequence_commits.specs.Cutting.{cut_to}
use Rattle.sequence_commits.specs.PrivateChanges.{changes_to}
use Rattle.sequence_commits.specs.Reading.{sequences_in}
use Rattle.command_stages.specs.Current.{current_change}
use Rattle.opening_plans.specs.Reads.{HaveSeen}

-- the sequences that a folder's text and a context tell of, without the numbers that are not among these
abbrev pub told_within : List Run → List ℕ → List ℕ → List ℕ → Marked
told_within listing text context folder = cut_to listing (sequences_in text (entries_in context) folder)

-- this is their text in the folder
abbrev pub WritesText : List ℕ → List ℕ → Marked → Place → List ℕ → List ℕ → Type 0
WritesText path folder new p name text = (p ≡ Folder path folder) × (name ≡ entry_text Sequences) × (text ≡ text_of new)

-- the context gets the entries of the private ones
abbrev pub WritesEntries : List ℕ → List ℕ → Marked → Place → List ℕ → List ℕ → List ℕ → Type 0
WritesEntries path folder new p name old text =
    (seen : List NamedValue)
    × MarksContext path
    (changes_to (suffix folder) (private_entries (suffix folder) new.users) seen) p name old text

-- The run has listed the folder, and read its text and then the context. It writes the text of the sequences that these
-- tell of, without numbers that have no message, or of those that the command makes of them after its deeds; their
-- entries in the context; or the folder as the current one.
pub record WritesMarks (run : ℕ) (path folder : List ℕ) (Makes : List Deed → List Run → Marked → Marked → Type 0)
    (own : List Deed) (p : Place) (name old text : List ℕ) : Type 0 where
  pub listing : List Run
  pub read_text : List ℕ
  pub context : List ℕ
  pub seen : HaveSeen run (Folder path folder) (Mail path) listing read_text context own
  pub new : Marked
  pub made : (new ≡ told_within listing read_text context folder)
      ⊎ Makes own listing (told_within listing read_text context folder) new
  pub writes : WritesText path folder new p name text
      ⊎ (WritesEntries path folder new p name old text ⊎ MarksContext path (current_change folder) p name old text)

-- it makes its steps in this manner, and what it makes of the folder's sequences after its deeds is this; it says such
-- pieces, and asks this of its steps besides
abbrev pub folder_pledge : ℕ → List ℕ → List ℕ → (List Deed → List Run → Marked → Marked → Type 0) → Manner
    → (List Deed → List ℕ → Type 0) → (List Deed → Step → Type 0) → Pledge
folder_pledge run path folder Makes manner may_tell may_step = record {
  run = run;
  manner = manner;
  may_mark = λ own p name old text. WritesMarks run path folder Makes own p name old text;
  may_tell = may_tell;
  may_step = may_step;
}
