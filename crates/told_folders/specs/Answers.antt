-- What such a command answers by what it read of its folder.
use Rattle.std.specs.Prelude.{◌≡◌, ◌++◌, ℕ, List, ◌∷◌, Ok, Err}
use Rattle.mh_base.specs.Entries.{entry_text}
use Rattle.mh_base.specs.declared.entry.Entry.TheVariants.{Sequences}
use Rattle.mh_profile.specs.declared.named_value.NamedValue.{NamedValue}
use Rattle.mh_sequences.specs.Sequences.{Marked}
use Rattle.mh_sequences.specs.declared.run.Run.{Run}
use Rattle.folder_files.specs.Deeds.{Deed, did}
use Rattle.folder_files.specs.declared.place.Place.TheVariants.{Folder, Mail}
use Rattle.folder_files.specs.declared.refusal.Refusal.{Refusal}
use Rattle.folder_files.specs.declared.refusal.Refusal.TheVariants as refusal
use Rattle.folder_files.specs.declared.step.Answer.TheVariants.{Names}
use Rattle.folder_files.specs.declared.step.Step.TheVariants.{List as Lists}
use Rattle.step_plans.specs.declared.command_fault.CommandFault.{CommandFault}
use Rattle.step_plans.specs.declared.command_fault.CommandFault.TheVariants as command
use Rattle.opening_plans.specs.Endings.{Answering}
use Rattle.opening_plans.specs.FolderPledge.{told_within}
use Rattle.opening_plans.specs.Reads.{HaveSeen, TellsText}
use Rattle.told_folders.specs.Outcomes.{joined}
use Rattle.told_folders.specs.Pledge.{Changes}
use Rattle.told_folders.specs.Tasks.{Task, chosen_from, listed_runs, sequences_seen}

-- the sequences are what the task makes of them; or the first of its words that chooses no message refuses
abbrev pub change_answers : Task → Answering
change_answers t = record {
  makes = Changes t;
  refuses = λ listing m r. chosen_from t listing m ≡ Err (command.Refused r);
}

-- the run listed the folder and read its sequences and then the context; by these the task's words choose messages, and
-- this text is the task's lines of what it makes of the sequences then
pub record HasChanged (run : ℕ) (path : List ℕ) (t : Task) (said : List ℕ) (own : List Deed) : Type 0 where
  pub listing : List Run
  pub text : List ℕ
  pub context : List ℕ
  pub seen : HaveSeen run (Folder path t.folder) (Mail path) listing text context own
  pub numbers : List ℕ
  pub chosen : chosen_from t listing (told_within listing text context t.folder) ≡ Ok numbers
  pub lines : said ≡ joined (t.lines listing (t.becomes listing numbers (told_within listing text context t.folder)))

-- of one that only looks: the run listed the folder and then read its sequences; by these, and by the entries of the
-- context that were read before, this text is the task's lines
pub record TellsFolder (path : List ℕ) (t : Task) (entries : List NamedValue) (said : List ℕ)
    (own : List Deed) : Type 0 where
  pub names : List (List ℕ)
  pub text : List ℕ
  pub reading : Deed
  pub newer : List Deed
  pub older : List Deed
  pub seen : own ≡ newer ++ reading ∷ did (Lists (Folder path t.folder)) (Names names) ∷ older
  pub told : TellsText (Folder path t.folder) (entry_text Sequences) text reading
  pub marked : Marked
  pub listed : sequences_seen t names text entries ≡ Ok marked
  pub lines : said ≡ joined (t.lines (listed_runs names) marked)

-- the newest two steps listed the folder and read its sequences; by these, and by the entries of the context that were
-- read before, a task that only looks refuses its words so
pub record IsRefusedByListing (path : List ℕ) (t : Task) (entries : List NamedValue) (r : Refusal)
    (own : List Deed) : Type 0 where
  pub names : List (List ℕ)
  pub text : List ℕ
  pub reading : Deed
  pub older : List Deed
  pub newest : own ≡ reading ∷ did (Lists (Folder path t.folder)) (Names names) ∷ older
  pub told : TellsText (Folder path t.folder) (entry_text Sequences) text reading
  pub refuses : sequences_seen t names text entries ≡ Err (command.Refused r)

-- each refusal of its words is by what it read; of other refusals this says nothing
abbrev pub RefusesListing : List ℕ → Task → List NamedValue → Refusal → List Deed → Type 0
RefusesListing path t entries (refusal.BadSwitch place why) own = Unit {0}
RefusesListing path t entries (refusal.BadFolder s) own = Unit {0}
RefusesListing path t entries (refusal.NoFolder s) own = Unit {0}
RefusesListing path t entries (refusal.BadSpec s) own = IsRefusedByListing path t entries (refusal.BadSpec s) own
RefusesListing path t entries (refusal.Absent s) own = IsRefusedByListing path t entries (refusal.Absent s) own
RefusesListing path t entries (refusal.EmptyRange s) own =
    IsRefusedByListing path t entries (refusal.EmptyRange s) own
RefusesListing path t entries (refusal.EmptySequence s) own =
    IsRefusedByListing path t entries (refusal.EmptySequence s) own
RefusesListing path t entries (refusal.BadSequenceName s) own = Unit {0}
RefusesListing path t entries (refusal.BadFormat n) own = Unit {0}
RefusesListing path t entries (refusal.BadDate s) own = Unit {0}
RefusesListing path t entries (refusal.BadExpr n) own = Unit {0}
RefusesListing path t entries refusal.NoMatch own = Unit {0}
RefusesListing path t entries refusal.NoMail own = Unit {0}
RefusesListing path t entries refusal.NotADrop own = Unit {0}
RefusesListing path t entries (refusal.SameFolder s) own = Unit {0}
RefusesListing path t entries (refusal.Full s) own = Unit {0}
RefusesListing path t entries (refusal.BadDraft n) own = Unit {0}
RefusesListing path t entries (refusal.NoPart s) own = Unit {0}
RefusesListing path t entries (refusal.WouldReplace s) own = Unit {0}
RefusesListing path t entries (refusal.TooLarge l limit) own = Unit {0}
RefusesListing path t entries refusal.DropGrown own = Unit {0}
RefusesListing path t entries (refusal.NoFile name) own = Unit {0}
RefusesListing path t entries refusal.DropChanged own = Unit {0}

-- and so of its faults
abbrev pub ShowsListing : List ℕ → Task → List NamedValue → CommandFault → List Deed → Type 0
ShowsListing path t entries (command.Refused r) own = RefusesListing path t entries r own
ShowsListing path t entries (command.Faulted which) own = Unit {0}
ShowsListing path t entries (command.Locked q) own = Unit {0}
ShowsListing path t entries (command.Meddled q x) own = Unit {0}
ShowsListing path t entries command.Memory own = Unit {0}
