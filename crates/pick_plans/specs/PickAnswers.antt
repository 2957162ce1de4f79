-- What `pick` answers by what it read.
use Rattle.std.specs.Prelude.{◌≡◌, ◌≢◌, ◌⊎◌, ◌++◌, ℕ, List, [], ◌∷◌, Ok, Err}
use Rattle.mh_base.specs.Entries.{entry_text}
use Rattle.mh_base.specs.declared.entry.Entry.TheVariants.{Number, Sequences}
use Rattle.mh_profile.specs.declared.named_value.NamedValue.{NamedValue}
use Rattle.mh_sequences.specs.Sequences.{Marked}
use Rattle.mh_sequences.specs.declared.run.Run.{Run}
use Rattle.folder_files.specs.Deeds.{Deed, did}
use Rattle.folder_files.specs.declared.place.Place.TheVariants.{Folder, Mail}
use Rattle.folder_files.specs.declared.refusal.Refusal.{Refusal}
use Rattle.folder_files.specs.declared.refusal.Refusal.TheVariants as refusal
use Rattle.folder_files.specs.declared.step.Answer.TheVariants.{Names}
use Rattle.folder_files.specs.declared.step.Step.TheVariants.{List as Lists}
use Rattle.step_plans.specs.Endings.{IsLongRead}
use Rattle.step_plans.specs.declared.command_fault.CommandFault.{CommandFault}
use Rattle.step_plans.specs.declared.command_fault.CommandFault.TheVariants as command
use Rattle.command_stages.specs.Texts.{too_large}
use Rattle.opening_plans.specs.Endings.{Answering, ShowsEnd}
use Rattle.opening_plans.specs.FolderPledge.{told_within}
use Rattle.opening_plans.specs.Reads.{HaveSeen, TellsText}
use Rattle.pick_plans.specs.Lines.{lines_for}
use Rattle.pick_plans.specs.Marking.{marked_for}
use Rattle.pick_plans.specs.Outcomes.{text_if}
use Rattle.pick_plans.specs.Pick.{chosen_from, chosen_seen}
use Rattle.pick_plans.specs.Testing.{HaveTested, ReadMessage, matching, numbers_in}
use Rattle.pick_plans.specs.declared.job.PickJob.{PickJob}
use Rattle.pick_plans.specs.declared.job.PickMarks.{PickMarks}

-- the messages that the job's words choose have some texts, and the sequences have those that match
abbrev pub MarksMatching : PickJob → PickMarks → List Run → Marked → Marked → Type 0
MarksMatching job p listing m new =
    (messages : List ReadMessage) × (chosen_from job listing m ≡ Ok (numbers_in messages))
    × (new ≡ marked_for p (numbers_in (matching job.expr messages)) m)

-- that; or the first word that chooses none refuses
abbrev pub pick_answers : PickJob → PickMarks → Answering
pick_answers job p = record {
  makes = MarksMatching job p;
  refuses = λ listing m r. chosen_from job listing m ≡ Err (command.Refused r);
}

-- of a `pick` that marks: the run listed the folder and read its sequences and then the context; by these the job's
-- words choose messages, and the run read and tested these, and found these of them
pub record HasFound (run : ℕ) (path : List ℕ) (job : PickJob) (found : List ℕ) (own : List Deed) : Type 0 where
  pub listing : List Run
  pub text : List ℕ
  pub context : List ℕ
  pub seen : HaveSeen run (Folder path job.folder) (Mail path) listing text context own
  pub numbers : List ℕ
  pub chosen : chosen_from job listing (told_within listing text context job.folder) ≡ Ok numbers
  pub tested : HaveTested (Folder path job.folder) job.expr numbers found own

-- of one that marks nothing: the run listed the folder and then read its sequences; by these, and by the entries of the
-- context that were read before, the job's words choose messages, and the run read and tested these, and found these of
-- them
pub record HasFoundListed (path : List ℕ) (job : PickJob) (entries : List NamedValue) (found : List ℕ) (own : List Deed)
    : Type 0 where
  pub names : List (List ℕ)
  pub text : List ℕ
  pub reading : Deed
  pub newer : List Deed
  pub older : List Deed
  pub seen : own ≡ newer ++ reading ∷ did (Lists (Folder path job.folder)) (Names names) ∷ older
  pub told : TellsText (Folder path job.folder) (entry_text Sequences) text reading
  pub numbers : List ℕ
  pub chosen : chosen_seen job names text entries ≡ Ok numbers
  pub tested : HaveTested (Folder path job.folder) job.expr numbers found own

-- some messages were found, and this text tells which, where the job lists
abbrev pub TellsSome : (List ℕ → List Deed → Type 0) → PickJob → List ℕ → List Deed → Type 0
TellsSome Found job said own =
    (found : List ℕ) × (found ≢ []) × Found found own × (said ≡ text_if job.list (lines_for found))

-- none was found, and this text says so, where the job lists
abbrev pub TellsNone : (List ℕ → List Deed → Type 0) → PickJob → List ℕ → List Deed → Type 0
TellsNone Found job said own = Found [] own × (said ≡ text_if job.list (lines_for []))

abbrev pub TellsFound : (List ℕ → List Deed → Type 0) → PickJob → List ℕ → List Deed → Type 0
TellsFound Found job said own = TellsSome Found job said own ⊎ TellsNone Found job said own

-- what shows a fault of the tests of a `pick` that marks: of the messages that the job's words choose, which the run
-- read, none matches; or the message that was just read is too long
pub data ShowsTest (run : ℕ) (path : List ℕ) (job : PickJob) : CommandFault → List Deed → Type 0 where
  none_matches : {own : List Deed} → HasFound run path job [] own
      → ShowsTest run path job (command.Refused refusal.NoMatch) own
  long_message : {l : ℕ} {own : List Deed} → (n : ℕ)
      → IsLongRead (Folder path job.folder) (entry_text (Number n)) l own → ShowsTest run path job (too_large l) own

-- what shows each fault of it
abbrev pub ShowsPicking : ℕ → List ℕ → PickJob → PickMarks → CommandFault → List Deed → Type 0
ShowsPicking run path job p e own =
    ShowsEnd run path job.folder (pick_answers job p) e own ⊎ ShowsTest run path job e own

-- the newest two steps listed the folder and read its sequences; by these, and by the entries of the context that were
-- read before, a `pick` that marks nothing refuses its words so
pub record IsRefusedByListing (path : List ℕ) (job : PickJob) (entries : List NamedValue) (r : Refusal)
    (own : List Deed)
    : Type 0 where
  pub names : List (List ℕ)
  pub text : List ℕ
  pub reading : Deed
  pub older : List Deed
  pub newest : own ≡ reading ∷ did (Lists (Folder path job.folder)) (Names names) ∷ older
  pub told : TellsText (Folder path job.folder) (entry_text Sequences) text reading
  pub refuses : chosen_seen job names text entries ≡ Err (command.Refused r)

-- each refusal of its words is by what it read, and so is that no message matches; of other refusals this says nothing
abbrev pub RefusesListing : List ℕ → PickJob → List NamedValue → Refusal → List Deed → Type 0
RefusesListing path job entries (refusal.BadSwitch place why) own = Unit {0}
RefusesListing path job entries (refusal.BadFolder s) own = Unit {0}
RefusesListing path job entries (refusal.NoFolder s) own = Unit {0}
RefusesListing path job entries (refusal.BadSpec s) own = IsRefusedByListing path job entries (refusal.BadSpec s) own
RefusesListing path job entries (refusal.Absent s) own = IsRefusedByListing path job entries (refusal.Absent s) own
RefusesListing path job entries (refusal.EmptyRange s) own =
    IsRefusedByListing path job entries (refusal.EmptyRange s) own
RefusesListing path job entries (refusal.EmptySequence s) own =
    IsRefusedByListing path job entries (refusal.EmptySequence s) own
RefusesListing path job entries (refusal.BadSequenceName s) own = Unit {0}
RefusesListing path job entries (refusal.BadFormat n) own = Unit {0}
RefusesListing path job entries (refusal.BadDate s) own = Unit {0}
RefusesListing path job entries (refusal.BadExpr n) own = Unit {0}
RefusesListing path job entries refusal.NoMatch own = HasFoundListed path job entries [] own
RefusesListing path job entries refusal.NoMail own = Unit {0}
RefusesListing path job entries refusal.NotADrop own = Unit {0}
RefusesListing path job entries (refusal.SameFolder s) own = Unit {0}
RefusesListing path job entries (refusal.Full s) own = Unit {0}
RefusesListing path job entries (refusal.BadDraft n) own = Unit {0}
RefusesListing path job entries (refusal.NoPart s) own = Unit {0}
RefusesListing path job entries (refusal.WouldReplace s) own = Unit {0}
RefusesListing path job entries (refusal.TooLarge l limit) own = Unit {0}
RefusesListing path job entries refusal.DropGrown own = Unit {0}
RefusesListing path job entries (refusal.NoFile name) own = Unit {0}
RefusesListing path job entries refusal.DropChanged own = Unit {0}

-- and so of its faults
abbrev pub ShowsListing : List ℕ → PickJob → List NamedValue → CommandFault → List Deed → Type 0
ShowsListing path job entries (command.Refused r) own = RefusesListing path job entries r own
ShowsListing path job entries (command.Faulted which) own = Unit {0}
ShowsListing path job entries (command.Locked q) own = Unit {0}
ShowsListing path job entries (command.Meddled q x) own = Unit {0}
ShowsListing path job entries command.Memory own = Unit {0}
