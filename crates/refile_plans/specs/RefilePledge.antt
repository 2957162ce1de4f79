-- The pledge of `refile`.
use Rattle.std.specs.Prelude.{◌≡◌, ◌⊎◌, ◌<◌, ◌^◌, ℕ, Bool, true, false, List, map, Ok, Contains}
use Rattle.mh_base.specs.Entries.{entry_text, kind_of}
use Rattle.mh_base.specs.declared.entry.Entry.TheVariants.{Held, Number}
use Rattle.mh_sequences.specs.Sequences.{Marked}
use Rattle.mh_sequences.specs.declared.run.Run.{Run}
use Rattle.folder_files.specs.Careful.{IsRead, WasGivenAway, WasReady, WasTaken}
use Rattle.folder_files.specs.Commands.{Linking, Manner, Refiling}
use Rattle.folder_files.specs.Deeds.{Deed, Once}
use Rattle.folder_files.specs.Named.{is_held, is_temp}
use Rattle.folder_files.specs.declared.place.Place.{Place}
use Rattle.folder_files.specs.declared.place.Place.TheVariants.{Folder, Mail}
use Rattle.folder_files.specs.declared.step.Step.{Step}
use Rattle.folder_files.specs.declared.step.Step.TheVariants as step
use Rattle.file_plans.specs.Follows.{State}
use Rattle.step_plans.specs.ContextPledge.{MarksContext}
use Rattle.step_plans.specs.Pledges.{Pledge}
use Rattle.step_plans.specs.Promises.{Promises}
use Rattle.message_moves.specs.Copied.{HasCopied, HasRefiled}
use Rattle.command_stages.specs.Current.{current_change}
use Rattle.opening_plans.specs.FolderPledge.{WritesEntries, WritesText, told_within}
use Rattle.opening_plans.specs.Reads.{HaveSeen}
use Rattle.refile_plans.specs.Refile.{names_without, refile_chosen, targets_of}
use Rattle.refile_plans.specs.Rmm.{withdrawn}
use Rattle.refile_plans.specs.RmmOutcome.{is_among}
use Rattle.refile_plans.specs.RmmPledge.{every_message}
use Rattle.refile_plans.specs.declared.job.RefileJob.{RefileJob}

-- the folders of these names in this mail directory
abbrev pub folders_of : List ℕ → List (List ℕ) → List Place
folders_of path names = map (λ name. Folder path name) names

-- the folders that the words name for the messages to go to, but for the source
abbrev pub destinations_of : RefileJob → List (List ℕ)
destinations_of job = names_without job.source (targets_of job)

-- The run has listed the folder, and read its text and then the context. It writes the text of the sequences that these
-- tell of, without numbers that have no message, or of those that the command makes of them after its deeds; their
-- entries in the context; or the folder as the current one, where it is to become that.
pub record WritesOf (run : ℕ) (path folder : List ℕ) (Makes : List Deed → List Run → Marked → Marked → Type 0)
    (Becomes : Type 0) (own : List Deed) (p : Place) (name old text : List ℕ) : Type 0 where
  pub listing : List Run
  pub read_text : List ℕ
  pub context : List ℕ
  pub seen : HaveSeen run (Folder path folder) (Mail path) listing read_text context own
  pub new : Marked
  pub made : (new ≡ told_within listing read_text context folder)
      ⊎ Makes own listing (told_within listing read_text context folder) new
  pub writes : WritesText path folder new p name text
      ⊎ (WritesEntries path folder new p name old text
      ⊎ (Becomes × MarksContext path (current_change folder) p name old text))

-- messages leave, and the sequences are without those that the job's words choose; each of these went to all folders
-- that the words name
abbrev pub Withdraws : ℕ → List ℕ → RefileJob → List Deed → List Run → Marked → Marked → Type 0
Withdraws run path job own listing m new =
    (job.link ≡ false) × (numbers : List ℕ) × (refile_chosen job listing m ≡ Ok numbers)
    × ((n : ℕ) → is_among n numbers ≡ true
    → HasRefiled run (Folder path job.source) n (folders_of path (targets_of job)) own)
    × (new ≡ withdrawn numbers m)

-- the sequences stay, but for what the reading cuts
abbrev pub MakesNothing : List Deed → List Run → Marked → Marked → Type 0
MakesNothing own listing m new = ⊥

-- it marks so in the source, which becomes the current folder where it is to
abbrev pub MarksSource : ℕ → List ℕ → RefileJob → List Deed → Place → List ℕ → List ℕ → List ℕ → Type 0
MarksSource run path job own p name old text =
    WritesOf run path job.source (Withdraws run path job) (job.set_current ≡ true) own p name old text

-- and in a destination, which never does
abbrev pub MarksDestination : ℕ → List ℕ → RefileJob → List Deed → Place → List ℕ → List ℕ → List ℕ → Type 0
MarksDestination run path job own p name old text =
    (target : List ℕ) × Contains (destinations_of job) target
    × WritesOf run path target MakesNothing ⊥ own p name old text

-- the job's words choose this number, of the source as the run has listed and read it
pub record WasChosen (run : ℕ) (path : List ℕ) (job : RefileJob) (n : ℕ) (own : List Deed) : Type 0 where
  pub listing : List Run
  pub text : List ℕ
  pub context : List ℕ
  pub seen : HaveSeen run (Folder path job.source) (Mail path) listing text context own
  pub numbers : List ℕ
  pub chosen : refile_chosen job listing (told_within listing text context job.source) ≡ Ok numbers
  pub one : is_among n numbers ≡ true

-- the run took the message of this held name, and then read it and stored it in each of these folders
pub record WasTakenAndCopied (run : ℕ) (p : Place) (held : List ℕ) (folders : List Place)
    (own : List Deed) : Type 0 where
  pub copied : HasCopied run p held folders own
  pub taken : WasTaken run p held copied.before

-- A held name of the source goes only once its message was given a number there, as one that another run left, and that
-- was made safe; or where messages leave, once the run has taken the message and stored it in all folders that the
-- words name.
abbrev pub LetsGoCopied : ℕ → List ℕ → RefileJob → List Deed → Step → Type 0
LetsGoCopied run path job own s =
    (held : List ℕ) → s ≡ step.Unlink (Folder path job.source) held → is_held (kind_of held) ≡ true
    → WasGivenAway (Folder path job.source) held own
    ⊎ ((job.link ≡ false)
    × WasTakenAndCopied run (Folder path job.source) held (folders_of path (targets_of job)) own)

-- a number of the source is held aside only where messages leave, and the words choose it
abbrev pub TakesChosen : ℕ → List ℕ → RefileJob → List Deed → Step → Type 0
TakesChosen run path job own s =
    (number held : List ℕ) (n : ℕ) → s ≡ step.Rename (Folder path job.source) number held → kind_of number ≡ Number n
    → is_held (kind_of held) ≡ true → (job.link ≡ false) × WasChosen run path job n own

-- the name under which the message of this number is read: its number where it is copied and stays, else the run's held
-- name of it
abbrev pub name_read : Bool → ℕ → ℕ → List ℕ
name_read true run n = entry_text (Number n)
name_read false run n = entry_text (Held run n)

-- the message of this number was read there, and had these bytes
abbrev pub HasReadOf : ℕ → List ℕ → RefileJob → ℕ → List ℕ → List Deed → Type 0
HasReadOf run path job n bytes own =
    Once (λ d older. IsRead (Folder path job.source) (name_read job.link run n) bytes d) own

-- the words choose a message, which was read, and the file of this name in this folder was made with its bytes
pub record IsOfChosen (run : ℕ) (path : List ℕ) (job : RefileJob) (q : Place) (temp : List ℕ)
    (own : List Deed) : Type 0 where
  pub number : ℕ
  pub chosen : WasChosen run path job number own
  pub bytes : List ℕ
  pub read : HasReadOf run path job number bytes own
  pub ready : WasReady q temp bytes own

-- a new file gets a number only in a destination, and has the bytes of a message that the words choose
abbrev pub PutsChosen : ℕ → List ℕ → RefileJob → List Deed → Step → Type 0
PutsChosen run path job own s =
    (q : Place) (temp number : List ℕ) → s ≡ step.Link q temp number → is_temp (kind_of temp) ≡ true
    → Contains (folders_of path (destinations_of job)) q × IsOfChosen run path job q temp own

-- all that is asked of its steps besides
abbrev pub RefilesSo : ℕ → List ℕ → RefileJob → List Deed → Step → Type 0
RefilesSo run path job own s =
    LetsGoCopied run path job own s × TakesChosen run path job own s × PutsChosen run path job own s

-- messages leave, or are copied and stay
abbrev pub manner_by : Bool → List ℕ → RefileJob → Manner
manner_by true path job = Linking path job.source every_message (destinations_of job)
manner_by false path job = Refiling path job.source every_message (destinations_of job)

-- `refile` begins the source and the destinations, cuts the sequences of all, and puts messages that its words choose
-- into each destination; where these leave the source they leave its sequences too. It says nothing.
abbrev pub refile_pledge : ℕ → List ℕ → RefileJob → Pledge
refile_pledge run path job = record {
  run = run;
  manner = manner_by job.link path job;
  may_mark = λ own p name old text. MarksSource run path job own p name old text
      ⊎ MarksDestination run path job own p name old text;
  may_tell = λ own piece. ⊥;
  may_step = λ own s. RefilesSo run path job own s;
}

-- what a call promises of its steps
abbrev pub PromisesSteps : ℕ → List ℕ → RefileJob → State → State → Type 0
PromisesSteps run path job x y = run < 2 ^ 128 → Promises (refile_pledge run path job) x y
