-- What shows how `mhbuild` ended by its words: its run's own deeds in the call, the newest first.
use Rattle.std.specs.Prelude.{◌≡◌, ◌⊎◌, ℕ, List, [], Option, None, Some, Result, Ok, Err}
use Rattle.mh_profile.specs.declared.named_value.NamedValue.{NamedValue}
use Rattle.folder_files.specs.Deeds.{Deed}
use Rattle.step_plans.specs.declared.command_fault.CommandFault.{CommandFault}
use Rattle.build_words.specs.BuildWords.{build_said}
use Rattle.mhbuild_plans.specs.BuildAnswers.{NotBuilt}
use Rattle.mhbuild_plans.specs.BuildDone.{PlacedBy}
use Rattle.mhbuild_plans.specs.BuildPledge.{IsBuilt}
use Rattle.mhbuild_plans.specs.declared.job.BuildJob.{BuildJob}
use Rattle.command_plans.specs.Command.{build_job}
use Rattle.command_plans.specs.Profile.{entries_by, path_by}
use Rattle.command_ends.specs.Causes.{ByReadings, ShowsLongEntries}
use Rattle.command_ends.specs.WordCauses.{AreWordsOf, IsRefusedByWords, OfSaid}
use Rattle.command_plans.specs.declared.name.CommandName.TheVariants.{Mhbuild}
use Rattle.command_plans.specs.declared.caller.Caller.{Caller}

-- the words name `mhbuild`, and this is its job by them
abbrev pub BuildsBy : List NamedValue → List NamedValue → List (List ℕ) → BuildJob → Type 0
BuildsBy profile context words job =
    AreWordsOf Mhbuild (λ rest. OfSaid (build_said profile rest) (λ said. job ≡ build_job said context profile)) words

-- the message of a draft that was the input was said, and nothing of another
abbrev pub SaysBuilt : ℕ → List ℕ → BuildJob → List ℕ → List Deed → Option (List ℕ) → Type 0
SaysBuilt run path job said own None = IsBuilt run path job said own
SaysBuilt run path job said own (Some name) = said ≡ []

-- at its end the message had taken the place of a draft that has a name, or was said; or this shows its fault
abbrev pub ShowsBuilding : ℕ → List ℕ → BuildJob → List NamedValue → Result (List ℕ) CommandFault → List Deed → Type 0
ShowsBuilding run path job context (Ok said) own =
    PlacedBy run path job job.draft own × SaysBuilt run path job said own job.draft
ShowsBuilding run path job context (Err e) own = NotBuilt run path job context 0 e own

-- the call read the profile and then the context of the mail directory that it names; by these and the words this was
-- the job; and the later deeds show how it ended: done, with this output, or by this fault
abbrev pub ShowsBuilt : ℕ → List (List ℕ) → Result (List ℕ) CommandFault → List Deed → Type 0
ShowsBuilt run words r own =
    ByReadings
    (λ profile context. (job : BuildJob) × BuildsBy (entries_by profile) (entries_by context) words job
    × ShowsBuilding run (path_by profile) job (entries_by context) r own)
    own

-- what shows each fault: the words are refused, the profile or the context is too long, or the job ended so
abbrev pub ShowsBuildFault : ℕ → Caller → List (List ℕ) → CommandFault → List Deed → Type 0
ShowsBuildFault run caller words e own =
    IsRefusedByWords caller words e own ⊎ (ShowsLongEntries e own ⊎ ShowsBuilt run words (Err e) own)

-- by the words the draft was the input, and this is its message
abbrev pub TellsBuilt : ℕ → List (List ℕ) → List ℕ → List Deed → Type 0
TellsBuilt run words text own =
    ByReadings
    (λ profile context. (job : BuildJob) × BuildsBy (entries_by profile) (entries_by context) words job
    × (job.draft ≡ None) × IsBuilt run (path_by profile) job text own)
    own
