-- What a run of `refile` has done that came to its end.
use Rattle.std.specs.Prelude.{◌≡◌, ℕ, Bool, true, false, List, Ok}
use Rattle.mh_base.specs.Entries.{entry_text}
use Rattle.mh_base.specs.declared.entry.Entry.TheVariants.{Number}
use Rattle.mh_sequences.specs.declared.run.Run.{Run}
use Rattle.folder_files.specs.Deeds.{Deed}
use Rattle.folder_files.specs.declared.place.Place.TheVariants.{Folder, Mail}
use Rattle.message_moves.specs.Copied.{HasCopied, HasRefiled}
use Rattle.opening_plans.specs.FolderPledge.{told_within}
use Rattle.opening_plans.specs.Reads.{HaveSeen}
use Rattle.refile_plans.specs.Refile.{names_source, refile_chosen, targets_of}
use Rattle.refile_plans.specs.RefilePledge.{folders_of}
use Rattle.refile_plans.specs.RmmOutcome.{is_among}
use Rattle.refile_plans.specs.declared.job.RefileJob.{RefileJob}

-- the message of this number was copied to all folders that the words name, and stays; or it was refiled there
abbrev pub WentBy : Bool → ℕ → List ℕ → RefileJob → ℕ → List Deed → Type 0
WentBy true run path job n own =
    HasCopied run (Folder path job.source) (entry_text (Number n)) (folders_of path (targets_of job)) own
WentBy false run path job n own = HasRefiled run (Folder path job.source) n (folders_of path (targets_of job)) own

-- the words choose these numbers, of the source as the run has listed and read it; none of the folders that they name
-- is the source; and each of the messages went there
pub record HasRefiledChosen (run : ℕ) (path : List ℕ) (job : RefileJob) (own : List Deed) : Type 0 where
  pub listing : List Run
  pub text : List ℕ
  pub context : List ℕ
  pub seen : HaveSeen run (Folder path job.source) (Mail path) listing text context own
  pub numbers : List ℕ
  pub chosen : refile_chosen job listing (told_within listing text context job.source) ≡ Ok numbers
  pub apart : names_source job ≡ false
  pub each : (n : ℕ) → is_among n numbers ≡ true → WentBy job.link run path job n own
