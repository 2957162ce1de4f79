-- What `sortm` has done where it comes to its end.
use Rattle.std.proofs.Common.{◌<◌, ◌^◌, ℕ, List}
use Rattle.folder_files.specs.declared.place.Place.{Place}
use Rattle.folder_files.specs.declared.place.Place.TheVariants.{Folder}
use Rattle.file_plans.specs.Plan.{Hand}
use Rattle.file_plans.specs.Rules.{IfOkay, Keeps}
use Rattle.file_plans.specs.Runs.{Deed as Done}
use Rattle.file_plans.proofs.Acting.{acts}
use Rattle.step_plans.specs.Pledges.{Pledge}
use Rattle.step_plans.proofs.Going.{Sound}
use Rattle.step_plans.proofs.Ruling.{rules_of}
use Rattle.refile_plans.proofs.RefileMoved.{HasHeldNone}
use Rattle.sortm_plans.specs.Sort.{opened_sorted, sortm}
use Rattle.sortm_plans.specs.SortDone.{HasSortedChosen}
use Rattle.sortm_plans.specs.SortPledge.{sortm_pledge}
use Rattle.sortm_plans.specs.declared.job.SortJob.{SortJob}
use Rattle.sortm_plans.proofs.SortLets.{sorted_kept}
use Rattle.sortm_plans.proofs.SortPledged as pledged
use Rattle.sortm_plans.proofs.WorkDone.{work_done}

module _ (run : ℕ) (few : run < 2 ^ 128) (path : List ℕ) (job : SortJob) where
  abbrev w : Pledge
  w = sortm_pledge run path job

  abbrev p : Place
  p = Folder path job.folder

  -- the messages stand in order
  abbrev pub Has : List Done → Hand → Unit {0} → Type 0
  Has past h u = HasSortedChosen run path job (acts past)

  -- `sortm`, where its run has used none of its held names before: at its end the messages that were chosen stand in order
  pub sortm_done : (past : List Done) (h : Hand) → HasHeldNone run p (acts past) → Sound w (acts past) h → Keeps (rules_of w) past h (sortm run path job) (IfOkay Has)
  unfolding sortm
  sortm_done past h none sound =
      work_done w path job.folder (HasSortedChosen run path job) (sorted_kept run few path job) (pledged.Began run few path job (acts past)) (opened_sorted run path job) (λ later j o b. pledged.opened_goes run few path job (acts past) later o b.0 b.1 j) past h sound
      (pledged.begun_sparing run few path job (acts past) h none)
