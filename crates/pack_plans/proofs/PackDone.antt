-- What `folder -pack` has done where it comes to its end.
use Rattle.std.proofs.Common.{◌<◌, ◌^◌, ℕ, List}
use Rattle.folder_files.specs.declared.place.Place.{Place}
use Rattle.folder_files.specs.declared.place.Place.TheVariants.{Folder}
use Rattle.file_plans.specs.Plan.{Hand}
use Rattle.file_plans.specs.Rules.{IfOkay, Keeps}
use Rattle.file_plans.specs.Runs.{Deed as Done}
use Rattle.file_plans.proofs.Acting.{acts}
use Rattle.step_plans.specs.Pledges.{Pledge}
use Rattle.step_plans.proofs.Going.{Sound}
use Rattle.step_plans.proofs.Ruling.{rules_of}
use Rattle.refile_plans.proofs.RefileMoved.{HasHeldNone}
use Rattle.sortm_plans.proofs.WorkDone.{work_done}
use Rattle.pack_plans.specs.Pack.{opened_packed, pack}
use Rattle.pack_plans.specs.PackDone.{HasPacked}
use Rattle.pack_plans.specs.PackPledge.{TellsPacked, pack_pledge}
use Rattle.pack_plans.specs.declared.job.PackJob.{PackJob}
use Rattle.pack_plans.proofs.PackLets.{packed_kept}
use Rattle.pack_plans.proofs.PackPledged as pledged

module _ (run : ℕ) (few : run < 2 ^ 128) (path : List ℕ) (job : PackJob) where
  abbrev w : Pledge
  w = pack_pledge run path job

  abbrev p : Place
  p = Folder path job.folder

  -- the messages were numbered anew
  abbrev pub Has : List Done → Hand → Unit {0} → Type 0
  Has past h u = HasPacked run path job (acts past)

  -- `folder -pack`, where its run has used none of its held names before: at its end the messages were numbered anew
  pub pack_done : (past : List Done) (h : Hand) → HasHeldNone run p (acts past) → Sound w (acts past) h → Keeps (rules_of w) past h (pack run path job) (IfOkay Has)
  unfolding pack
  pack_done past h none sound =
      work_done w path job.folder (HasPacked run path job) (packed_kept run few path job) (pledged.Began run few path job (TellsPacked run path job) (acts past)) (opened_packed run path job)
      (λ later j o b. pledged.opened_goes run few path job (TellsPacked run path job) (acts past) later o b.0 b.1 (λ at_ piece t. t) j) past h sound (pledged.begun_sparing run few path job (TellsPacked run path job) (acts past) h none)
