-- What `mhbuild` has done at its end.
use Rattle.std.specs.Prelude.{◌≡◌, ℕ, List, ◌∷◌, Option, None, Some}
use Rattle.folder_files.specs.Deeds.{Deed, did}
use Rattle.folder_files.specs.Named.{original_of}
use Rattle.folder_files.specs.declared.place.Place.TheVariants.{Work}
use Rattle.folder_files.specs.declared.step.Answer.TheVariants.{Done}
use Rattle.folder_files.specs.declared.step.Step.TheVariants.{Create, Rename, SyncFile, SyncFolder}
use Rattle.step_plans.specs.Settled.{AreSettled}
use Rattle.mhbuild_plans.specs.BuildPledge.{IsBuilt}
use Rattle.mhbuild_plans.specs.declared.job.BuildJob.{BuildJob}

-- its newest steps, each done: the draft's message was made and made safe, the draft was set aside, the message got its
-- name, and the current directory was made safe
pub record HasPlaced (run : ℕ) (path : List ℕ) (job : BuildJob) (name : List ℕ) (own : List Deed) : Type 0 where
  pub temp : List ℕ
  pub message : List ℕ
  pub older : List Deed
  pub is :
      own
      ≡ did (SyncFolder Work) Done
      ∷ (did (Rename Work temp name) Done
      ∷ (did (Rename Work name (original_of name)) Done
      ∷ (did (SyncFile Work temp) Done ∷ (did (Create Work temp message) Done ∷ older))))
  pub built : IsBuilt run path job message older

abbrev pub PlacedBy : ℕ → List ℕ → BuildJob → Option (List ℕ) → List Deed → Type 0
PlacedBy run path job None own = Unit {0}
PlacedBy run path job (Some name) own = HasPlaced run path job name own

-- the message of a draft that has a name took its place; and commits of before are as safe as they were
pub record HasBuilt (run : ℕ) (path : List ℕ) (job : BuildJob) (before own : List Deed) : Type 0 where
  pub placed : PlacedBy run path job job.draft own
  pub settled : AreSettled before → AreSettled own
