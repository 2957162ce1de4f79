-- The pledge of `mhbuild`.
use Rattle.std.specs.Prelude.{◌≡◌, ◌⊎◌, ◌<◌, ◌^◌, ℕ, List, Option, None, Some, Ok}
use Rattle.folder_files.specs.Careful.{WasReady}
use Rattle.folder_files.specs.Commands.{Composing}
use Rattle.folder_files.specs.Deeds.{Deed, Once, WasDone, did}
use Rattle.folder_files.specs.Named.{original_of}
use Rattle.folder_files.specs.declared.place.Place.TheVariants.{Work}
use Rattle.folder_files.specs.declared.step.Answer.TheVariants.{Content}
use Rattle.folder_files.specs.declared.step.Step.{Step}
use Rattle.folder_files.specs.declared.step.Step.TheVariants as step
use Rattle.file_plans.specs.Follows.{State}
use Rattle.step_plans.specs.ContextCommit.{LIMIT_BYTES}
use Rattle.step_plans.specs.Pledges.{Pledge}
use Rattle.step_plans.specs.Promises.{Promises}
use Rattle.mh_drafts.specs.Drafted.{Drafted}
use Rattle.mhbuild_compose.specs.declared.given.Given.{Given}
use Rattle.draft_contents.specs.Shown.{AreGiven}
use Rattle.mhbuild_plans.specs.BuildAlone.{IsValid}
use Rattle.mhbuild_plans.specs.Composed.{composed}
use Rattle.mhbuild_plans.specs.Parsed.{parsed}
use Rattle.mhbuild_plans.specs.declared.job.BuildJob.{BuildJob}

-- the draft of this name had this text; what the input had is told by no step
abbrev pub HasText : Option (List ℕ) → List ℕ → List Deed → Type 0
HasText None text own = Unit {0}
HasText (Some name) text own = Once (λ d older. d ≡ did (step.Read Work name LIMIT_BYTES) (Content text)) own

-- the message is that of the draft's text with what own steps were given of what it wants
pub record IsBuilt (run : ℕ) (path : List ℕ) (job : BuildJob) (message : List ℕ) (own : List Deed) : Type 0 where
  pub text : List ℕ
  pub draft : Drafted
  pub givens : List Given
  pub has_text : HasText job.draft text own
  pub is_draft : parsed text ≡ Ok draft
  pub are_given : AreGiven path job.forwarding draft.wants givens own
  pub is_message : message ≡ composed run draft givens

-- such a message was made under this temporary name, and made safe
pub record IsSafe (run : ℕ) (path : List ℕ) (job : BuildJob) (temp : List ℕ) (own : List Deed) : Type 0 where
  pub message : List ℕ
  pub ready : WasReady Work temp message own
  pub built : IsBuilt run path job message own

-- the draft gets the name of its original, once its message is safe
pub record SetsAside (run : ℕ) (path : List ℕ) (job : BuildJob) (from to : List ℕ) (own : List Deed) : Type 0 where
  pub is_draft : job.draft ≡ Some from
  pub is_original : to ≡ original_of from
  pub temp : List ℕ
  pub safe : IsSafe run path job temp own

-- the message gets the draft's name, once the draft has that of its original
pub record TakesName (run : ℕ) (path : List ℕ) (job : BuildJob) (from to : List ℕ) (own : List Deed) : Type 0 where
  pub is_draft : job.draft ≡ Some to
  pub aside : WasDone (step.Rename Work to (original_of to)) own
  pub safe : IsSafe run path job from own

-- the steps that change something are these, in the current directory
abbrev pub MayBuild : ℕ → List ℕ → BuildJob → List Deed → Step → Type 0
MayBuild run path job own (step.Create p n b) = (p ≡ Work) × IsBuilt run path job b own
MayBuild run path job own (step.Rename p a b) =
    (p ≡ Work) × (SetsAside run path job a b own ⊎ TakesName run path job a b own)
MayBuild run path job own s = ⊥

-- it commits nothing; it says a message only of a draft that was the input; and of the current directory it changes the
-- names that its draft and its message have
abbrev pub build_pledge : ℕ → List ℕ → BuildJob → Pledge
build_pledge run path job = record {
  run = run;
  manner = Composing;
  may_mark = λ own p name old text. ⊥;
  may_tell = λ own piece. (job.draft ≡ None) × IsBuilt run path job piece own;
  may_step = λ own s. MayBuild run path job own s;
}

-- what a call promises of its steps
abbrev pub PromisesSteps : ℕ → List ℕ → BuildJob → State → State → Type 0
PromisesSteps run path job x y = run < 2 ^ 128 → IsValid job.draft → Promises (build_pledge run path job) x y
