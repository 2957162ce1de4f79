-- What shows how `mhbuild` ended, by the answers to its own steps.
use Rattle.std.specs.Prelude.{◌≡◌, ◌⊎◌, ◌^◌, ℕ, true, false, nat_lt, List, ◌∷◌, length, None, Some, Ok}
use Rattle.mh_profile.specs.declared.named_value.NamedValue.{NamedValue}
use Rattle.folder_files.specs.Careful.{WasMade}
use Rattle.folder_files.specs.Deeds.{Deed, did}
use Rattle.folder_files.specs.Named.{original_of}
use Rattle.folder_files.specs.declared.place.Place.TheVariants.{Work}
use Rattle.folder_files.specs.declared.refusal.Refusal.TheVariants as refusal
use Rattle.folder_files.specs.declared.step.Answer.{Answer}
use Rattle.folder_files.specs.declared.step.Answer.TheVariants.{Exists, Gone, Long}
use Rattle.folder_files.specs.declared.step.Step.TheVariants.{Create, Read, Rename}
use Rattle.step_plans.specs.ContextCommit.{LIMIT_BYTES}
use Rattle.step_plans.specs.Endings.{IsMeddled}
use Rattle.step_plans.specs.Hands.{temp_name}
use Rattle.step_plans.specs.declared.command_fault.CommandFault.{CommandFault}
use Rattle.step_plans.specs.declared.command_fault.CommandFault.TheVariants as fault
use Rattle.command_stages.specs.Texts.{too_large}
use Rattle.mh_drafts.specs.Drafted.{Drafted}
use Rattle.mh_drafts.specs.Drafts.{first_wrong_line}
use Rattle.draft_contents.specs.NotGiven.{IsNotGiven}
use Rattle.draft_files.specs.Drafts.{in_work, no_file}
use Rattle.mhbuild_plans.specs.BuildPledge.{HasText, IsBuilt}
use Rattle.mhbuild_plans.specs.Parsed.{parsed}
use Rattle.mhbuild_plans.specs.declared.job.BuildJob.{BuildJob}

-- the newest step shows that others made the run's next name in the current directory, or that they took away the draft
-- of this name, which the run had read, or a name that it had made there, or the directory
pub data IsMeddledHere (run : ℕ) (name : List ℕ) : List ℕ → List Deed → Type 0 where
  -- its fresh name is taken, or the directory is gone
  fresh_taken : {x bytes : List ℕ} {a : Answer} {older : List Deed} → (k : ℕ) → x ≡ temp_name run k
      → (WasMade Work x older → ⊥) → (a ≡ Exists) ⊎ (a ≡ Gone)
      → IsMeddledHere run name x (did (Create Work x bytes) a ∷ older)
  -- the draft is gone, as it is set aside
  draft_gone : {older : List Deed} → (text : List ℕ) → HasText (Some name) text older
      → IsMeddledHere run name name (did (Rename Work name (original_of name)) Gone ∷ older)
  -- what it made is gone, or the directory as it makes safe what it put there last
  made_gone : {x : List ℕ} {own : List Deed} → IsMeddled run Work x own → IsMeddledHere run name x own

-- what shows each fault that `mhbuild` returns, where it begins with this hand's next number
pub data NotBuilt (run : ℕ) (path : List ℕ) (job : BuildJob) (entries : List NamedValue) (next : ℕ) : CommandFault
    → List Deed → Type 0 where
  -- the draft isn't there
  no_draft : {older : List Deed} → (name : List ℕ) → job.draft ≡ Some name
      → NotBuilt run path job entries next (no_file (in_work name)) (did (Read Work name LIMIT_BYTES) Gone ∷ older)
  -- it is too long
  long_draft : {l : ℕ} {older : List Deed} → (name : List ℕ) → job.draft ≡ Some name
      → NotBuilt run path job entries next (too_large l) (did (Read Work name LIMIT_BYTES) (Long l) ∷ older)
  -- or the input is
  long_input : {l : ℕ} {own : List Deed} → job.draft ≡ None → nat_lt LIMIT_BYTES l ≡ true
      → NotBuilt run path job entries next (too_large l) own
  -- a line of the draft is wrong, and this is the first
  wrong_line : {line : ℕ} {own : List Deed} → (text : List ℕ) → HasText job.draft text own
      → first_wrong_line text ≡ Some line
      → NotBuilt run path job entries next (fault.Refused (refusal.BadDraft line)) own
  -- something that the draft wants is not given
  not_given : {e : CommandFault} {own : List Deed} → (text : List ℕ) (draft : Drafted) → HasText job.draft text own
      → parsed text ≡ Ok draft
      → IsNotGiven path job.forwarding entries draft.wants e own → NotBuilt run path job entries next e own
  -- the message is too long
  long_message : {own : List Deed} → (message : List ℕ) → IsBuilt run path job message own
      → nat_lt LIMIT_BYTES (length message) ≡ true
      → NotBuilt run path job entries next (too_large (length message)) own
  -- others changed the current directory meanwhile
  meddled : {x : List ℕ} {own : List Deed} → (name : List ℕ) → job.draft ≡ Some name → IsMeddledHere run name x own
      → NotBuilt run path job entries next (fault.Meddled Work x) own
  -- the run has no number left for a name
  no_name : {own : List Deed} → nat_lt next (2 ^ 64) ≡ false → NotBuilt run path job entries next fault.Memory own
