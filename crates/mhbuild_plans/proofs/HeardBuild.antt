-- `mhbuild`, where this was heard of the input.
use Rattle.std.proofs.Common.{ℕ, List, Option, None, Some, Result, Err, sym, subst}
use Rattle.file_plans.specs.Plan.{Hand, Plan, Return, after, bind, ◌>>=◌}
use Rattle.file_plans.specs.Runs.{Deed, Exit, Runs}
use Rattle.step_plans.specs.declared.command_fault.CommandFault.{CommandFault}
use Rattle.command_stages.specs.Texts.{Commanded}
use Rattle.sequence_commits.proofs.NeverFailed.{IsPlain, plain_bind, plain_then}
use Rattle.draft_files.specs.Drafts.{draft_read, draft_text}
use Rattle.draft_files.specs.Hearing.{all_heard}
use Rattle.mhbuild_plans.specs.Building.{message_done, mhbuild, text_built}
use Rattle.mhbuild_plans.specs.Heard.{Heard as HeardText, heard_text}
use Rattle.mhbuild_plans.specs.declared.job.BuildJob.{BuildJob}
use Rattle.mhbuild_plans.proofs.Heeding.{Heeds, bind_assoc, heeds_input, plain_heeds}
use Rattle.mhbuild_plans.proofs.PlainBuild.{plain_built, plain_draft_read, plain_replaced}

-- the draft's text
abbrev pub text_given : HeardText → Option (List ℕ) → Commanded (List ℕ)
text_given heard None = Return (heard_text heard)
text_given heard (Some name) = draft_read name

unfoldable pub mhbuild_given : HeardText → ℕ → List ℕ → BuildJob → Commanded Unit
mhbuild_given heard run mail job = text_given heard job.draft >>= (λ text. text_built run mail job text >>= message_done run job.draft)

module _ {B : Type 0} (run : ℕ) (mail : List ℕ) (job : BuildJob) (c : Result Unit CommandFault → Plan B) (plain : (r : Result Unit CommandFault) → IsPlain (c r))
    (Stops : Exit B → Type 0) (bad : (e : CommandFault) (h j : Hand) (x : Exit B) (ds : List Deed) → Runs (c (Err e)) h ds j x → Stops x) where
  abbrev rest : Option (List ℕ) → List ℕ → Commanded Unit
  rest d text = text_built run mail job text >>= message_done run d

  plain_rest : (name text : List ℕ) → IsPlain (rest (Some name) text)
  plain_rest name text = plain_then _ _ (plain_built run mail job text) (λ message. plain_replaced run name message)

  -- the input is heard, and what comes after it is what comes after what was heard
  input_heeds : Heeds Stops (bind (all_heard >>= rest None) c) (λ heard. bind (Return (heard_text heard) >>= rest None) c)
  unfolding ◌>>=◌ bind
  input_heeds =
      subst (λ p. Heeds Stops p (λ heard. bind (after (rest None) (heard_text heard)) c)) (sym (bind_assoc all_heard (after (rest None)) c))
      (heeds_input Stops (λ t. bind (after (rest None) t) c) (λ e. plain (Err e)) bad)

  by_draft : (d : Option (List ℕ)) → Heeds Stops (bind (draft_text d >>= rest d) c) (λ heard. bind (text_given heard d >>= rest d) c)
  by_draft None = input_heeds
  by_draft (Some name) = plain_heeds Stops _ (plain_bind _ c (plain_then _ _ (plain_draft_read name) (plain_rest name)) plain)

  pub mhbuild_heeds : Heeds Stops (bind (mhbuild run mail job) c) (λ heard. bind (mhbuild_given heard run mail job) c)
  unfolding mhbuild mhbuild_given
  mhbuild_heeds = by_draft job.draft
