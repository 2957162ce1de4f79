-- The plan of `mhbuild`.
use Rattle.std.specs.Prelude.{ℕ, List, [], Option, None, Some}
use Rattle.file_plans.specs.Plan.{Return, lifted, say, ◌>>=◌}
use Rattle.step_plans.specs.CommandFaults.{of_sink}
use Rattle.command_stages.specs.Texts.{Commanded}
use Rattle.draft_contents.specs.Wants.{all_given}
use Rattle.draft_files.specs.Drafts.{draft_text}
use Rattle.draft_files.specs.Limits.{within_limit}
use Rattle.draft_files.specs.Replacing.{draft_replaced}
use Rattle.mhbuild_plans.specs.Composed.{composed}
use Rattle.mhbuild_plans.specs.Parsed.{parsed}
use Rattle.mhbuild_plans.specs.declared.job.BuildJob.{BuildJob}

-- the message is said, where the draft was the input; or it takes the draft's place
abbrev pub message_done : ℕ → Option (List ℕ) → List ℕ → Commanded Unit
message_done run None message = lifted of_sink (say message)
message_done run (Some name) message = draft_replaced run name message

-- the message of a text
unfoldable pub text_built : ℕ → List ℕ → BuildJob → List ℕ → Commanded (List ℕ)
text_built run mail job text = do
  draft ← Return (parsed text)
  givens ← all_given mail job.forwarding [] draft.wants
  Return (within_limit (composed run draft givens))

-- `mhbuild`: the draft is read; what it wants is read, in its order; and the message is said, or takes the draft's
-- place
unfoldable pub mhbuild : ℕ → List ℕ → BuildJob → Commanded Unit
mhbuild run mail job = do
  text ← draft_text job.draft
  message ← text_built run mail job text
  message_done run job.draft message
