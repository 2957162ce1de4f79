-- What `mhbuild` comes to, by the mailbox and the draft's text. Nothing here knows of steps.
use Rattle.std.specs.Prelude.{ℕ, bytes_eq, List, [], Option, None, Some, Result, Ok, Err, if◌then◌else◌}
use Rattle.mh_profile.specs.declared.named_value.NamedValue.{NamedValue}
use Rattle.folder_files.specs.Named.{original_of}
use Rattle.file_plans.specs.Mailboxes.{Mailbox}
use Rattle.step_plans.specs.declared.command_fault.CommandFault.{CommandFault}
use Rattle.command_stages.specs.Works.{Work, refused_at}
use Rattle.draft_contents.specs.Found.{all_found, and_then, present}
use Rattle.draft_files.specs.Drafts.{in_work, no_file}
use Rattle.draft_files.specs.Limits.{within_limit}
use Rattle.mhbuild_plans.specs.Composed.{composed}
use Rattle.mhbuild_plans.specs.Heard.{Heard, heard_text}
use Rattle.mhbuild_plans.specs.Parsed.{parsed}
use Rattle.mhbuild_plans.specs.declared.job.BuildJob.{BuildJob}

-- the mailbox with this message under the draft's name, and the draft under that of its original
abbrev pub with_message : Mailbox → List ℕ → List ℕ → List ℕ → Mailbox
with_message m name draft message = record {
  folders = m.folders;
  home = m.home;
  work = λ x. if bytes_eq name x then Some message
      else (if bytes_eq (original_of name) x then Some draft else m.work x);
  context = m.context;
  outside = m.outside;
}

-- the message of a text, with what the mailbox has of what it wants; or the first refusal
abbrev pub built : ℕ → List ℕ → List NamedValue → BuildJob → Mailbox → List ℕ → Result (List ℕ) CommandFault
built run path entries job m text =
    and_then (parsed text)
    (λ draft.
    and_then (all_found path job.forwarding entries m [] draft.wants)
    (λ givens. within_limit (composed run draft givens)))

-- the message of a draft that was the input is written; that of another takes its place
abbrev pub ended_work : Mailbox → Option (List ℕ) → List ℕ → Result (List ℕ) CommandFault → Work CommandFault
ended_work m None text (Ok message) = record { text = message; end = Ok tt; mailbox = m }
ended_work m (Some name) text (Ok message) =
    record { text = []; end = Ok tt; mailbox = with_message m name text message }
ended_work m draft text (Err e) = refused_at m e

-- `mhbuild`, where the context has these entries and the draft this text, or is refused
unfoldable pub build_work : ℕ → List ℕ → List NamedValue → BuildJob → Result (List ℕ) CommandFault → Mailbox
    → Work CommandFault
build_work run path entries job (Ok text) m = ended_work m job.draft text (built run path entries job m text)
build_work run path entries job (Err e) m = refused_at m e

-- the text of the draft of this name
abbrev pub named_text : List ℕ → Mailbox → Result (List ℕ) CommandFault
named_text name m = present (no_file (in_work name)) (m.work name)

-- the text of the draft of this name, or what was heard of the input where there is no name
abbrev pub text_found : Heard → Mailbox → Option (List ℕ) → Result (List ℕ) CommandFault
text_found heard m None = heard_text heard
text_found heard m (Some name) = named_text name m
