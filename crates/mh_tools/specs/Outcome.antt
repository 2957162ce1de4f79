-- What a call answers that runs alone, by its words and the mailbox. Nothing here knows of steps.
use Rattle.std.specs.Prelude.{ℕ, List, [], Result, Ok, Err}
use Rattle.file_plans.specs.Mailboxes.{Mailbox}
use Rattle.command_stages.specs.Works.{Work}
use Rattle.mhbuild_plans.specs.Heard.{Heard}
use Rattle.command_outcomes.specs.Outcomes.{work_of}
use Rattle.command_words.specs.declared.ended.Ended.{Ended}
use Rattle.mh_tools.specs.Lines.{error_line_of}
use Rattle.mh_tools.specs.Setting.{SettingParts}
use Rattle.mh_tools.specs.Status.{fault_status, ended_status}
use Rattle.mh_tools.specs.declared.status.Status.{Status}
use Rattle.mh_tools.specs.Callers.{caller_of}

-- how a call ends, what it writes to its output and to its error output, and the mailbox that it leaves
pub record Outcome : Type 0 where
  pub status : Status
  pub output : List ℕ
  pub error : List ℕ
  pub mailbox : Mailbox

-- the line of what ended a command; none where all is done
abbrev pub error_of : Result Unit Ended → List ℕ
error_of (Ok u) = []
error_of (Err e) = error_line_of e.word (fault_status e.fault)

-- what a command comes to, as a call answers it
abbrev pub answered : Work Ended → Outcome
answered w = record { status = ended_status w.end; output = w.text; error = error_of w.end; mailbox = w.mailbox }

-- what a call answers alone, where this is heard of its input, at which no command but `mhbuild` looks; and none looks
-- at its setting but for its own run's number, which tells what other runs hold aside, the user's name, which tells
-- where mail is delivered, and, for lines, both the name and the moment
unfoldable pub outcome_of : List (List ℕ) → Mailbox → SettingParts → Heard → Outcome
outcome_of words m setting heard = answered (work_of setting.run (caller_of setting) words heard m)
