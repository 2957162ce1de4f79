-- A call follows the plan of its words.
use Rattle.std.specs.Prelude.{◌≡◌, ◌⊎◌, ℕ, List, Option, Result, Ok, Err}
use Rattle.mh_base.specs.declared.streams.SinkFault.{SinkFault}
use Rattle.mh_base.specs.declared.streams.SinkFault.TheVariants as sink
use Rattle.mh_base.specs.Counts.{Rose}
use Rattle.mh_base.specs.Streams.{SinkState, Adds, AddsPart}
use Rattle.file_plans.specs.Plan.{Hand, fresh}
use Rattle.file_plans.specs.Follows.{Follows}
use Rattle.command_plans.specs.Command.{command}
use Rattle.command_plans.specs.CommandNames.{command_of}
use Rattle.command_plans.specs.LeavesInput.{LeavesInput}
use Rattle.command_words.specs.Ended.{ended_cause}
use Rattle.command_words.specs.declared.ended.Ended.{Ended}
use Rattle.mh_tools.specs.Calls.{Call, begins, ends}
use Rattle.mh_tools.specs.Lines.{error_line_of}
use Rattle.mh_tools.specs.Status.{ended_status, ended_word}
use Rattle.mh_tools.specs.declared.status.Status.{Status}
use Rattle.mh_tools.specs.declared.status.Status.TheVariants.{Done, NoMemory}
use Rattle.mh_tools.specs.Callers.{caller_of}

-- Where the count of the error output didn't rise, it gained the whole line of the status, which speaks of this word,
-- and else a prefix of it; for want of memory a prefix; nothing where all is done.
abbrev pub TellsStatus : Option (List ℕ) → SinkState → SinkState → Status → Type 0
TellsStatus word e d Done = d ≡ e
TellsStatus word e d NoMemory = AddsPart e.told d.told (error_line_of word NoMemory)
TellsStatus word e d status =
    Adds e.told d.told (error_line_of word status)
    ⊎ (AddsPart e.told d.told (error_line_of word status) × Rose e.faults d.faults)

-- the status after its line was put: want of memory there is want of memory of the call
abbrev pub told_status : Result Unit SinkFault → Status → Status
told_status (Ok u) status = status
told_status (Err sink.Failed) status = status
told_status (Err sink.Memory) status = NoMemory

-- the call followed the plan of its words, which reads no input but that of `mhbuild`; its status and its error line
-- are those of the plan's end, or memory was wanting for the line
pub record FollowsItsPlan (c : Call) : Type 0 where
  pub outcome : Result Unit Ended
  pub left : Hand
  pub follows : Follows c.setting.run ended_cause (command c.setting.run (caller_of c.setting) c.words) (begins c fresh)
      (ends c left) outcome
  pub unread : LeavesInput (command_of c.words) c.before.input c.after.input outcome
  pub ends_so : (c.status ≡ ended_status outcome) ⊎ (c.status ≡ NoMemory)
  pub told : TellsStatus (ended_word outcome) c.before.err c.after.err c.status
