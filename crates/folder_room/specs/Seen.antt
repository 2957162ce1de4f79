-- What contracts see of a mailbox in memory.
use Rattle.std.specs.Prelude.{◌≡◌, ◌-◌, ℕ, List}
use Rattle.folder_files.specs.Histories.{world_after, IsLegal, past_of}
use Rattle.folder_files.specs.Story.{Story}
use Rattle.folder_files.specs.Worlds.{shown}
use Rattle.folder_files.specs.declared.event.Event.{Event}
use Rattle.folder_files.specs.declared.step.Answer.{Answer}
use Rattle.folder_files.specs.declared.step.Answer.TheVariants.{Failed}
use Rattle.folder_files.specs.declared.world.World.{World}
use Rattle.folder_room.specs.declared.script.Prompt.{Prompt}
use Rattle.mh_base.specs.Counts.{one_more}

-- the start, the events since, the places of the steps that calls asked for, the script, how many calls there were, and
-- how many failed
pub record Seen : Type 0 where
  pub start : World
  pub history : List Event
  pub asked : List ℕ
  pub script : List Prompt
  pub calls : ℕ
  pub faults : ℕ

abbrev pub story_of : Seen → Story
story_of r = record { start = r.start; history = r.history; asked = r.asked }

-- the count of faults after this answer
abbrev pub faults_after : ℕ → Answer → ℕ
faults_after n Failed = one_more n
faults_after n other = n

-- the world is the history's, which may have happened
pub record IsNow (start world : World) (history : List Event) : Type 0 where
  pub shows : shown world ≡ world_after start (past_of history)
  pub legal : IsLegal start (past_of history)
