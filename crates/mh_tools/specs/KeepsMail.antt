-- What a call keeps of the mail, and of the marks of messages.
use Rattle.std.specs.Prelude.{◌≡◌, List}
use Rattle.folder_files.specs.Deeds.{Deed}
use Rattle.folder_files.specs.declared.step.Answer.{Answer}
use Rattle.file_plans.specs.Plan.{fresh}
use Rattle.step_plans.specs.Promises.{Promises}
use Rattle.command_pledges.specs.CommandMarks.{KeepsCommandMarks}
use Rattle.command_plans.specs.CommandNames.{command_of}
use Rattle.command_plans.specs.Profile.{entries_by, path_by}
use Rattle.command_pledges.specs.CommandPledge.{HaveBegun, IsDone, command_pledge}
use Rattle.mh_tools.specs.Calls.{Call, MadeBy, begins, ends}
use Rattle.mh_tools.specs.declared.status.Status.TheVariants.{Done}
use Rattle.mh_tools.specs.Callers.{caller_of}

-- The call began with the profile, which names the path of a mail directory, and then with the context of that. By the
-- pledge that these and its words make its own steps are careful, under their locks and of its command's kinds; where
-- the others are careful no mail is lost and no number taken; and where they are orderly too, and locks honest, its
-- commits are made from the texts that they replace. At Done its commits were made safe; and a command that only looks
-- at a folder made it the current one, or changed nothing.
pub record KeepsMail (c : Call) : Type 0 where
  pub profile : Answer
  pub context : Answer
  pub deeds : List Deed
  pub made : MadeBy c deeds
  pub begun : HaveBegun profile context deeds
  pub finished : c.status ≡ Done → IsDone (command_of c.words) (path_by profile) deeds
  pub promises : Promises
      (command_pledge c.setting.run (caller_of c.setting) c.words (entries_by profile) (entries_by context))
      (begins c fresh) (ends c fresh)

-- no mark of a sequence that users name passes to another message, where the others mind them: by a command that looks,
-- by `inc` and `mark`, and by `rmm` where no message was left held aside in the folder when it removed one
abbrev pub KeepsMarks : Call → Type 0
KeepsMarks c = KeepsCommandMarks (command_of c.words) c.setting.run c.before.files.story c.after.files.story
