-- What `inc` is to do, as the code has it.
use Rattle.message_lines.specs.MessageText.{coded, sight_of}
use Rattle.inc_plans.specs.IncJob.{IncJob}
use Rattle.inc_plans.specs.declared.job.IncJob.{IncJob as Job}

-- of a message that is written which the program makes of it
abbrev pub asked : Job → IncJob
asked j = record {
  folder = j.folder;
  drop = j.drop;
  truncate = j.truncate;
  silent = j.silent;
  change_cur = j.change_cur;
  unseen = j.unseen;
  spoken = coded j.look.program (sight_of j.look);
}
