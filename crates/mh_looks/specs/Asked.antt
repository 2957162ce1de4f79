-- What `scan` is to do, as the code has it.
use Rattle.message_lines.specs.MessageText.{coded, sight_of}
use Rattle.mh_looks.specs.ScanJob.{ScanJob}
use Rattle.mh_looks.specs.declared.job.ScanJob.{ScanJob as Job}

-- of a message that is written which the program makes of it
abbrev pub asked : Job → ScanJob
asked j = record {
  folder = j.folder;
  specs = j.specs;
  reverse = j.reverse;
  unseen = j.unseen;
  negation = j.negation;
  spoken = coded j.look.program (sight_of j.look);
}
