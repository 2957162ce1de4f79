-- What other commands do that look at the same folder by the same words.
use Rattle.std.proofs.Common.{[]}
use Rattle.told_folders.specs.Tasks.{Task}
use Rattle.pick_plans.specs.declared.job.PickJob.{PickJob}

-- as a command has it that tells of the folder's sequences; of its lines this says nothing
abbrev pub looks_of : PickJob → Task
looks_of job = record {
  folder = job.folder;
  specs = job.specs;
  negation = job.negation;
  becomes = λ listing numbers m. m;
  lines = λ listing m. [];
}
