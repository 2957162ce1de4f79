use Rattle.std.proofs.Common.{[]}
use Rattle.folder_files.specs.declared.event.After.TheVariants.{Made}
use Rattle.host_files.proofs.files.HostFilesFiles.act.Goals as goal

pub returns-clause-step : goal.returns-clause-step
returns-clause-step c = ([], Made, tt)
