-- What the faults of a command stand for.
use Rattle.folder_files.specs.declared.refusal.Which.{Which}
use Rattle.folder_files.specs.declared.refusal.Which.TheVariants.{Files, Source, Out}
use Rattle.mh_base.specs.declared.streams.SinkFault.{SinkFault}
use Rattle.mh_base.specs.declared.streams.SinkFault.TheVariants as sink
use Rattle.file_plans.specs.declared.asking.Stop.{Stop}
use Rattle.file_plans.specs.declared.asking.Stop.TheVariants as stop
use Rattle.file_plans.specs.Runs.{Cause, OfPlan, OfFiles, OfIn, OfOut, OfMemory}
use Rattle.step_plans.specs.declared.command_fault.CommandFault.{CommandFault}
use Rattle.step_plans.specs.declared.command_fault.CommandFault.TheVariants as fault

abbrev pub which_cause : Which → Cause
which_cause Files = OfFiles
which_cause Source = OfIn
which_cause Out = OfOut

abbrev pub command_cause : CommandFault → Cause
command_cause (fault.Refused refusal) = OfPlan
command_cause (fault.Faulted which) = which_cause which
command_cause (fault.Locked place) = OfPlan
command_cause (fault.Meddled place name) = OfPlan
command_cause fault.Memory = OfMemory

abbrev pub of_stop : Stop → CommandFault
of_stop stop.Failed = fault.Faulted Files
of_stop stop.Memory = fault.Memory

abbrev pub of_sink : SinkFault → CommandFault
of_sink sink.Failed = fault.Faulted Out
of_sink sink.Memory = fault.Memory
