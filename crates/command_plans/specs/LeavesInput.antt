-- What a command does with the input that does not read it.
use Rattle.std.specs.Prelude.{◌≡◌, ◌≢◌, Option, Some, Result, Ok, Err}
use Rattle.mh_base.specs.Streams.{SourceState}
use Rattle.folder_files.specs.declared.refusal.Which.TheVariants.{Source}
use Rattle.step_plans.specs.declared.command_fault.CommandFault.TheVariants as fault
use Rattle.command_words.specs.declared.ended.Ended.{Ended}
use Rattle.command_plans.specs.declared.name.CommandName.{CommandName}
use Rattle.command_plans.specs.declared.name.CommandName.TheVariants.{Mhbuild}

-- it ended by no fault of the input
abbrev pub IsNotOfInput : Result Unit Ended → Type 0
IsNotOfInput (Ok u) = Unit {0}
IsNotOfInput (Err e) = e.fault ≢ fault.Faulted Source

-- no command but `mhbuild` reads the input, or ends by a fault of it
abbrev pub LeavesInput : Option CommandName → SourceState → SourceState → Result Unit Ended → Type 0
LeavesInput name old new result = name ≢ Some Mhbuild → (new ≡ old) × IsNotOfInput result
