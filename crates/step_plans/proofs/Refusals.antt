-- Faults of commands that are refusals.
use Rattle.std.proofs.Common.{◌≡◌}
use Rattle.folder_files.specs.declared.refusal.Refusal.{Refusal}
use Rattle.step_plans.specs.declared.command_fault.CommandFault.{CommandFault}
use Rattle.step_plans.specs.declared.command_fault.CommandFault.TheVariants as fault

-- an end that is a refusal
abbrev pub IsRefusal : CommandFault → Type 0
IsRefusal e = (r : Refusal) × (e ≡ fault.Refused r)
