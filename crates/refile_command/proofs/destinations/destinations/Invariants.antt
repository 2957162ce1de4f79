use Rattle.std.proofs.Common.{◌≡◌, ◌++◌, drop}
use Rattle.std.specs.Prelude.{map}
use Rattle.refile_plans.specs.Refile.{destination_of}
use Rattle.refile_command.proofs.destinations.destinations.Given as goal

abbrev pub invariant-loop-one : goal.invariant-loop-one
invariant-loop-one l = l.to ++ map destination_of (drop l.one-index l.opened) ≡ map destination_of l.opened
