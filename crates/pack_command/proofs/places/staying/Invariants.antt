use Rattle.std.proofs.Common.{◌≡◌, ◌++◌, drop}
use Rattle.pack_plans.specs.Places.{staying}
use Rattle.pack_command.proofs.places.staying.Given as goal

abbrev pub invariant-loop-i : goal.invariant-loop-i
invariant-loop-i l = l.staying ++ staying (drop l.i l.numbers) (drop l.i l.places) ≡ staying l.numbers l.places
