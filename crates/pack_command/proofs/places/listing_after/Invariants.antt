use Rattle.std.proofs.Common.{◌≡◌, ◌++◌, take}
use Rattle.pack_plans.specs.Places.{staying}
use Rattle.pack_command.proofs.places.listing_after.Given as goal

abbrev pub invariant-loop-end : goal.invariant-loop-end
invariant-loop-end l = l.all ≡ staying l.numbers l.places ++ take l.end-index l.ends
