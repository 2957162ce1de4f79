-- The reader's spot.
use Rattle.std.specs.Prelude.{◌≡◌, Bool, true, false, Option, Some, None}
use Rattle.pick_expr.specs.declared.spot.Reader.{Reader}
use Rattle.pick_expr.specs.Steps.{Spot}

abbrev pub spot_of : Reader → Spot
spot_of r = record { needs = r.needs; base = r.base; room = r.room; around = r.around }

-- the reader is at the next spot, or there is none
abbrev pub StepsTo : Option Spot → Spot → Bool → Type 0
StepsTo next new true = next ≡ Some new
StepsTo next new false = next ≡ None
