-- The code's fronts of calls.
use Rattle.format_compiler.specs.declared.front.Front.{Front as ReadFront}
use Rattle.format_compiler.specs.declared.front.Front.TheVariants.{Whole as ReadWhole, Around as ReadAround}
use Rattle.format_compiler.specs.Calls.{Front, Whole, Around}

abbrev pub front_of : ReadFront → Front
front_of (ReadWhole call) = Whole call
front_of (ReadAround f whole) = Around f whole.now
