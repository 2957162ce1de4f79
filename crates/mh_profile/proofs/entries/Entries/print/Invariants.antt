use Rattle.std.proofs.Common.{◌≡◌, ◌++◌}
use Rattle.mh_profile.specs.Printing.{printed}
use Rattle.mh_profile.proofs.entries.Entries.print.Given as goal

abbrev pub invariant-loop-entry : goal.invariant-loop-entry
invariant-loop-entry l = l.text ++ printed l.entry-iterator ≡ printed l.self
