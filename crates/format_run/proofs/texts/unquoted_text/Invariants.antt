use Rattle.std.proofs.Common.{◌≡◌, ◌++◌, length}
use Rattle.format_run.specs.Texts.{unquoted}
use Rattle.format_run.proofs.texts.unquoted_text.Given as goal

abbrev pub invariant-loop-c : goal.invariant-loop-c
invariant-loop-c l = l.text ++ unquoted l.rest ≡ unquoted l.characters

abbrev pub decreases-loop-c : goal.decreases-loop-c
decreases-loop-c l = length l.rest
