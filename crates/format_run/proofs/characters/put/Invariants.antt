use Rattle.std.proofs.Common.{◌≡◌, ◌++◌, take}
use Rattle.format_run.proofs.characters.put.Given as goal

abbrev pub invariant-loop-c : goal.invariant-loop-c
invariant-loop-c l = l.text ≡ l.initial.text ++ take l.c-index l.characters
