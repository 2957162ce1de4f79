use Rattle.std.proofs.Common.{◌≡◌, ◌++◌}
use Rattle.part_rows.proofs.texts.put_text.Given as goal

abbrev pub invariant-loop-c : goal.invariant-loop-c
invariant-loop-c l = l.text ≡ l.initial.text ++ l.yielded
