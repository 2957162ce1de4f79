use Rattle.std.proofs.Common.{◌≡◌, ◌++◌}
use Rattle.mail_text.proofs.shown_bytes.put_valid.Given as goal

abbrev pub invariant-loop-c : goal.invariant-loop-c
invariant-loop-c l = l.text ≡ l.initial.text ++ l.yielded
