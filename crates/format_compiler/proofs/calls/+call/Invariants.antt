use Rattle.format_compiler.proofs.calls.+call.Given as goal

abbrev pub decreases-call : goal.decreases-call
decreases-call l = l.room
