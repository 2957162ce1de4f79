use Rattle.std.proofs.Common.{◌≡◌, None, drop}
use Rattle.held_messages.specs.Settle.{last_put}
use Rattle.held_messages.proofs.putting_back.last_number.Given as goal

abbrev pub invariant-loop-end : goal.invariant-loop-end
invariant-loop-end l = last_put (drop l.end-index l.ends) l.last ≡ last_put l.ends None
