use Rattle.std.proofs.Common.{◌≡◌, ◌≤◌, max, drop}
use Rattle.held_messages.specs.Highest.{highest}
use Rattle.held_messages.proofs.putting_back.highest.Given as goal

abbrev pub invariant-loop-name : goal.invariant-loop-name
invariant-loop-name l = max l.top (highest (drop l.name-index l.names)) ≡ highest l.names
