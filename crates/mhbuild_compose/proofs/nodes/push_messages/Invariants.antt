use Rattle.std.proofs.Common.{◌≡◌, ◌++◌, map, take}
use Rattle.mhbuild_compose.specs.Nodes.{message_leaf}
use Rattle.mhbuild_compose.proofs.nodes.push_messages.Given as goal

abbrev pub invariant-loop-message : goal.invariant-loop-message
invariant-loop-message l = l.list.items ≡ l.initial.list.items ++ map message_leaf (take l.message-index l.messages)
