use Rattle.std.proofs.Common.{◌≡◌, map, take}
use Rattle.folder_room.proofs.listing.names_of.Given as goal

abbrev pub invariant-loop-key : goal.invariant-loop-key
invariant-loop-key l = l.names ≡ map (λ k. k.now) (take l.key-index l.keys)
