use Rattle.std.proofs.Common.{◌≡◌, map, take}
use Rattle.std.specs.List.{All}
use Rattle.mh_base.specs.Names.{IsName}
use Rattle.folder_room.proofs.listing.keys.Given as goal

abbrev pub invariant-loop-slot : goal.invariant-loop-slot
invariant-loop-slot l = record {
  names : map (λ k. k.now) l.keys.items ≡ map (λ s. s.name) (take l.slot-index l.slots);
  valid : All (λ k. IsName k.now) l.keys.items;
}
