use Rattle.std.proofs.Common.{◌≡◌, ◌∷◌}
use Rattle.folder_files.specs.Places.{is_parent}
use Rattle.folder_files.specs.declared.place.Place.{Place}
use Rattle.folder_files.specs.declared.place.Place.TheVariants as place
use Rattle.folder_room.specs.Parents.{is_among}
use Rattle.folder_room.proofs.parents.folders_above.Given as goal

abbrev pub invariant-loop-c : goal.invariant-loop-c
invariant-loop-c l = record {
  word : l.word ≡ 43 ∷ l.yielded;
  among : (p : Place) → is_among (place.Mail l.path ∷ l.above.items) p ≡ is_parent p (place.Folder l.path l.yielded);
}
