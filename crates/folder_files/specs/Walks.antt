-- Rules on a run's deeds by a walk from the newest on.
use Rattle.std.specs.Prelude.{◌++◌, List, [], ◌∷◌}
use Rattle.folder_files.specs.Deeds.{Deed}

-- the rule holds at each deed that is left, where these newer ones stand before them
unfoldable pub Walks : (List Deed → Deed → List Deed → Type 0) → List Deed → List Deed → Type 0
Walks S newer [] = Unit {0}
Walks S newer (d ∷ older) = S newer d older × Walks S (newer ++ d ∷ []) older
