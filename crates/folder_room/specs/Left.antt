-- What the code keeps of a turn.
use Rattle.std.specs.Prelude.{true, List, [], ◌∷◌, Option, Some, None}
use denote.Ref.{Bor}
use Rattle.folder_files.specs.declared.event.After.{After}
use Rattle.folder_room.specs.declared.playing.Within.{Within}
use Rattle.folder_room.specs.declared.script.Happening.{Happening}
use Rattle.folder_room.specs.declared.script.Happening.TheVariants.{Crash}

-- the crash within the step that is left, if there is one
abbrev pub left_of : Option Within → List Happening
left_of None = []
left_of (Some w) = Crash w.keeps.now w.fill true ∷ []

-- what a Fail says, if there is one
abbrev pub failed_of : Option (Bor After) → Option After
failed_of None = None
failed_of (Some m) = Some m.now
