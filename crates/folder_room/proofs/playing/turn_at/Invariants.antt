use Rattle.std.proofs.Common.{◌≡◌, map, take}
use Rattle.folder_room.specs.Played.{turn_of}
use Rattle.folder_room.proofs.playing.turn_at.Given as goal

abbrev pub invariant-loop-prompt : goal.invariant-loop-prompt
invariant-loop-prompt l = map (λ h. h.now) l.turn.items ≡ turn_of l.call (take l.prompt-index l.script)
