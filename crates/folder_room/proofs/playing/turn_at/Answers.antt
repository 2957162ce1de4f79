use Rattle.std.proofs.Common.{map, ◌∙◌, ap, refl}
use Rattle.folder_room.proofs.Turns.{turn_kept, turn_left}
use Rattle.folder_room.proofs.playing.turn_at.Goals as goal
use Rattle.folder_room.proofs.playing.turn_at.Goals.{then-prompt-call+in_ok-push, else-prompt-call}

pub loop-prompt-preserved : goal.loop-prompt-preserved
loop-prompt-preserved c =
    elim c.if-prompt-call.branch [
      | then-prompt-call+in_ok-push w ↦
          ap (λ v. map (λ h. h.now) v.items) w.turn-is ∙ ap (map (λ h. h.now)) w.in_ok-push.ensures.items
          ∙ turn_kept (λ h. h.now) c.args.call c.args.script.now c.loop-prompt.prompt-index c.prompt-item.result c.loop-prompt.turn.items _ c.loop-prompt-test.true c.prompt-item.is c.loop-prompt.invariant (w.if-prompt-call.true) refl
      | else-prompt-call w ↦
          ap (λ v. map (λ h. h.now) v.items) w.turn-is
          ∙ turn_left (λ h. h.now) c.args.call c.args.script.now c.loop-prompt.prompt-index c.prompt-item.result c.loop-prompt.turn.items c.loop-prompt-test.true c.prompt-item.is c.loop-prompt.invariant (w.if-prompt-call.false)
    ]
