use Rattle.folder_files.specs.Histories.{past_of}
use Rattle.folder_room.specs.Played.{turn_of}
use Rattle.folder_room.specs.Seen.{faults_after}
use Rattle.folder_room.proofs.Telling.{act_asks, act_waits, act_row, act_counts}
use Rattle.folder_room.proofs.room.RoomFiles.act.Goals as goal

pub returns-in-Ok-clause-step : goal.returns-in-Ok-clause-step
returns-in-Ok-clause-step c =
    act_asks c.args.run c.args.self.now c.turn.new.self c.counted.new.self c.args.step.now (turn_of c.turn.new.self.calls c.args.self.now.script) c.in-Ok.answer (faults_after c.turn.new.self.faults c.in-Ok.answer) c.turn.ensures.start c.turn.ensures.legal c.in-Ok.ensures.played c.in-Ok.ensures.asked c.counted.ensures.room c.counted.result c.counted.ensures.same

pub returns-in-Ok-clause-row : goal.returns-in-Ok-clause-row
returns-in-Ok-clause-row c = act_row c.args.self.now.start c.args.run c.args.step.now (turn_of c.turn.new.self.calls c.args.self.now.script) (past_of c.args.self.now.history) (past_of c.turn.new.self.history) c.in-Ok.answer c.counted.result c.in-Ok.ensures.played c.counted.ensures.same

pub returns-in-Ok-clause-cause : goal.returns-in-Ok-clause-cause
returns-in-Ok-clause-cause c = act_counts c.args.self.now.faults c.turn.new.self.faults c.counted.new.self.faults c.in-Ok.answer c.counted.result c.turn.ensures.faults c.counted.ensures.cause c.counted.ensures.same

pub returns-in-Err-clause-step : goal.returns-in-Err-clause-step
returns-in-Err-clause-step c = act_waits c.args.run c.args.self.now c.turn.new.self c.args.step.now (turn_of c.turn.new.self.calls c.args.self.now.script) _ c.turn.ensures.start c.turn.ensures.legal c.in-Err.ensures.played c.in-Err.ensures.asked
