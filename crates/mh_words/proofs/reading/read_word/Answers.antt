use Rattle.std.proofs.Common.{refl}
use Rattle.mh_words.specs.Lines.{words_of}
use Rattle.mh_words.proofs.OneStep.{folder_step, message_step, dash_stops}
use Rattle.mh_words.proofs.reading.read_word.Goals as goal

pub returns-in_ok-duplicate-in-Folder-clause-step : goal.returns-in_ok-duplicate-in-Folder-clause-step
returns-in_ok-duplicate-in-Folder-clause-step c =
    rw c.in_ok-duplicate-in-Folder.ensures (folder_step c.args.table.now (words_of c.args.line.now) c.args.place c.args.word.now c.requires.word (rw c.as_str.ensures.chars at c.in-Folder.ensures))

pub returns-in_ok-duplicate-in-Message-clause-step : goal.returns-in_ok-duplicate-in-Message-clause-step
returns-in_ok-duplicate-in-Message-clause-step c =
    rw c.in_ok-duplicate-in-Message.ensures (message_step c.args.table.now (words_of c.args.line.now) c.args.place c.args.word.now c.requires.word (rw c.as_str.ensures.chars at c.in-Message.ensures))

pub returns-in-Component-clause-step : goal.returns-in-Component-clause-step
returns-in-Component-clause-step c = c.read_component.ensures.step c.args.table.now c.args.word.now c.requires.word (rw c.as_str.ensures.chars at c.in-Component.ensures)

pub returns-in-Dash-clause-step : goal.returns-in-Dash-clause-step
returns-in-Dash-clause-step c = rw c.fault_at.ensures (refl, dash_stops c.args.table.now (words_of c.args.line.now) c.args.place c.args.word.now c.requires.word (rw c.as_str.ensures.chars at c.in-Dash.ensures))
