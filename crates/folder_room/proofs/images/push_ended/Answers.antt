use Rattle.std.proofs.Common.{rules, ◌∙◌, ap}
use Rattle.std.proofs.lemmas.Result.{on_ok_weaker}
use Rattle.folder_files.specs.Worlds.{has_run}
use Rattle.folder_room.proofs.Crashed.{run_pushed, run_there}
use Rattle.folder_room.proofs.images.push_ended.Goals as goal

pub returns-then-has_ended : goal.returns-then-has_ended
returns-then-has_ended c = λ r. run_there c.args.ended.now c.args.run r (search rules)

pub returns : goal.returns
returns c = on_ok_weaker c.push.result (λ e r. ap (λ rs. has_run rs r) e ∙ run_pushed c.args.ended.now c.args.run r) c.push.ensures.ok
