use Rattle.std.proofs.Common.{ap, take, ◌∙◌}
use Rattle.format_run.proofs.TextCalls.{front_of}
use Rattle.format_run.proofs.values.body_front.Goals as goal

pub returns : goal.returns
returns c = front_of c.body-body.result.now c.split_at.result.0.now c.min.result 1024 c.split_at.ensures.front c.min.ensures ∙ ap (take 1024) c.body-body.ensures
