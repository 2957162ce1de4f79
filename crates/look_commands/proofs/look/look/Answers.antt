use Rattle.look_commands.proofs.Looked.{look_ended}
use Rattle.look_commands.proofs.look.look.Goals as goal

pub returns-in_err-source : goal.returns-in_err-source
returns-in_err-source c = λ caller. look_ended caller c.args.words.now _ c.from_residual.result c.in_err-source.ensures c.from_residual.ensures
