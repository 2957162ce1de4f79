use Rattle.pick_expr.proofs.Skipping.{gives_same}
use Rattle.pick_expr.proofs.shortened.Shortened.pass.Goals as goal

pub returns-then-self-gt0-clause-gives : goal.returns-then-self-gt0-clause-gives
returns-then-self-gt0-clause-gives c rest = gives_same _ _ (c.open_behind-self.ensures.behind c.args.message.now rest c.args.self.now.evaluation.frame c.args.self.now.evaluation.around)
