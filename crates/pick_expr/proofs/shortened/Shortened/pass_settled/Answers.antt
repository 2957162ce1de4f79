use Rattle.std.proofs.Common.{ap, false}
use Rattle.std.specs.Prelude.{Some}
use Rattle.pick_expr.proofs.Skipping.{passed_open, passed_value}
use Rattle.pick_expr.proofs.shortened.Shortened.pass_settled.Goals as goal

pub returns-in-Open-clause-gives : goal.returns-in-Open-clause-gives
returns-in-Open-clause-gives c rest =
    rw (c.in-Open.is, c.absorb-self.ensures) (passed_open c.args.message.now rest c.args.self.now.evaluation.frame c.args.self.now.evaluation.around c.requires.settled)

pub returns-in-Test-clause-gives : goal.returns-in-Test-clause-gives
returns-in-Test-clause-gives c rest =
    rw (c.in-Test.is, c.absorb-self-in-Test.ensures, c.requires.outside) (ap Some (passed_value c.args.message.now rest c.args.self.now.evaluation.frame c.args.self.now.evaluation.around _ false c.requires.settled))
