use Rattle.std.proofs.Common.{arith}
use Rattle.mail_headers.proofs.Folding.{one_line}
use Rattle.mail_headers.proofs.unfolding.is_one_line.Goals as goal

pub returns-in-None : goal.returns-in-None
returns-in-None c = λ is. one_line c.args.value.now (λ k less found. c.in-None.ensures k (omega arith) less found)
