use Rattle.mail_headers.proofs.Walking.{yields, progress}
use Rattle.mail_headers.proofs.fields.FieldsIterator.next.Goals as goal

pub returns-clause-steps : goal.returns-clause-steps
returns-clause-steps c = yields _ _ c.step.result c.step.ensures

pub returns-clause-goes : goal.returns-clause-goes
returns-clause-goes c = progress _ c.args.self.now c.step.new.self c.step.result (λ x. tt) (yields _ _ c.step.result c.step.ensures)
