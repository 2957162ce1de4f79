use Rattle.std.proofs.Common.{◌∙◌, ap}
use Rattle.std.specs.Prelude.{◌||◌}
use Rattle.mh_sequences.specs.Runs.{has, inside}
use Rattle.mh_sequences.proofs.Piling.{has_pushed}
use Rattle.mh_sequences.proofs.pile.Pile.push.Goals as goal

pub returns : goal.returns
returns c n = ap (λ l. has l n) c.in_ok-push.ensures.items ∙ has_pushed c.self.inside.runs.items c.args.run n ∙ ap (λ l. inside c.args.run n || has l n) c.self.view_is
