use Rattle.std.proofs.Common.{rules}
use Rattle.step_discipline.proofs.Originals.{original_iff}
use Rattle.step_discipline.proofs.named.is_original.Goals as goal

pub returns-in-Some : goal.returns-in-Some
returns-in-Some c = original_iff c.args.old.now c.in-Some-eq44-default.rest.now c.in-Some.stem.now c.args.name.now _ (search rules) (search rules) (search rules)
