use Rattle.std.proofs.Common.{◌∙◌, ap}
use Rattle.std.specs.Prelude.{slice_set}
use Rattle.std.proofs.lemmas.List.{drop-set-add}
use Rattle.mh_sequences.proofs.run_list.RunList.set.Goals as goal

pub returns-clause-runs : goal.returns-clause-runs
returns-clause-runs c = drop-set-add c.self.inside.start c.self.inside.slots.items c.args.at c.args.run ∙ ap (λ v. slice_set v.runs c.args.at c.args.run) c.self.view_is
