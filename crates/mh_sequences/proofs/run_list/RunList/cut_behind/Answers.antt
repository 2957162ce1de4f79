use Rattle.std.proofs.Common.{◌+◌, ◌++◌, take, drop, refl, arith, ◌∙◌, ap}
use Rattle.mh_sequences.proofs.SlotRuns.{cut_after}
use Rattle.mh_sequences.proofs.run_list.RunList.cut_behind.Goals as goal

pub returns-clause-runs : goal.returns-clause-runs
returns-clause-runs c =
    let start = c.self.inside.start in
    ap (drop start) c.cut_out.ensures.items
    ∙ cut_after start c.args.from c.args.to (start + c.args.from) (start + c.args.to) c.self.inside.slots.items refl refl (omega arith)
    ∙ ap (λ v. take c.args.from v.runs ++ drop c.args.to v.runs) c.self.view_is
