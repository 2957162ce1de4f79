use Rattle.std.proofs.Common.{◌-◌, arith, sym, ◌∙◌}
use Rattle.mh_sequences.proofs.Stretches.{gap, run, end}
use Rattle.mh_sequences.proofs.runs.stretch.Goals as goal

pub returns-in_default : goal.returns-in_default
returns-in_default c = end c.args.runs.now c.requires.runs c.args.n c.ahead-run.result.0 c.ahead-run.ensures.place (sym c.ahead-run.ensures.run ∙ c.in_default.is) (omega arith)

pub returns-then-n-from : goal.returns-then-n-from
returns-then-n-from c =
    gap c.args.runs.now c.requires.runs c.args.n c.ahead-run.result.0 c.ahead-run.ensures.place c.in-Some.run' (c.ends-from.result.0 - 1)
    (sym c.ahead-run.ensures.run ∙ c.in-Some.is) (omega arith) (omega arith) (omega arith)

pub returns-else-n-from : goal.returns-else-n-from
returns-else-n-from c =
    run c.args.runs.now c.requires.runs c.args.n c.ahead-run.result.0 c.ahead-run.ensures.place c.in-Some.run' c.ends-from.result.1
    (sym c.ahead-run.ensures.run ∙ c.in-Some.is) (omega arith) (omega arith) (omega arith)
