use Rattle.std.proofs.Common.{ap, sym, ◌∙◌}
use Rattle.std.proofs.lemmas.List.{nil_from_length}
use Rattle.format_run.specs.Lazy.{meant}
use Rattle.format_run.specs.Running.{run}
use Rattle.format_run.proofs.RunCode.{ran_out, skipping}
use Rattle.format_run.proofs.running.run.Goals as goal

pub loop-instruction-preserved : goal.loop-instruction-preserved
loop-instruction-preserved c =
    ap (λ code. run c.args.view.now 0 code (meant c.step.new.state)) c.behind-rest.ensures
    ∙ sym (skipping c.args.view.now c.in_ok-skipped.skipped c.in-Some.following.now (meant c.step.new.state))
    ∙ sym (c.in_ok-skipped.ensures c.in-Some.following.now)
    ∙ ap (λ code. run c.args.view.now 0 code (meant c.loop-instruction.state)) (sym c.in-Some.ensures.cases.0) ∙ c.loop-instruction.invariant

pub returns : goal.returns
returns c =
    sym (ran_out c.args.view.now 0 (meant c.loop-instruction.state))
    ∙ ap (λ code. run c.args.view.now 0 code (meant c.loop-instruction.state)) (sym (nil_from_length c.loop-instruction.rest.now c.in_default.ensures.cases)) ∙ c.loop-instruction.invariant
