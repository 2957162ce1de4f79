use Rattle.std.proofs.Common.{ap, sym, subst, ◌∙◌, arith}
use Rattle.format_run.specs.declared.state.LineState.{LineState}
use Rattle.line_rows.specs.Columns.{IsLongestFit}
use Rattle.format_run.specs.Meaning.{written_by}
use Rattle.line_rows.proofs.LongestFronts.{longest_fit}
use Rattle.format_run.specs.Lazy.{meant}
use Rattle.format_run.specs.Running.{run}
use Rattle.format_run.proofs.FormatLines.{line_shown}
use Rattle.format_run.proofs.KeptWidths.{run_wide}
use Rattle.format_run.proofs.running.line.Goals as goal

pub returns-clause-meaning : goal.returns-clause-meaning
returns-clause-meaning c = λ f is.
    line_shown c.args.view.now f c.args.width c.into_text.result (meant c.new-state.result) (meant c.run.new.state) c.instructions.result.now c.new-state.ensures (c.instructions.ensures ∙ is) c.in_ok-run.ensures c.into_text.ensures.value

pub returns-clause-longest : goal.returns-clause-longest
returns-clause-longest c = λ f is.
    subst (IsLongestFit c.args.width (written_by c.args.view.now c.args.width f)) (sym (returns-clause-meaning c f is)) (longest_fit (written_by c.args.view.now c.args.width f) c.args.width)

pub returns-clause-within : goal.returns-clause-within
returns-clause-within c =
    let kept = run_wide c.args.view.now 0 c.instructions.result.now (meant c.new-state.result) in
    let ran = ap (λ (s : LineState). s.row.width) c.in_ok-run.ensures in
    let start = ap (λ (s : LineState). s.row.width) c.new-state.ensures in
    omega (arith, c.into_text.ensures.within)

pub returns-clause-run : goal.returns-clause-run
returns-clause-run c =
    c.into_text.ensures.value
    ∙ ap (λ (s : LineState). s.row.characters)
    (c.in_ok-run.ensures ∙ ap (λ code. run c.args.view.now 0 code (meant c.new-state.result)) c.instructions.ensures ∙ ap (run c.args.view.now 0 c.args.program.now) c.new-state.ensures)
