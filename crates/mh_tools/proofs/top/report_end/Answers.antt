use Rattle.std.proofs.Common.{sym, ap, ◌∙◌}
use Rattle.mh_tools.specs.Lines.{error_line_of}
use Rattle.mh_tools.proofs.Told.{fault_undone, line_told}
use Rattle.mh_tools.proofs.top.report_end.Goals as goal

pub returns-in-Ok-clause-told : goal.returns-in-Ok-clause-told
returns-in-Ok-clause-told g c =
    rw c.told.ensures
    (line_told c.args.ended.word _ _ c.as_slice.result.now c.put.result c.from-status.result (λ e. fault_undone c.args.ended.fault (sym c.from-status.ensures ∙ e))
    (c.as_slice.ensures ∙ c.in-Ok.ensures ∙ ap (λ w. error_line_of w c.from-status.result) c.word_of.ensures) c.put.ensures.put c.put.ensures.cause)
