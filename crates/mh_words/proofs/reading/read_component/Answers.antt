use Rattle.std.specs.Str.{chars}
use Rattle.std.proofs.lemmas.Result.{err_from_is_err_and}
use Rattle.mh_words.specs.Lines.{words_of}
use Rattle.mh_words.proofs.OneStep.{component_step, component_stops}
use Rattle.mh_words.proofs.reading.read_component.Goals as goal

pub returns-in_err-value-clause-step : goal.returns-in_err-value-clause-step
returns-in_err-value-clause-step c =
    let p = err_from_is_err_and c.from_residual.result c.from_residual.ensures.1 in
    rw (p.1, p.2) (λ table word at k. component_stops table (words_of c.args.line.now) c.args.place word at (chars c.args.name.now) c.in_err-value.field-0.0 k c.in_err-value.ensures.value)

pub returns-clause-step : goal.returns-clause-step
returns-clause-step c =
    rw c.in_ok-name.ensures (λ table word at k. component_step table (words_of c.args.line.now) c.args.place word at (chars c.args.name.now) c.in_ok-value.value k c.in_ok-value.ensures.value)
