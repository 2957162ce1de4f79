use Rattle.std.proofs.Common.{refl}
use Rattle.std.specs.Str.{chars}
use Rattle.std.proofs.lemmas.Result.{err_from_is_err_and}
use Rattle.mh_words.specs.Lines.{words_of}
use Rattle.mh_words.proofs.OneStep.{flag_step, value_step, value_stops, unknown_stops, ambiguous_stops}
use Rattle.mh_words.proofs.reading.read_switch.Goals as goal

pub returns-in_err-value-in-One-default-Value-clause-step : goal.returns-in_err-value-in-One-default-Value-clause-step
returns-in_err-value-in-One-default-Value-clause-step c =
    let p = err_from_is_err_and c.from_residual.result c.from_residual.ensures.1 in
    let found = rw c.in-One-default-Value.field-1-is at c.in-One-default-Value.ensures in
    rw (p.1, p.2)
    (λ word at k.
    value_stops c.args.table.now (words_of c.args.line.now) c.args.place word at (chars c.args.name.now) c.in-One-default-Value.index c.in_err-value-in-One-default-Value.field-0.0 k found
    c.in_err-value-in-One-default-Value.ensures.value)

pub returns-in-One-default-Flag-clause-step : goal.returns-in-One-default-Flag-clause-step
returns-in-One-default-Flag-clause-step c =
    let found = rw c.in-One-default-Flag.field-1-is at c.in-One-default-Flag.ensures in
    λ word at k. flag_step c.args.table.now (words_of c.args.line.now) c.args.place word at (chars c.args.name.now) c.in-One-default-Flag.index k found

pub returns-in_ok-value-in-One-default-Value-clause-step : goal.returns-in_ok-value-in-One-default-Value-clause-step
returns-in_ok-value-in-One-default-Value-clause-step c =
    let found = rw c.in-One-default-Value.field-1-is at c.in-One-default-Value.ensures in
    λ word at k.
    value_step c.args.table.now (words_of c.args.line.now) c.args.place word at (chars c.args.name.now) c.in-One-default-Value.index c.in_ok-value-in-One-default-Value.value k found
    c.in_ok-value-in-One-default-Value.ensures.value

pub returns-in-Nothing-clause-step : goal.returns-in-Nothing-clause-step
returns-in-Nothing-clause-step c = rw c.fault_at.ensures (λ word at k. (refl, unknown_stops c.args.table.now (words_of c.args.line.now) c.args.place word at (chars c.args.name.now) k c.in-Nothing.ensures))

pub returns-in-Several-clause-step : goal.returns-in-Several-clause-step
returns-in-Several-clause-step c = rw c.fault_at-in-Several.ensures (λ word at k. (refl, ambiguous_stops c.args.table.now (words_of c.args.line.now) c.args.place word at (chars c.args.name.now) k c.in-Several.ensures))
