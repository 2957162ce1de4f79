use Rattle.std.proofs.Common.{◌≡◌}
use Rattle.std.specs.Prelude.{None}
use Rattle.std.proofs.lemmas.Result.{IfOk-weaker}
use Rattle.message_order.specs.Dates.{AreFilled}
use Rattle.sortm_plans.specs.Ordered.{filled_behind}
use Rattle.sortm_plans.proofs.Filled.{filled_so}
use Rattle.sortm_command.proofs.ordering.filled.Goals as goal

pub returns : goal.returns
returns c = IfOk-weaker c.filled_dates.result (λ keys. AreFilled c.args.dates.now keys.items) (λ keys. keys.items ≡ filled_behind None c.args.dates.now) (λ keys k. filled_so c.args.dates.now keys.items k) c.filled_dates.ensures
