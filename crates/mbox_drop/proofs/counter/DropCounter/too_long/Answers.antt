use Rattle.std.proofs.Common.{ap, ◌∙◌}
use Rattle.std.specs.Option.{option_or}
use Rattle.mbox_drop.specs.Long.{long_of}
use Rattle.mbox_drop.proofs.Counts.{counted_long, counted_no_long}
use Rattle.mbox_drop.proofs.counter.DropCounter.too_long.Goals as goal

pub returns-clause-drop : goal.returns-clause-drop
returns-clause-drop c = λ d h drop.
    c.or.ensures ∙ ap (λ o. option_or c.args.self.now.long o) (c.too_long.ensures ∙ ap (λ n. long_of n) c.ended.ensures) ∙ counted_long c.args.self.now d h drop

pub returns-clause-no_drop : goal.returns-clause-no_drop
returns-clause-no_drop c = λ d h none.
    c.or.ensures ∙ ap (λ o. option_or c.args.self.now.long o) (c.too_long.ensures ∙ ap (λ n. long_of n) c.ended.ensures) ∙ counted_no_long c.args.self.now d h none
