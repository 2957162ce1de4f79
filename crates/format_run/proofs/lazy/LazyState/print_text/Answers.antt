use Rattle.std.proofs.Common.{ap, ◌∙◌}
use Rattle.format_run.specs.Lazy.{meant}
use Rattle.format_run.proofs.LazyStates.{on_ok, print_meant}
use Rattle.format_run.proofs.lazy.LazyState.print_text.Goals as goal

pub returns : goal.returns
returns c = on_ok c.print_text.result c.print_text.ensures (λ is. ap (λ s. meant (record { state = s; raw = c.args.self.now.raw })) is ∙ print_meant c.args.self.now.raw c.args.width c.args.self.now.state)
