use Rattle.std.proofs.Common.{length, sym, ap, ◌∙◌}
use Rattle.mbox_drop.proofs.Cuttings.{open_is}
use Rattle.mbox_drop.proofs.cutter.DropCutter.held.Goals as goal

pub returns-clause-taken : goal.returns-clause-taken
returns-clause-taken c = λ d h. c.len.ensures ∙ c.args.self.now.hand.ok.0 ∙ ap length (h.hand ∙ sym (open_is d h.begins))
