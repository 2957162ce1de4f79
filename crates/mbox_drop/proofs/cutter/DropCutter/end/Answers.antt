use Rattle.std.proofs.Common.{ap, ◌∙◌}
use Rattle.mbox_drop.specs.Places.{ended}
use Rattle.mbox_drop.specs.declared.place.Stage.TheVariants.{Unread, NoDrop}
use Rattle.mbox_drop.proofs.KnownBytes.{staged}
use Rattle.mbox_drop.proofs.Cuttings.{ends_last}
use Rattle.mbox_drop.proofs.cutter.DropCutter.end.Goals as goal

pub returns-in-Unread-clause-taken : goal.returns-in-Unread-clause-taken
returns-in-Unread-clause-taken c = λ d h. staged Unread d c.args.self.place h.place c.in-Unread.ensures

pub returns-in-NoDrop-clause-taken : goal.returns-in-NoDrop-clause-taken
returns-in-NoDrop-clause-taken c = λ d h. staged NoDrop d c.args.self.place h.place c.in-NoDrop.ensures

pub returns-in-Begun-clause-taken : goal.returns-in-Begun-clause-taken
returns-in-Begun-clause-taken c = λ d h.
    ends_last c.args.self d h c.ended-length.result c.last_message.result c.in-Begun.ensures
    (c.ended-length.ensures ∙ ap (λ n. ended c.args.self.place c.args.self.body n) (c.len.ensures ∙ c.args.self.hand.ok.0)) c.last_message.ensures
