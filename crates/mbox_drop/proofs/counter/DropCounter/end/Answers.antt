use Rattle.std.proofs.Common.{sym, ap, ◌∙◌, length}
use Rattle.mbox_drop.specs.Drops.{is_drop, messages}
use Rattle.mbox_drop.specs.declared.place.Stage.TheVariants.{Unread, NoDrop}
use Rattle.mbox_drop.proofs.KnownBytes.{staged, is_begun_at, messages-none, is_drop-none}
use Rattle.mbox_drop.proofs.Counts.{counted_end}
use Rattle.mbox_drop.proofs.counter.DropCounter.end.Goals as goal

pub returns-in-Unread : goal.returns-in-Unread
returns-in-Unread c = λ d h.
    let e = staged Unread d c.args.self.now.place h.counts.place c.in-Unread.ensures in
    (ap (λ x. is_drop x) e ∙ is_drop-none, sym (ap (λ x. length (messages x)) e ∙ ap length messages-none))

pub returns-in-NoDrop : goal.returns-in-NoDrop
returns-in-NoDrop c = λ d h. staged NoDrop d c.args.self.now.place h.counts.place c.in-NoDrop.ensures

pub returns-in-Begun : goal.returns-in-Begun
returns-in-Begun c = λ d h.
    ((is_begun_at d c.args.self.now.place h.counts.place c.in-Begun.ensures).drop, c.saturating_add.ensures ∙ counted_end c.args.self.now d h c.in-Begun.ensures)
