use Rattle.std.proofs.Common.{◌∙◌, ap}
use Rattle.mh_base.specs.Names.{IsName}
use Rattle.folder_files.specs.Steps.{has_text}
use Rattle.folder_room.proofs.Ordered.{dedup_ascending, dedup_same, dedup_all, slot_texts}
use Rattle.folder_room.proofs.listing.ordered.Goals as goal

pub returns-clause-ascending : goal.returns-clause-ascending
returns-clause-ascending c = dedup_ascending (λ k. k.now) c.sort.new.self.items c.dedup.new.self.items c.in_ok-sort.ensures.sorted c.dedup.ensures.filtered

pub returns-clause-same : goal.returns-clause-same
returns-clause-same c = λ x.
    dedup_same (λ k. k.now) c.in_ok-keys.keys.items c.sort.new.self.items c.dedup.new.self.items x c.in_ok-sort.ensures.permutation c.dedup.ensures.filtered
    ∙ ap (has_text x) c.in_ok-keys.ensures.names ∙ slot_texts x c.args.slots.now

pub returns-clause-valid : goal.returns-clause-valid
returns-clause-valid c = dedup_all (λ k. k.now) IsName c.in_ok-keys.keys.items c.sort.new.self.items c.dedup.new.self.items c.in_ok-sort.ensures.permutation c.dedup.ensures.filtered c.in_ok-keys.ensures.valid
