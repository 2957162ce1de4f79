use Rattle.std.proofs.Common.{map, ap, sym, ◌∙◌, ◌++◌}
use Rattle.std.specs.Vec.Iter.{into_iter_items}
use Rattle.mh_sequences.specs.Sequences.{told, told_entry}
use Rattle.mh_sequences.proofs.NamedEntries.{up_to_one}
use Rattle.mh_sequences.proofs.user_map.by_names.Goals as goal

pub put_last-requires : goal.put_last-requires
put_last-requires c =
    up_to_one (map told_entry c.loop-user.map.entries) (told c.in-Some.user) (map told (into_iter_items c.next.new.self)) (map told c.args.users.items)
    (ap (λ us. map told_entry c.loop-user.map.entries ++ map told us) (sym c.in-Some.ensures.steps.0) ∙ c.loop-user.invariant.2)
    c.requires
