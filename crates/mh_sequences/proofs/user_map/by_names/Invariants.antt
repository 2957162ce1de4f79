use Rattle.std.proofs.Common.{◌≡◌, ◌++◌, map}
use Rattle.std.specs.Vec.Iter.{into_iter_items}
use Rattle.mh_sequences.specs.Sequences.{told, told_entry}
use Rattle.mh_sequences.proofs.user_map.by_names.Given as goal

abbrev pub invariant-loop-user : goal.invariant-loop-user
invariant-loop-user l =
    goal.iterator-loop-user.can_next l.user-iterator
    × goal.iterator-loop-user.is_finite l.user-iterator
    × (map told_entry l.map.entries ++ map told (into_iter_items l.user-iterator) ≡ map told l.fn.users.items)
