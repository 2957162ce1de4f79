use Rattle.std.proofs.Common.{◌≡◌, ◌++◌, drop, length, map}
use Rattle.std.specs.List.{zip}
use Rattle.std.specs.Vec.Iter.{into_iter_items, into_iter_len}
use Rattle.sortm_command.proofs.ordering.with_texts.Given as goal

abbrev pub invariant-loop-text : goal.invariant-loop-text
invariant-loop-text l =
    goal.iterator-loop-text.can_next l.text-iterator
    × goal.iterator-loop-text.is_finite l.text-iterator
    × (into_iter_len l.text-iterator ≡ length (into_iter_items l.text-iterator))
    × (map (λ x. (x.0.items, x.1)) l.keyed.items ++ zip (into_iter_items l.text-iterator) (drop (length l.keyed.items) l.numbers) ≡ zip l.fn.texts l.numbers)
