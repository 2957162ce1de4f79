use Rattle.std.specs.Str.{chars}
use Rattle.mh_words.proofs.Lookups.{NoneIsFull, IsSoFar}
use Rattle.mh_words.proofs.lookup.find_switch.Given as goal

abbrev pub invariant-loop-index : goal.invariant-loop-index
invariant-loop-index l = record {
  none : NoneIsFull l.switch-items (chars l.text) l.index;
  so_far : IsSoFar l.switch-items (chars l.text) l.index l.found;
}
