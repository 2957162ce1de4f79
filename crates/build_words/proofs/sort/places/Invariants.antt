use Rattle.std.proofs.Common.{◌≡◌, ◌++◌, drop}
use Rattle.build_words.specs.Sorts.{places}
use Rattle.build_words.proofs.sort.places.Given as goal

abbrev pub invariant-loop-place : goal.invariant-loop-place
invariant-loop-place l = l.found ++ places l.sort l.place (drop l.place l.word-items) ≡ places l.sort 0 l.word-items
