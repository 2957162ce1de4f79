use Rattle.std.proofs.Common.{drop}
use Rattle.part_rows.proofs.WantedKeys.{AreKeys}
use Rattle.part_rows.proofs.wanted.keys_of.Given as goal

abbrev pub invariant-loop-path : goal.invariant-loop-path
invariant-loop-path l = AreKeys (λ k. k.now) l.keys.keys (drop l.path-index l.paths) l.paths
