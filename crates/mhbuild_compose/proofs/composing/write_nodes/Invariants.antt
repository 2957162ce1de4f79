use Rattle.std.proofs.Common.{◌≡◌, ◌++◌, [], drop}
use Rattle.mhbuild_compose.specs.Written.{written}
use Rattle.mhbuild_compose.proofs.composing.write_nodes.Given as goal

abbrev pub invariant-loop-node : goal.invariant-loop-node
invariant-loop-node l = record {
  run : l.writer.run ≡ l.run;
  whole : l.writer.out ++ written l.run l.writer.levels l.writer.flags.now l.writer.keys.now (drop l.node-index l.nodes) ≡ l.fn.out ++ written l.run [] l.flags l.keys l.nodes;
}
