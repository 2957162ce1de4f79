use Rattle.std.proofs.Common.{◌≡◌, ◌≤◌, length, drop}
use Rattle.mhbuild_compose.specs.Eights.{eights_of, flags_of}
use Rattle.mhbuild_compose.proofs.eights.eight_flags.Given as goal

abbrev pub invariant-loop-place : goal.invariant-loop-place
invariant-loop-place l = record {
  inside : l.place ≤ length l.nodes;
  eights : l.passed.eights ≡ eights_of (drop l.place l.nodes);
  flags : l.passed.flags ≡ flags_of (drop l.place l.nodes);
}

abbrev pub decreases-loop-place : goal.decreases-loop-place
decreases-loop-place l = l.place
