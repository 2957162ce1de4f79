use Rattle.std.proofs.Common.{◌≡◌, ◌++◌, drop}
use Rattle.mhbuild_compose.specs.Heads.{protected_text}
use Rattle.mhbuild_compose.proofs.head.put_protected.Given as goal

abbrev pub invariant-loop-byte : goal.invariant-loop-byte
invariant-loop-byte l = l.out ++ protected_text (drop l.byte-index l.text) ≡ l.initial.out ++ protected_text l.text
