use Rattle.std.proofs.Common.{◌≡◌, ◌++◌, drop}
use Rattle.mhbuild_compose.specs.Heads.{attributes_text}
use Rattle.mhbuild_compose.proofs.head.put_attributes.Given as goal

abbrev pub invariant-loop-attribute : goal.invariant-loop-attribute
invariant-loop-attribute l = l.out ++ attributes_text (drop l.attribute-index l.attributes) ≡ l.initial.out ++ attributes_text l.attributes
