use Rattle.std.proofs.Common.{◌≡◌, length}
use Rattle.mh_drafts.specs.Attributes.{attributes_in}
use Rattle.mh_drafts.proofs.Attributing.{fronted}
use Rattle.mh_drafts.proofs.attributes.read_attributes.Given as goal

abbrev pub invariant-loop-alloc : goal.invariant-loop-alloc
invariant-loop-alloc l = fronted l.list (attributes_in l.rest) ≡ attributes_in l.text

abbrev pub decreases-loop-alloc : goal.decreases-loop-alloc
decreases-loop-alloc l = length l.rest
