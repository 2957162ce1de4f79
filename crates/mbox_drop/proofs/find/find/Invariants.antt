use Rattle.std.proofs.Common.{◌≡◌, ◌≤◌, ◌+◌, ◌-◌, drop, length}
use Rattle.mbox_drop.specs.Finding.{found}
use Rattle.mbox_drop.specs.declared.find.Found.TheVariants.{End}
use Rattle.mbox_drop.proofs.find.find.Given as goal

abbrev pub invariant-bytes : goal.invariant-bytes
invariant-bytes l = record {
  inside : l.i ≤ length l.bytes;
  within : l.before ≤ l.base + l.i;
  search : found l.base (End l.place l.before) l.i (drop l.i l.bytes) ≡ found l.base (End l.fn.from l.fn.body) 0 l.bytes;
}

abbrev pub decreases-bytes : goal.decreases-bytes
decreases-bytes l = length l.bytes - l.i
