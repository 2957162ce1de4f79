use Rattle.std.proofs.Common.{length, min, refl}
use Rattle.file_plans.proofs.Following.{done, refuses}
use Rattle.inc_plans.proofs.Tests.{alike, apart, below, not_below}
use Rattle.inc_command.proofs.head.head_of.Goals as goal

pub returns-then-length-eq0-clause-plan : goal.returns-then-length-eq0-clause-plan
returns-then-length-eq0-clause-plan c = λ run x. rw c.if-length-eq0.true (refuses _ refl)

pub returns-then-length-gt-LONGEST-clause-plan : goal.returns-then-length-gt-LONGEST-clause-plan
returns-then-length-gt-LONGEST-clause-plan c = λ run x. rw (apart c.args.length 0 c.if-length-eq0.false, below 268435456 c.args.length c.if-length-gt-LONGEST.true) (refuses _ refl)

pub returns-then-len-min-clause-plan : goal.returns-then-len-min-clause-plan
returns-then-len-min-clause-plan c = λ run x.
    rw (apart c.args.length 0 c.if-length-eq0.false, not_below 268435456 c.args.length c.if-length-gt-LONGEST.false, c.drop_changed.ensures, apart (length c.args.bytes) (min c.args.length 65536) (rw (c.len.ensures, c.min.ensures) at c.if-len-min.true)) (refuses _ refl)

pub returns-clause-plan : goal.returns-clause-plan
returns-clause-plan c = λ run x.
    rw (apart c.args.length 0 c.if-length-eq0.false, not_below 268435456 c.args.length c.if-length-gt-LONGEST.false, alike (length c.args.bytes) (min c.args.length 65536) (rw (c.len.ensures, c.min.ensures) at c.if-len-min.false)) done
