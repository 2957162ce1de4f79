use Rattle.std.proofs.Common.{length, refl}
use Rattle.file_plans.proofs.Following.{done, refuses}
use Rattle.inc_plans.proofs.Tests.{alike, apart}
use Rattle.inc_command.proofs.piece.piece_from.Goals as goal

pub returns-then-len-asked-clause-plan : goal.returns-then-len-asked-clause-plan
returns-then-len-asked-clause-plan c = λ run x. rw (c.in-Piece.is, alike (length c.in-Piece.bytes) c.args.asked (rw c.len.ensures at c.if-len-asked.true)) done

pub returns-else-len-asked-clause-plan : goal.returns-else-len-asked-clause-plan
returns-else-len-asked-clause-plan c = λ run x. rw (c.in-Piece.is, apart (length c.in-Piece.bytes) c.args.asked (rw c.len.ensures at c.if-len-asked.false), c.drop_changed.ensures) (refuses _ refl)

pub returns-in-Gone-clause-plan : goal.returns-in-Gone-clause-plan
returns-in-Gone-clause-plan c = λ run x. rw (c.in-Gone.is, c.drop_changed-in-Gone.ensures) (refuses _ refl)
