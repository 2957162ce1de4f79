use Rattle.sequence_commits.proofs.MarksInTurn.{more_marked, all_marked, none_marked, some_marked}
use Rattle.sequence_commits.proofs.marking.mark_all.Goals as goal

pub loop-mark-init : goal.loop-mark-init
loop-mark-init c = none_marked c.args.marks.now c.args.sequences.now

pub loop-mark-preserved : goal.loop-mark-preserved
loop-mark-preserved c = more_marked _ _ _ _ _ _ c.loop-mark-test.true c.mark-item.is c.in_ok-mark_one.ensures.ok c.loop-mark.invariant

pub returns-clause-ok : goal.returns-clause-ok
returns-clause-ok c = all_marked _ _ _ _ c.loop-mark-test.false c.loop-mark.invariant

pub returns-in_err-mark_one-clause-err : goal.returns-in_err-mark_one-clause-err
returns-in_err-mark_one-clause-err c = some_marked c.from_residual.result c.args.marks.now c.loop-mark.mark-index c.args.sequences.now c.loop-mark.sequences c.mark_one.new.sequences c.in_err-mark_one.ensures.err c.loop-mark.invariant
