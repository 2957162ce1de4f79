use Rattle.std.proofs.Common.{refl}
use Rattle.file_plans.proofs.Following.{go, no_room, stop}
use Rattle.draft_files.specs.Hearing.{all_heard}
use Rattle.draft_files.proofs.Pieces.{end, more_heard, turn, whole_heard}
use Rattle.draft_files.proofs.Limits.{limit_off, limit_on}
use Rattle.draft_files.proofs.hearing.hear_all.Goals as goal

pub loop-count-init : goal.loop-count-init
unfolding all_heard
loop-count-init g c = λ run h f o z r k. rw c.new-bytes.ensures at k

pub returns-in_err-piece : goal.returns-in_err-piece
returns-in_err-piece g c = λ run h f o.
    c.loop-count.invariant run h f o _ _ (turn _ _ _ _ _ _ c.loop-count-test.true (stop _ (c.in_err-piece.ensures run h f o) c.from_residual.ensures))

pub returns-then-len-eq0 : goal.returns-then-len-eq0
returns-then-len-eq0 g c = λ run h f o.
    c.loop-count.invariant run h f o _ _ (turn _ _ _ _ _ _ c.loop-count-test.true (go _ (c.in_ok-piece.ensures run h f o) (whole_heard _ _ _ _ _ (rw c.len.ensures at c.if-len-eq0.true))))

pub returns-in_err-extend : goal.returns-in_err-extend
returns-in_err-extend g c = λ run h f o.
    c.loop-count.invariant run h f o _ _ (turn _ _ _ _ _ _ c.loop-count-test.true (go _ (c.in_ok-piece.ensures run h f o) (no_room _ c.from_residual-in_err-extend.ensures refl)))

pub returns-in_err-bytes : goal.returns-in_err-bytes
returns-in_err-bytes g c = λ run h f o.
    c.loop-count.invariant run h f o _ _ (turn _ _ _ _ _ _ c.loop-count-test.true (go _ (c.in_ok-piece.ensures run h f o)
    (more_heard _ _ _ _ _ _ _ (rw c.len.ensures at c.if-len-eq0.false) (limit_off _ _ _ _ (rw (c.in_ok-extend.ensures.ok, c.as_slice.ensures) at c.in_err-bytes.ensures) c.from_residual-in_err-bytes.ensures))))

pub loop-count-preserved : goal.loop-count-preserved
loop-count-preserved g c = λ run h f o z r k.
    c.loop-count.invariant run h f o z r (turn _ _ _ _ _ _ c.loop-count-test.true (go _ (c.in_ok-piece.ensures run h f o)
    (more_heard _ _ _ _ _ _ _ (rw c.len.ensures at c.if-len-eq0.false) (limit_on _ _ _ (rw (c.in_ok-extend.ensures.ok, c.as_slice.ensures) at c.in_ok-bytes.ensures) k))))

pub returns : goal.returns
returns g c = λ run h f o. c.loop-count.invariant run h f o _ _ (rw c.too_large.ensures (end _ _ _ _ c.loop-count-test.false))
