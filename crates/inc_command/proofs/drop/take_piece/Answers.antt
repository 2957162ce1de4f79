use Rattle.file_plans.proofs.Following.{whole}
use Rattle.inc_plans.proofs.Pieces.{piece_goes, piece_refused, piece_stops}
use Rattle.inc_command.proofs.drop.take_piece.Goals as goal

pub returns-in_err-bytes-clause-takes : goal.returns-in_err-bytes-clause-takes
returns-in_err-bytes-clause-takes g c = λ d has long.
    piece_stops _ _ _ d _ _ long _ c.min-asked.ensures _ _ _ (whole (rw c.run.ensures at (c.in_err-bytes.ensures.plan c.args.hand.now.kept))) _ _ _ c.from_residual.ensures

pub returns-in_err-given-clause-takes : goal.returns-in_err-given-clause-takes
returns-in_err-given-clause-takes g c = λ d has long.
    piece_refused _ _ _ d _ _ long _ c.min-asked.ensures _ _ c.in_ok-bytes.bytes (whole (rw c.run.ensures at (c.in_ok-bytes.ensures.plan c.args.hand.now.kept))) _
    (rw c.as_slice.ensures at (c.in_err-given.ensures.value d has)) _ _ _ c.from_residual-in_err-given.ensures

pub returns-clause-takes : goal.returns-clause-takes
returns-clause-takes g c = λ d has long.
    piece_goes _ _ _ d _ _ long _ c.min-asked.ensures _ _ c.in_ok-bytes.bytes (whole (rw c.run.ensures at (c.in_ok-bytes.ensures.plan c.args.hand.now.kept))) c.in_ok-bytes.ensures.whole c.in_ok-given.given
    (rw c.as_slice.ensures at (c.in_ok-given.ensures.value d has)) _ (rw c.as_slice.ensures at (c.in_ok-given.ensures.taken d has)) _ _ c.take_all.ensures.plan
