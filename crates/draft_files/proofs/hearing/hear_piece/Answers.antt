use Rattle.file_plans.proofs.Following.{lift_ok, lift_err}
use Rattle.draft_files.specs.Hearing.{piece_heard}
use Rattle.draft_files.proofs.Causes.{source_same}
use Rattle.draft_files.proofs.hearing.hear_piece.Goals as goal

pub returns-in-Ok : goal.returns-in-Ok
unfolding piece_heard
returns-in-Ok g c = λ run h f o. lift_ok _ _ _ _ _ _ _ _ (c.in-Ok.ensures run h f o)

pub returns-in-Err : goal.returns-in-Err
unfolding piece_heard
returns-in-Err g c = λ run h f o. lift_err _ _ _ _ _ _ _ _ _ source_same c.fault_from.ensures (c.in-Err.ensures run h f o)
