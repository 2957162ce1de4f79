use Rattle.std.proofs.Common.{refl}
use Rattle.mh_base.specs.Entries.{entry_text}
use Rattle.file_plans.proofs.Following.{done, go, no_room, stop}
use Rattle.message_notes.specs.Noting.{stored_at}
use Rattle.message_notes.proofs.storing.store_at.Goals as goal

pub returns-in_err-number-clause-plan : goal.returns-in_err-number-clause-plan
unfolding stored_at
returns-in_err-number-clause-plan g c = stop _ c.in_err-number.ensures.plan c.from_residual.ensures

pub returns-in_err-name-clause-plan : goal.returns-in_err-name-clause-plan
unfolding stored_at
returns-in_err-name-clause-plan g c = go _ c.in_ok-number.ensures.plan (no_room _ c.from_residual-in_err-name.ensures refl)

pub returns-in_err-sync-clause-plan : goal.returns-in_err-sync-clause-plan
unfolding stored_at entry_text
returns-in_err-sync-clause-plan g c = go _ c.in_ok-number.ensures.plan (stop _ (rw (c.run-run.ensures, c.in_ok-name.ensures.value) at (c.in_err-sync.ensures c.put.new.hand.kept)) c.from_residual-in_err-sync.ensures)

pub returns-clause-plan : goal.returns-clause-plan
unfolding stored_at entry_text
returns-clause-plan g c = go _ c.in_ok-number.ensures.plan (go _ (rw (c.run-run.ensures, c.in_ok-name.ensures.value) at (c.in_ok-sync.ensures c.put.new.hand.kept)) done)
