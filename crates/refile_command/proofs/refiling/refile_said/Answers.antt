use Rattle.std.proofs.Common.{refl}
use Rattle.mh_sequences.specs.Runs.{numbers_of}
use Rattle.file_plans.specs.Follows.{by_hand}
use Rattle.file_plans.proofs.Following.{go, no_room, stop}
use Rattle.command_stages.proofs.Values.{error_chosen, value_off, value_on}
use Rattle.refile_plans.specs.Refile.{refile_chosen, said_refiled}
use Rattle.refile_command.proofs.refiling.refile_said.Goals as goal

pub returns-in_err-to-clause-plan : goal.returns-in_err-to-clause-plan
returns-in_err-to-clause-plan g c = no_room _ c.from_residual.ensures refl

pub returns-in_err-chosen-clause-plan : goal.returns-in_err-chosen-clause-plan
unfolding said_refiled
returns-in_err-chosen-clause-plan g c =
    value_off _ (refile_chosen c.args.job.now c.args.source.now.listing c.args.source.now.sequences) _ _ (error_chosen _ _ c.in_err-chosen.ensures) c.from_residual-in_err-chosen.ensures

pub returns-in_err-ask_apart-clause-plan : goal.returns-in_err-ask_apart-clause-plan
unfolding said_refiled
returns-in_err-ask_apart-clause-plan g c =
    value_on _ (refile_chosen c.args.job.now c.args.source.now.listing c.args.source.now.sequences) (numbers_of c.in_ok-chosen.chosen.runs) c.in_ok-chosen.ensures
    (stop _ (c.in_err-ask_apart.ensures _ _) c.from_residual-in_err-ask_apart.ensures)

pub returns-in_err-ask_room-clause-plan : goal.returns-in_err-ask_room-clause-plan
unfolding said_refiled
returns-in_err-ask_room-clause-plan g c =
    value_on _ (refile_chosen c.args.job.now c.args.source.now.listing c.args.source.now.sequences) (numbers_of c.in_ok-chosen.chosen.runs) c.in_ok-chosen.ensures
    (go _ (c.in_ok-ask_apart.ensures _ _) (stop _ (rw (c.as_slice.ensures, c.in_ok-to.ensures, c.len.ensures) at (c.in_err-ask_room.ensures c.args.hand.now.run (by_hand c.args.hand.now.kept (g.F.Files.state c.args.files.now)))) c.from_residual-in_err-ask_room.ensures))

pub returns-clause-plan : goal.returns-clause-plan
unfolding said_refiled
returns-clause-plan g c =
    value_on _ (refile_chosen c.args.job.now c.args.source.now.listing c.args.source.now.sequences) (numbers_of c.in_ok-chosen.chosen.runs) c.in_ok-chosen.ensures
    (go _ (c.in_ok-ask_apart.ensures _ _) (go _ (rw (c.as_slice.ensures, c.in_ok-to.ensures, c.len.ensures) at (c.in_ok-ask_room.ensures c.args.hand.now.run (by_hand c.args.hand.now.kept (g.F.Files.state c.args.files.now)))) (rw c.in_ok-to.ensures at c.move_messages.ensures.plan)))
