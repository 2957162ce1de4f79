use Rattle.std.proofs.Common.{◌≡◌, ◌∙◌, ap, refl, subst}
use Rattle.mh_sequences.specs.Runs.{AreRuns, numbers_of}
use Rattle.file_plans.proofs.Following.{go, no_room, stop}
use Rattle.sequence_commits.specs.Marking.{marked_by_all}
use Rattle.refile_plans.specs.Rmm.{removed_marked, withdrawn}
use Rattle.refile_plans.proofs.Loops.{withdraws}
use Rattle.refile_command.proofs.removing.remove_marked.Goals as goal

pub returns-in_err-numbers-clause-plan : goal.returns-in_err-numbers-clause-plan
returns-in_err-numbers-clause-plan g c = no_room _ c.from_residual.ensures refl

pub returns-in_err-marks-clause-plan : goal.returns-in_err-marks-clause-plan
returns-in_err-marks-clause-plan g c = no_room _ c.from_residual-in_err-marks.ensures refl

pub returns-in_err-remove_safely-clause-plan : goal.returns-in_err-remove_safely-clause-plan
unfolding removed_marked
returns-in_err-remove_safely-clause-plan g c =
    stop _ (rw (c.run.ensures, c.place.ensures, c.as_slice.ensures.value, c.in_ok-numbers.ensures) at (c.in_err-remove_safely.ensures c.args.hand.now.kept)) c.from_residual-in_err-remove_safely.ensures

pub returns-clause-plan : goal.returns-clause-plan
unfolding removed_marked
returns-clause-plan g c =
    go _ (rw (c.run.ensures, c.place.ensures, c.as_slice.ensures.value, c.in_ok-numbers.ensures) at (c.in_ok-remove_safely.ensures c.args.hand.now.kept)) (rw is at c.commit_marks.ensures.plan)
  where
    is : marked_by_all c.as_slice-2.result.now c.args.opened.now.sequences ≡ withdrawn (numbers_of c.args.chosen.runs) c.args.opened.now.sequences
    is =
        ap (λ ms. marked_by_all ms c.args.opened.now.sequences) (c.as_slice-2.ensures ∙ c.in_ok-marks.ensures)
        ∙ withdraws c.args.chosen c.args.opened.now.sequences (subst (λ s. AreRuns s.runs) c.chosen.view_is c.chosen.invariant.0)
