use Rattle.std.proofs.Common.{◌≡◌, refl, ap, ◌∙◌}
use Rattle.file_plans.proofs.Following.{go, stop, no_room}
use Rattle.opening_plans.specs.Existing.{numbers_settled}
use Rattle.opening_plans.specs.Opening.{marks_cut, opened_of}
use Rattle.opening_plans.proofs.OneStep.{done_as}
use Rattle.sequence_commits.specs.Cutting.{cut_to}
use Rattle.opened_folders.proofs.beginning.cut_marks.Goals as goal

pub returns-in_err-listing-clause-plan : goal.returns-in_err-listing-clause-plan
returns-in_err-listing-clause-plan g c = no_room _ c.from_residual.ensures refl

pub returns-in_err-commit_cut-clause-plan : goal.returns-in_err-commit_cut-clause-plan
unfolding marks_cut
returns-in_err-commit_cut-clause-plan g c = stop _ (rw (c.in_ok-listing.ensures, c.run.ensures) at c.in_err-commit_cut.ensures.plan) c.from_residual-in_err-commit_cut.ensures

pub returns-in_err-duplicate-clause-plan : goal.returns-in_err-duplicate-clause-plan
unfolding marks_cut
returns-in_err-duplicate-clause-plan g c = go _ (rw (c.in_ok-listing.ensures, c.run.ensures) at c.in_ok-commit_cut.ensures.plan) (no_room _ c.from_residual-in_err-duplicate.ensures refl)

pub returns-clause-plan : goal.returns-clause-plan
unfolding marks_cut
returns-clause-plan g c =
    go _ (rw (c.in_ok-listing.ensures, c.run.ensures) at c.in_ok-commit_cut.ensures.plan)
    (done_as (λ i. opened_of c.args.place (c.in_ok-duplicate.ensures i) (listing i) ((c.in_ok-commit_cut.ensures.cut ∙ ap (λ runs. cut_to runs c.args.sequences) listing) i) (c.into_ends.ensures i)))
  where
    listing : c.in_ok-listing.listing.runs ≡ numbers_settled c.args.hand.now.run c.args.settled
    listing = rw c.run.ensures at c.in_ok-listing.ensures
