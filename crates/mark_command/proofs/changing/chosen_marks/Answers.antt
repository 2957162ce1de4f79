use Rattle.std.proofs.Common.{ap, ◌∙◌, subst}
use Rattle.mh_sequences.specs.Runs.{AreRuns, numbers_of}
use Rattle.mark_command.specs.Marking.{marks_for}
use Rattle.opening_plans.proofs.Sets.{numbers_set}
use Rattle.mark_command.proofs.changing.chosen_marks.Goals as goal

pub returns : goal.returns
returns c = (
  numbers_of c.in_ok-chosen.chosen.runs,
  rw (c.listing.ensures, c.sequences.ensures, c.as_slice.ensures) at c.in_ok-chosen.ensures,
  rw c.listing-2.ensures at c.in_ok-marks.ensures ∙ ap (marks_for c.args.job.now c.args.act c.args.opened.now.listing) (numbers_set c.in_ok-chosen.chosen.runs (subst (λ s. AreRuns s.runs) c.chosen.view_is c.chosen.invariant.0)),
)
