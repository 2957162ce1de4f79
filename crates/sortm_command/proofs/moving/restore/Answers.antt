use Rattle.std.proofs.Common.{◌≡◌, ◌++◌, ◌∷◌, [], map, refl, ap, ◌∙◌}
use Rattle.file_plans.proofs.Following.{no_room}
use Rattle.mh_sequences.specs.declared.mark.Mark.TheVariants.{Move}
use Rattle.sequence_commits.specs.Marking.{marked_by_all}
use Rattle.sequence_commits.specs.PlainMarks.{plain_mark}
use Rattle.sequence_commits.proofs.PlainMarks.{all_plain}
use Rattle.sortm_plans.proofs.Zipped.{map_more}
use Rattle.sortm_command.proofs.moving.restore.Goals as goal

pub returns-in_err-push-clause-plan : goal.returns-in_err-push-clause-plan
returns-in_err-push-clause-plan g c = no_room _ c.from_residual.ensures refl

pub returns-clause-plan : goal.returns-clause-plan
returns-clause-plan g c = rw is at c.commit_marks.ensures.plan
  where
    is : marked_by_all c.as_slice.result.now c.args.opened.now.sequences ≡ marked_by_all (map plain_mark c.args.marks ++ Move c.args.pairs ∷ []) c.args.opened.now.sequences
    is = all_plain c.as_slice.result.now c.args.opened.now.sequences ∙ ap (λ ms. marked_by_all ms c.args.opened.now.sequences) (ap (map plain_mark) (c.as_slice.ensures ∙ c.in_ok-push.ensures.ok) ∙ map_more plain_mark c.args.marks (Move c.args.pairs))

pub returns-clause-left : goal.returns-clause-left
returns-clause-left g c = rw is at c.commit_marks.ensures.marked
  where
    is : marked_by_all c.as_slice.result.now c.args.opened.now.sequences ≡ marked_by_all (map plain_mark c.args.marks ++ Move c.args.pairs ∷ []) c.args.opened.now.sequences
    is = all_plain c.as_slice.result.now c.args.opened.now.sequences ∙ ap (λ ms. marked_by_all ms c.args.opened.now.sequences) (ap (map plain_mark) (c.as_slice.ensures ∙ c.in_ok-push.ensures.ok) ∙ map_more plain_mark c.args.marks (Move c.args.pairs))
