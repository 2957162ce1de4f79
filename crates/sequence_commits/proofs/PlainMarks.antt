-- Marks, whatever room their sets have.
use Rattle.std.proofs.Common.{◌≡◌, List, [], ◌∷◌, refl, ◌∙◌, ap}
use Rattle.std.specs.Prelude.{map}
use Rattle.mh_sequences.specs.Sequences.{Marked}
use Rattle.mh_sequences.specs.declared.mark.Mark.{Mark}
use Rattle.mh_sequences.specs.declared.mark.Mark.TheVariants as mark
use Rattle.sequence_commits.specs.Marking.{marked_by, marked_by_all}
use Rattle.sequence_commits.specs.PlainMarks.{plain_mark}

one_plain : (m : Mark) (s : Marked) → marked_by m s ≡ marked_by (plain_mark m) s
unfolding marked_by
one_plain (mark.Add name numbers public) s = refl
one_plain (mark.Delete name numbers public) s = refl
one_plain (mark.Set name numbers public) s = refl
one_plain (mark.Withdraw numbers) s = refl
one_plain (mark.Move pairs) s = refl
one_plain (mark.Cur cur) s = refl

-- marks do the same whatever room their sets have
pub all_plain : (marks : List Mark) (s : Marked) → marked_by_all marks s ≡ marked_by_all (map plain_mark marks) s
unfolding marked_by_all
all_plain [] s = refl
all_plain (m ∷ marks) s = ap (marked_by_all marks) (one_plain m s) ∙ all_plain marks (marked_by (plain_mark m) s)
