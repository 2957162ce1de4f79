-- The mark that takes messages out of all sequences.
use Rattle.std.proofs.Common.{◌≡◌, ℕ, List, [], ◌∷◌, refl}
use Rattle.mh_sequences.specs.Runs.{set_of}
use Rattle.mh_sequences.specs.Sequences.{Marked}
use Rattle.mh_sequences.specs.declared.mark.Mark.TheVariants.{Withdraw}
use Rattle.sequence_commits.specs.Marking.{marked_by_all}
use Rattle.sequence_commits.specs.RunsOfAll.{set_among}
use Rattle.refile_plans.specs.Rmm.{withdrawn}

pub one_withdrawn : (numbers : List ℕ) (m : Marked) → marked_by_all (Withdraw (set_of (set_among numbers) 0) ∷ []) m ≡ withdrawn numbers m
unfolding marked_by_all
one_withdrawn numbers m = refl
