-- A commit, step by step: such a history meets the premises of the law on commits, and its text is the fold of that one commit.
use Rattle.std.proofs.Common.{◌≡◌, ℕ, inl, List, [], ◌∷◌, refl, ap, subst, ◌∙◌, ◌++◌}
use Rattle.folder_files.specs.Careful.{looks}
use Rattle.folder_files.specs.Deeds.{WasDone, HasFailed, now, on}
use Rattle.folder_files.specs.Histories.{world_after, own}
use Rattle.folder_files.specs.declared.step.Answer.TheVariants.{Gone, Failed}
use Rattle.folder_files.specs.declared.step.Step.TheVariants.{Create, Rename}
use Rattle.step_plans.specs.Commits.{text_at}
use Rattle.commit_fold.specs.Counting.{AreSynced, done_in, turns_of, below}
use Rattle.commit_fold.specs.Folding.{AreChanges, by, fold, IsFold}
use Rattle.commit_fold.proofs.Folding.{fold_of_commits}
use Rattle.step_plans.proofs.Stage.{inbox, temp, unfailed, done_is_no_failure}
use Rattle.step_plans.proofs.WorkedCommit.{sequences, text, begun, ready, settled, begun_starts, settled_is_legal, is_one, committed_is_careful, committed_is_honest, committed_is_orderly, none_of_theirs, base_is_empty}

committed_create : (t : List ℕ) → Rename inbox temp sequences ≡ Rename inbox t sequences → WasDone (Create inbox t text) (own 5 ready)
unfolding own
committed_create t e = subst (λ (z : List ℕ). WasDone (Create inbox z text) (own 5 ready)) (cc (e)) (on (now refl))

-- the command adds a line
abbrev pub add : ℕ → ℕ → List ℕ → List ℕ
add run turn old = old ++ text

are_changes : AreChanges (by add) inbox sequences settled
are_changes = ((λ t e. absurd (cc (e))), ((λ t e. ([], text, base_is_empty, committed_create t e, refl)), ((λ t e. absurd (cc (e))), ((λ t e. absurd (cc (e))), ((λ t e. absurd (cc (e))), ((λ t e. absurd (cc (e))), tt))))))

pub is_fold : IsFold begun inbox sequences (λ commits new. new ≡ fold add commits (text_at (world_after begun []) inbox sequences)) settled
is_fold = fold_of_commits begun settled inbox sequences add begun_starts settled_is_legal ((λ on. looks tt), committed_is_careful) (none_of_theirs settled) committed_is_honest ((λ p l c. absurd c), committed_is_orderly) is_one are_changes

are_synced : AreSynced inbox sequences (own 5 settled)
unfolding own
are_synced = inl (refl, refl)

settled_unfailed : HasFailed (own 5 settled) → ⊥
unfolding own
settled_unfailed = unfailed (own 5 settled) (done_is_no_failure, (done_is_no_failure, (done_is_no_failure, (done_is_no_failure, (no_failure, (done_is_no_failure, tt))))))
  where
    no_failure : Gone ≡ Failed → ⊥
    no_failure e = cc (e)

-- its one commit is firm
one_done : done_in inbox sequences (own 5 settled) ≡ 1
unfolding own
one_done = refl

pub is_firm : turns_of 5 is_fold.firm ≡ 0 ∷ []
is_firm = (is_fold.tells.whole 5 settled_unfailed are_synced).0 ∙ ap below one_done
