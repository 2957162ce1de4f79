-- What `folder` makes of sequences is in order, and it says something.
use Rattle.std.proofs.Common.{◌≡◌, ◌∷◌, [], ℕ, true, List, refl, subst, sym}
use Rattle.std.specs.Prelude.{IfSome, Option, None, Some, length, ◌-◌, slice_get}
use Rattle.std.specs.Str.{encode_utf8_all}
use Rattle.mh_base.specs.Numbers.{IsMsgNum}
use Rattle.mh_sequences.specs.Runs.{numbers_of}
use Rattle.mh_sequences.specs.Sequences.{AreSequences, Marked, member}
use Rattle.mh_sequences.specs.declared.mark.Mark.TheVariants.{Cur}
use Rattle.folder_files.proofs.Names.{num_itself}
use Rattle.sequence_commits.specs.Marking.{marked_by_all}
use Rattle.sequence_commits.proofs.MarkedOnce.{marked_valid}
use Rattle.opening_plans.proofs.ChosenListed.{marked_cur_is, marked_member}
use Rattle.told_folders.specs.Tasks.{AreMsgNums, IsOrderly}
use Rattle.folder_command.specs.Folder.{task_with, with_current}
use Rattle.folder_command.specs.Summary.{summary, summary_by}
use Rattle.folder_command.specs.declared.job.FolderJob.{FolderJob}

by_some : (name : List ℕ) (k : ℕ) (least greatest cur : Option ℕ) → summary_by name k least greatest cur ≡ [] → ⊥
by_some [] k (Some n) (Some m) cur e = cc (e)
by_some [] k (Some n) None cur e = cc (e)
by_some [] k None greatest cur e = cc (e)
by_some (x ∷ name) k (Some n) (Some m) cur e = cc (e)
by_some (x ∷ name) k (Some n) None cur e = cc (e)
by_some (x ∷ name) k None greatest cur e = cc (e)

pub summary_some : (name numbers : List ℕ) (cur : Option ℕ) → summary name numbers cur ≡ [] → ⊥
unfolding summary
summary_some name numbers cur e = by_some name (length numbers) (slice_get numbers 0) (slice_get numbers (length numbers - 1)) cur e

with_valid : (numbers : List ℕ) (m : Marked) → AreSequences (with_current numbers m).users
unfolding marked_by_all
with_valid numbers m = marked_valid (Cur (slice_get numbers 0)) m

with_member : (numbers : List ℕ) (m : Marked) (name : List ℕ) (n : ℕ) → member (with_current numbers m).users name n ≡ true → member m.users name n ≡ true
unfolding marked_by_all
with_member numbers m name n e = marked_member (Cur (slice_get numbers 0)) m name n e

with_cur : (numbers : List ℕ) (m : Marked) → (with_current numbers m).cur ≡ slice_get numbers 0
unfolding marked_by_all
with_cur numbers m = marked_cur_is (Cur (slice_get numbers 0)) m

least_valid : (numbers : List ℕ) → AreMsgNums numbers → IfSome (slice_get numbers 0) IsMsgNum
least_valid [] f = tt
least_valid (n ∷ ns) f = f n (rw (num_itself n) refl)

pub orderly : (specs : List (List ℕ)) (job : FolderJob) → IsOrderly (task_with specs job)
orderly specs job = record {
  valid = λ listing numbers m valid. with_valid numbers m;
  within = λ listing numbers m listed before name n e. before name n (with_member numbers m name n e);
  current = λ listing numbers m are cur. subst (λ z. IfSome z IsMsgNum) (sym (with_cur numbers m)) (least_valid numbers are);
  lines = λ listing m. (summary_some (encode_utf8_all job.folder) (numbers_of listing) m.cur, tt);
}
