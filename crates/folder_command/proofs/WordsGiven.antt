-- Whether words are given decides what `folder` does.
use Rattle.std.proofs.Common.{◌≡◌, ◌≤◌, ◌∷◌, [], ℕ, true, false, List, length, refl, sym, ◌∙◌, arith}
use Rattle.std.specs.Prelude.{◌==◌}
use Rattle.std.proofs.lemmas.Bool.Decides.{nat_tests}
use Rattle.told_folders.specs.Plans.{folder_changed, folder_looked}
use Rattle.folder_command.specs.Folder.{folder_by, task_with}
use Rattle.folder_command.specs.declared.job.FolderJob.{FolderJob}

some : (n : ℕ) → 1 ≤ n → (n == 0) ≡ false
some n le = grind (arith, nat_tests)

pub by_none : (run : ℕ) (path : List ℕ) (job : FolderJob) (specs : List (List ℕ)) → (length specs == 0) ≡ true → folder_by run path job specs ≡ folder_looked run path (task_with [] job)
by_none run path job [] e = refl
by_none run path job (word ∷ words) e = absurd (let no : true ≡ false = sym e ∙ some (length (word ∷ words)) (omega arith) in cc (no))

pub by_words : (run : ℕ) (path : List ℕ) (job : FolderJob) (specs : List (List ℕ)) → (length specs == 0) ≡ false → folder_by run path job specs ≡ folder_changed run path (task_with specs job)
by_words run path job [] e = cc (e)
by_words run path job (word ∷ words) e = refl
