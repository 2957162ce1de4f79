-- Alone a file that a draft names has the bytes that stand there.
use Rattle.std.proofs.Common.{◌≡◌, ◌≢◌, ℕ, true, List, refl, ◌∙◌, ap}
use Rattle.folder_files.specs.Rows.{IsReadRow}
use Rattle.folder_files.specs.Steps.{read_file_answer}
use Rattle.folder_files.specs.declared.place.FilePath.{FilePath}
use Rattle.folder_files.specs.declared.refusal.Refusal.TheVariants as refusal
use Rattle.folder_files.specs.declared.step.Answer.{Answer}
use Rattle.folder_files.specs.declared.step.Answer.TheVariants as answer
use Rattle.folder_files.specs.declared.step.Step.TheVariants as step
use Rattle.file_plans.specs.Asking.{read_file, reading_of}
use Rattle.file_plans.specs.Contents.{Contents, mailbox_in}
use Rattle.file_plans.specs.Giving.{Gives}
use Rattle.file_plans.specs.Plan.{Hand, ask, bind, lifted, ◌>>=◌}
use Rattle.file_plans.specs.Views.{View, by_view, fits_view, view_after}
use Rattle.file_plans.proofs.Onward.{Is, onward}
use Rattle.step_plans.specs.ContextCommit.{LIMIT_BYTES}
use Rattle.draft_files.specs.Drafts.{no_file}
use Rattle.draft_contents.specs.Files.{file_by, file_read}
use Rattle.draft_contents.specs.Found.{file_found}
use Rattle.draft_contents.proofs.Finding.{Finds, content_found, found_so, gone_found, long_found}

module _ (ns : List ℕ) (c : Contents) (h : Hand) (text : List ℕ) (z : View) (is : Is true ns z c) (path : FilePath) where
  answered : (a : Answer) → fits_view true z (step.ReadFile path LIMIT_BYTES) a → a ≡ read_file_answer LIMIT_BYTES (c.outside path)
  answered a f = f.0 ∙ ap (λ d. read_file_answer LIMIT_BYTES (d.outside path)) (is.0 refl)

  pub file_finds : Gives (by_view true) z h text (file_read path) (Finds ns c h text (file_found (mailbox_in c) path))
  unfolding Gives file_read read_file ask lifted bind ◌>>=◌ mailbox_in
  file_finds = next
    where
      next : (a : Answer) → IsReadRow a → a ≢ answer.Failed → fits_view true z (step.ReadFile path LIMIT_BYTES) a → Gives (by_view true) (view_after z (step.ReadFile path LIMIT_BYTES) a) h text (file_by path (reading_of a)) (Finds ns c h text (file_found (mailbox_in c) path))
      next (answer.Content bytes) row live f =
          found_so ns c h text (file_found (mailbox_in c) path) _ _ (onward true ns z c (step.ReadFile path LIMIT_BYTES) (answer.Content bytes) is refl) (content_found (no_file path) (c.outside path) bytes (answered (answer.Content bytes) f)) tt
      next (answer.Long l) row live f =
          found_so ns c h text (file_found (mailbox_in c) path) _ _ (onward true ns z c (step.ReadFile path LIMIT_BYTES) (answer.Long l) is refl) (long_found (no_file path) (c.outside path) l (answered (answer.Long l) f)) (refusal.TooLarge l LIMIT_BYTES, refl)
      next answer.Gone row live f =
          found_so ns c h text (file_found (mailbox_in c) path) _ _ (onward true ns z c (step.ReadFile path LIMIT_BYTES) answer.Gone is refl) (gone_found (no_file path) (c.outside path) (answered answer.Gone f)) (refusal.NoFile path, refl)
      next answer.Failed row live f = absurd (live refl)
      next answer.Done row live f = absurd row
      next (answer.Names found) row live f = absurd row
      next (answer.Piece b l) row live f = absurd row
      next answer.Exists row live f = absurd row
      next answer.Busy row live f = absurd row
      next answer.Grown row live f = absurd row
