-- `mhstore` minds the marks of messages.
use Rattle.std.proofs.Common.{◌≡◌, inl, inr, ℕ, true, List, sym, ◌∙◌}
use Rattle.folder_files.specs.Deeds.{Deed}
use Rattle.folder_files.specs.declared.step.Step.{Step}
use Rattle.command_pledges.proofs.MindsMarks.{mail_changes, minds_all}
use Rattle.folder_files.specs.Commands.{Storing}
use Rattle.folder_files.specs.Histories.{Changes}
use Rattle.folder_files.specs.declared.place.Place.TheVariants.{Folder, Work}
use Rattle.folder_files.specs.declared.step.Step.TheVariants.{Read}
use Rattle.file_plans.specs.StaysCareful.{IsOwnStep, only_looks, careful}
use Rattle.step_plans.proofs.KeptPledges.{look_changes}
use Rattle.sequence_marks.proofs.Sequences.{MindsSequences}
use Rattle.mh_base.specs.Folders.{is_folder_name}
use Rattle.mhstore_plans.specs.declared.job.StoreJob.{StoreJob}
use Rattle.mhstore_plans.specs.StorePledge.{store_pledge}
use Rattle.folder_command.proofs.Orderly.{orderly}
use Rattle.folder_files.specs.declared.step.Step.TheVariants as step

-- a step in the current directory changes no folder
work_changes : (path folder : List ℕ) (s : Step) → Changes Work s → Changes (Folder path folder) s → ⊥
work_changes path folder (step.Create p n b) m c = absurd (let same : Work ≡ Folder path folder = m ∙ sym c in cc (same))
work_changes path folder (step.Link p a b) m c = absurd (let same : Work ≡ Folder path folder = m ∙ sym c in cc (same))
work_changes path folder (step.Rename p a b) m c = absurd (let same : Work ≡ Folder path folder = m ∙ sym c in cc (same))
work_changes path folder (step.Unlink p a) m c = absurd (let same : Work ≡ Folder path folder = m ∙ sym c in cc (same))
work_changes path folder s m c = c

storing_changes : (run : ℕ) (mail : List ℕ) (before : List Deed) (s : Step) (path folder : List ℕ) → IsOwnStep run (Storing mail) before s → Changes (Folder path folder) s → ⊥
storing_changes run mail before s path folder (only_looks l) c = look_changes (Folder path folder) s l c
storing_changes run mail before s path folder (careful f kind k (inl makes) orderly) c = mail_changes mail path folder s makes.1 c
storing_changes run mail before s path folder (careful f kind k (inr makes) orderly) c = work_changes path folder s makes.1 c

pub stores_mind : (run : ℕ) (path : List ℕ) (job : StoreJob) → is_folder_name job.folder ≡ true → MindsSequences (store_pledge run path job)
stores_mind run path job valid = minds_all (store_pledge run path job) path (storing_changes run path) (λ before p name old new m. (job.folder, valid, m.0, m.1))
