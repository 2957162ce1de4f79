-- What was found of a folder that was listed and read.
use Rattle.std.proofs.Common.{◌≡◌, ◌++◌, ◌∷◌, [], ℕ, List, Ok, sym, ap, subst}
use Rattle.mh_base.specs.Entries.{entry_text}
use Rattle.mh_base.specs.declared.entry.Entry.TheVariants.{Sequences}
use Rattle.mh_profile.specs.declared.named_value.NamedValue.{NamedValue}
use Rattle.folder_files.specs.Deeds.{Deed, did}
use Rattle.folder_files.specs.declared.place.Place.TheVariants.{Folder}
use Rattle.folder_files.specs.declared.step.Answer.TheVariants as answer
use Rattle.folder_files.specs.declared.step.Step.TheVariants as step
use Rattle.file_plans.proofs.Framing.{AnyStep}
use Rattle.opening_plans.specs.Reads.{TellsText}
use Rattle.pick_plans.specs.Pick.{chosen_seen}
use Rattle.pick_plans.specs.PickAnswers.{HasFoundListed}
use Rattle.pick_plans.specs.declared.job.PickJob.{PickJob}
use Rattle.pick_plans.proofs.Tested.{AreTested, reading_keeps, tested_all}

-- the newest two deeds listed the folder and read its sequences, and then messages were tested
pub found_listed : (path : List ℕ) (job : PickJob) (entries : List NamedValue) (names : List (List ℕ)) (text : List ℕ) (reading : Deed) (older own : List Deed) → own ≡ reading ∷ did (step.List (Folder path job.folder)) (answer.Names names) ∷ older
    → TellsText (Folder path job.folder) (entry_text Sequences) text reading → (numbers : List ℕ) → chosen_seen job names text entries ≡ Ok numbers → (later : List Deed) (found : List ℕ) → AreTested (Folder path job.folder) job.expr [] numbers own later found
    → HasFoundListed path job entries found later
found_listed path job entries names text reading older own is told numbers chosen later found tested =
    by (subst After (sym tested.read) (reading_keeps (Folder path job.folder) AnyStep After (λ before s x any z. (did s x ∷ z.0, ap (λ y. did s x ∷ y) z.1)) (λ x. tt) tested.messages own ([], is)))
  where
    After : List Deed → Type 0
    After own_ = (newer : List Deed) × (own_ ≡ newer ++ reading ∷ did (step.List (Folder path job.folder)) (answer.Names names) ∷ older)

    by : After later → HasFoundListed path job entries found later
    by z = record {
      names = names;
      text = text;
      reading = reading;
      newer = z.0;
      older = older;
      seen = z.1;
      told = told;
      numbers = numbers;
      chosen = chosen;
      tested = tested_all (Folder path job.folder) job.expr numbers found own later tested;
    }
