-- What other runs hold aside in each folder goes where it goes alone, whatever stands there.
use Rattle.std.proofs.Common.{◌≡◌, ◌∙◌, ℕ, true, List, refl, sym, subst}
use Rattle.folder_files.specs.declared.place.Place.TheVariants.{Folder}
use Rattle.folder_files.proofs.Sameness.{place_is}
use Rattle.file_plans.specs.Contents.{Contents, mailbox_in, with_folder}
use Rattle.opening_plans.specs.BegunWork.{AreHomesAt}
use Rattle.opening_plans.specs.HomesOf.{homes_at}
use Rattle.opening_plans.specs.Making.{IsBare}
use Rattle.opening_plans.proofs.HomesFound.{homes_there}
use Rattle.opening_plans.proofs.SettledShown.{there_shown}
use Rattle.refile_plans.specs.RefileOutcome.{AreHomesOfAll, homes_of_all}
use Rattle.opening_plans.proofs.FolderMade.{folder_or_empty}

-- so in each folder that is there, and nothing is held aside in one that is missing
pub all_homes_found : (run : ℕ) (path : List ℕ) (c : Contents) → IsBare c → AreHomesOfAll run path (mailbox_in c) (homes_of_all run path (mailbox_in c))
unfolding mailbox_in
all_homes_found run path c bare name =
    subst (λ o. AreHomesAt run o (homes_at run o)) (there_shown (with_folder c (Folder path name)) (Folder path name) ((with_folder c (Folder path name)).there (Folder path name)) there ∙ sym (folder_or_empty c path name (λ q is off x. bare q off x)))
    (homes_there run (with_folder c (Folder path name)) (Folder path name))
  where
    there : (with_folder c (Folder path name)).there (Folder path name) ≡ true
    there = rw (place_is (Folder path name)) refl
