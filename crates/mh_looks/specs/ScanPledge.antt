-- The pledge of `scan`.
use Rattle.std.specs.Prelude.{◌≡◌, ℕ, true, List}
use Rattle.mh_base.specs.Folders.{is_folder_name}
use Rattle.folder_files.specs.Commands.{Noting}
use Rattle.folder_files.specs.Deeds.{Deed, did, Once}
use Rattle.folder_files.specs.declared.place.Place.{Place}
use Rattle.folder_files.specs.declared.place.Place.TheVariants.{Folder}
use Rattle.folder_files.specs.declared.step.Answer.TheVariants.{Names}
use Rattle.folder_files.specs.declared.step.Step.TheVariants.{List as ListNames}
use Rattle.step_plans.specs.ContextPledge.{MarksContext}
use Rattle.step_plans.specs.Pledges.{Pledge}
use Rattle.command_stages.specs.Current.{current_change}

-- the place was listed, and names were the answer
abbrev pub HasListed : Place → List Deed → Type 0
HasListed p own = Once (λ d older. (names : List (List ℕ)) × (d ≡ did (ListNames p) (Names names))) own

-- the name is the context's, and its new text is what naming a folder as the current one makes of the old one; the run
-- listed that folder
abbrev pub MarksCurrent : List ℕ → List Deed → Place → List ℕ → List ℕ → List ℕ → Type 0
MarksCurrent mail own p name old new =
    (folder : List ℕ) × (is_folder_name folder ≡ true) × HasListed (Folder mail folder) own
    × MarksContext mail (current_change folder) p name old new

-- a command that looks at a folder of this mail directory changes nothing but the current folder, and may say anything
abbrev pub scan_pledge : ℕ → List ℕ → Pledge
scan_pledge run mail = record {
  run = run;
  manner = Noting mail;
  may_mark = λ own p name old new. MarksCurrent mail own p name old new;
  may_tell = λ own piece. Unit {0};
  may_step = λ own s. Unit {0};
}
