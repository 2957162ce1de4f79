-- The pledge of a command that tells of a folder's sequences.
use Rattle.std.specs.Prelude.{◌≡◌, ℕ, List, Ok}
use Rattle.mh_sequences.specs.Sequences.{Marked}
use Rattle.mh_sequences.specs.declared.run.Run.{Run}
use Rattle.folder_files.specs.Commands.{Marking, Noting}
use Rattle.folder_files.specs.declared.place.Place.TheVariants.{Folder}
use Rattle.step_plans.specs.ContextPledge.{MarksContext}
use Rattle.step_plans.specs.Pledges.{Pledge}
use Rattle.command_stages.specs.Current.{current_change}
use Rattle.opening_plans.specs.FolderPledge.{folder_pledge}
use Rattle.mh_looks.specs.ScanPledge.{HasListed}
use Rattle.told_folders.specs.Tasks.{Task, chosen_from}

-- the sequences are what the task makes of them by the messages that its words choose of these numbers
abbrev pub Changes : Task → List Run → Marked → Marked → Type 0
Changes t listing m new =
    (numbers : List ℕ) × (chosen_from t listing m ≡ Ok numbers) × (new ≡ t.becomes listing numbers m)

-- it changes what marks a folder of this mail directory, and may say anything
abbrev pub change_pledge : ℕ → List ℕ → Task → Pledge
change_pledge run path t =
    folder_pledge run path t.folder (λ own. Changes t) (Marking path t.folder) (λ own piece. Unit {0})
    (λ own s. Unit {0})

-- one that only looks changes nothing but the current folder, which becomes the one that it listed
abbrev pub look_pledge : ℕ → List ℕ → Task → Pledge
look_pledge run path t = record {
  run = run;
  manner = Noting path;
  may_mark = λ own p name old text. HasListed (Folder path t.folder) own
      × MarksContext path (current_change t.folder) p name old text;
  may_tell = λ own piece. Unit {0};
  may_step = λ own s. Unit {0};
}
