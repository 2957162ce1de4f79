-- A folder that is listed.
use Rattle.std.specs.Prelude.{ℕ, List, Ok, Err, filter}
use Rattle.mh_sequences.specs.Runs.{numbers_of}
use Rattle.msg_ranges.specs.Selected.{every_number}
use Rattle.folder_files.specs.declared.place.Place.{Place}
use Rattle.folder_files.specs.declared.refusal.Refusal.TheVariants as refusal
use Rattle.file_plans.specs.Asking.{list}
use Rattle.file_plans.specs.Plan.{Return, lifted, ◌>>=◌}
use Rattle.file_plans.specs.Sightings.{has_number}
use Rattle.file_plans.specs.declared.answers.Listing.{Listing}
use Rattle.file_plans.specs.declared.answers.Listing.TheVariants as listing
use Rattle.step_plans.specs.CommandFaults.{of_stop}
use Rattle.step_plans.specs.declared.command_fault.CommandFault.TheVariants as fault
use Rattle.command_stages.specs.Texts.{Commanded}

-- the names of the folder, or there is no such folder
abbrev pub names_by : List ℕ → Listing → Commanded (List (List ℕ))
names_by folder (listing.Names names) = Return (Ok names)
names_by folder listing.Gone = Return (Err (fault.Refused (refusal.NoFolder folder)))

unfoldable pub folder_listed : Place → List ℕ → Commanded (List (List ℕ))
folder_listed place folder = do
  listing ← lifted of_stop (list place)
  names_by folder listing

-- the message numbers among the names, ascending
abbrev pub numbers_listed : List (List ℕ) → List ℕ
numbers_listed names = filter (λ n. has_number n names) (numbers_of every_number)
