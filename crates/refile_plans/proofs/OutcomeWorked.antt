-- Small cases of what `refile` comes to, as facts that compute.
use Rattle.std.proofs.Common.{◌≡◌, ◌==◌, ◌∷◌, [], ℕ, false, List, Some, None, Ok, Err, refl}
use Rattle.std.specs.Prelude.{if◌then◌else◌}
use Rattle.folder_files.specs.Places.{same_place}
use Rattle.folder_files.specs.declared.place.Place.{Place}
use Rattle.folder_files.specs.declared.place.Place.TheVariants.{Folder}
use Rattle.folder_files.specs.declared.refusal.Refusal.TheVariants as refusal
use Rattle.file_plans.specs.Mailboxes.{Folder as FolderValue, Mailbox}
use Rattle.step_plans.specs.declared.command_fault.CommandFault.TheVariants as fault
use Rattle.opening_plans.specs.Kept.{Commits, Kept, kept_of}
use Rattle.message_moves.specs.declared.destination.Destination.{Destination}
use Rattle.opening_plans.specs.MadeFolder.{empty_folder}
use Rattle.refile_plans.specs.MailMoved.{copied_from, gone_from, mail_moved, message_of, with_copies}
use Rattle.refile_plans.specs.RefileOutcome.{first_full, said_work, target_of}
use Rattle.refile_plans.specs.declared.job.RefileJob.{RefileJob}

abbrev path : List ℕ
path = 77 ∷ []

abbrev inbox : List ℕ
inbox = 105 ∷ []

abbrev a : List ℕ
a = 97 ∷ []

abbrev inbox_place : Place
inbox_place = Folder path inbox

abbrev a_place : Place
a_place = Folder path a

abbrev first : List ℕ
first = 65 ∷ []

abbrev second : List ℕ
second = 66 ∷ []

-- messages 1 and 4 stand in inbox
abbrev two : FolderValue
two = record {
  messages = λ n. if n == 1 then Some first else (if n == 4 then Some second else None);
  removed = λ n. None;
  held = λ run n. None;
  sequences = None;
}

abbrev box : Mailbox
box = record {
  folders = λ q. if same_place inbox_place q then Some two else (if same_place a_place q then Some empty_folder else None);
  home = λ x. None;
  work = λ x. None;
  context = λ q. None;
  outside = λ f. None;
}

abbrev kept : Kept
kept = kept_of box []

abbrev to_a : List Destination
to_a = target_of path a [] ∷ []

abbrev gone : Commits
gone = mail_moved (gone_from 7 inbox_place) inbox_place (1 ∷ 4 ∷ []) to_a kept

abbrev copied : Commits
copied = mail_moved copied_from inbox_place (1 ∷ 4 ∷ []) to_a kept

-- both leave their numbers, and stand one above the other in the other folder
left_one : message_of (gone.kept.mailbox.folders inbox_place) 1 ≡ None
unfolding mail_moved with_copies
left_one = refl

left_four : message_of (gone.kept.mailbox.folders inbox_place) 4 ≡ None
unfolding mail_moved with_copies
left_four = refl

stands_first : message_of (gone.kept.mailbox.folders a_place) 1 ≡ Some first
unfolding mail_moved with_copies
stands_first = refl

stands_second : message_of (gone.kept.mailbox.folders a_place) 2 ≡ Some second
unfolding mail_moved with_copies
stands_second = refl

none_long : gone.long ≡ None
unfolding mail_moved with_copies
none_long = refl

-- a copy leaves the message where it stands
still_one : message_of (copied.kept.mailbox.folders inbox_place) 1 ≡ Some first
unfolding mail_moved with_copies
still_one = refl

copied_second : message_of (copied.kept.mailbox.folders a_place) 2 ≡ Some second
unfolding mail_moved with_copies
copied_second = refl

-- no room above the highest number of all
full : first_full (record { folder = a; place = a_place; highest = Some 999998 } ∷ []) 2 ≡ Some a
unfolding first_full
full = refl

roomy : first_full (record { folder = a; place = a_place; highest = Some 999998 } ∷ []) 1 ≡ None
unfolding first_full
roomy = refl

-- the source is no destination
abbrev job : RefileJob
job = record { source = inbox; set_current = false; specs = []; target = a; others = inbox ∷ []; link = false; negation = [] }

refused : (said_work 7 path job (record { users = []; cur = None }) to_a kept (Ok (1 ∷ []))).end ≡ Err (fault.Refused (refusal.SameFolder inbox))
refused = refl
