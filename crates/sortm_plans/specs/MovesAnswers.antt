-- What shows that messages of a folder can't get other numbers: the run's own deeds in the call, the newest first.
use Rattle.std.specs.Prelude.{◌≡◌, ◌⊎◌, ℕ, true, List, length, nat_lt}
use Rattle.mh_profile.specs.declared.named_value.NamedValue.{NamedValue}
use Rattle.mh_sequences.specs.Printing.{private_entries, text_of}
use Rattle.mh_sequences.specs.Reading.{suffix}
use Rattle.mh_sequences.specs.Runs.{has}
use Rattle.mh_sequences.specs.Sequences.{Marked}
use Rattle.mh_sequences.specs.declared.run.Run.{Run}
use Rattle.folder_files.specs.Deeds.{Deed}
use Rattle.folder_files.specs.declared.place.Place.TheVariants.{Folder, Mail}
use Rattle.folder_files.specs.declared.refusal.Refusal.TheVariants as refusal
use Rattle.step_plans.specs.ContextCommit.{LIMIT_BYTES}
use Rattle.step_plans.specs.Endings.{IsLongText}
use Rattle.step_plans.specs.declared.command_fault.CommandFault.{CommandFault}
use Rattle.step_plans.specs.declared.command_fault.CommandFault.TheVariants as fault
use Rattle.message_puts.specs.Stored.{HasMetAt}
use Rattle.sequence_commits.specs.PrivateChanges.{changes_to}
use Rattle.opening_plans.specs.FolderPledge.{told_within}
use Rattle.opening_plans.specs.Reads.{HaveSeen}

-- the text of sequences that the command makes after its deeds is too long, with this length; or that of the context
-- is, with the entries of the private ones
pub record IsLongMade (run : ℕ) (path folder : List ℕ) (Makes : List Deed → List Run → Marked → Marked → Type 0) (l : ℕ)
    (own : List Deed) : Type 0 where
  pub listing : List Run
  pub text : List ℕ
  pub context : List ℕ
  pub seen : HaveSeen run (Folder path folder) (Mail path) listing text context own
  pub new : Marked
  pub made : Makes own listing (told_within listing text context folder) new
  pub long :
      ((l ≡ length (text_of new)) × (nat_lt LIMIT_BYTES l ≡ true))
      ⊎ ((entries : List NamedValue)
      × IsLongText (Mail path)
      (changes_to (suffix folder) (private_entries (suffix folder) new.users) entries) l own)

-- what shows that messages can't get other numbers, where the command makes this of the folder's sequences
pub data ShowsMoves (run : ℕ) (path folder : List ℕ)
    (Makes : List Deed → List Run → Marked → Marked → Type 0) : CommandFault → List Deed → Type 0 where
  -- the sequences as they are to be while messages move, or after that, are too long
  long_marks : {l : ℕ} {own : List Deed} → IsLongMade run path folder Makes l own
      → ShowsMoves run path folder Makes (fault.Refused (refusal.TooLarge l LIMIT_BYTES)) own
  -- the run listed a message at the last number
  none_left : {listing : List Run} {text context : List ℕ} {own : List Deed}
      → HaveSeen run (Folder path folder) (Mail path) listing text context own → has listing 999999 ≡ true
      → ShowsMoves run path folder Makes (fault.Refused (refusal.Full folder)) own
  -- it linked one there, or met one
  none_met : {own : List Deed} → HasMetAt (Folder path folder) 999999 own
      → ShowsMoves run path folder Makes (fault.Refused (refusal.Full folder)) own
