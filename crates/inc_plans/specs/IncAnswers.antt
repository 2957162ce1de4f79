-- What shows how `inc` ended on its folder: its run's own deeds in the call, the newest first.
use Rattle.std.specs.Prelude.{◌≡◌, ◌≢◌, ◌⊎◌, ◌<◌, ◌≤◌, ◌+◌, ◌++◌, ◌∷◌, [], ℕ, true, false, List, length, min, nat_lt, None, Some, Result, Ok, Err}
use Rattle.mbox_drop.specs.Drops.{is_drop, messages}
use Rattle.mbox_drop.specs.Long.{first_long}
use Rattle.mh_sequences.specs.declared.run.Run.{Run}
use Rattle.folder_files.specs.Careful.{HasPieces, IsPiece}
use Rattle.folder_files.specs.Deeds.{Deed, did, Once}
use Rattle.folder_files.specs.declared.place.FilePath.{FilePath}
use Rattle.folder_files.specs.declared.place.Place.TheVariants.{Folder, Mail}
use Rattle.folder_files.specs.declared.refusal.Refusal.TheVariants as refusal
use Rattle.folder_files.specs.declared.step.Answer.TheVariants.{Gone, Grown, Piece}
use Rattle.folder_files.specs.declared.step.Step.TheVariants.{CutDrop, ReadDrop}
use Rattle.step_plans.specs.declared.command_fault.CommandFault.{CommandFault}
use Rattle.step_plans.specs.declared.command_fault.CommandFault.TheVariants as fault
use Rattle.sequence_commits.specs.Marking.{marked_by_all}
use Rattle.message_puts.specs.Stored.{HasMetAt}
use Rattle.opening_plans.specs.Endings.{Answering, IsGoneOnceMade, ShowsEnd}
use Rattle.opening_plans.specs.Reads.{HaveSeen}
use Rattle.inc_plans.specs.Counting.{LIMIT, LONGEST}
use Rattle.inc_plans.specs.Inc.{new_marks, top_of}
use Rattle.inc_plans.specs.IncPledge.{HasTakenIn, TellsNew}
use Rattle.inc_plans.specs.IncJob.{IncJob}

-- the sequences have the marks of new messages; no word is refused once the folder is begun
abbrev pub inc_answers : IncJob → Answering
inc_answers job = record {
  makes = λ listing m new. (numbers : List ℕ) × (new ≡ marked_by_all (new_marks job numbers) m);
  refuses = λ listing m r. ⊥;
}

-- the first piece of the drop told this length
abbrev pub WasTold : FilePath → ℕ → List Deed → Type 0
WasTold f l own = Once (λ d older. (piece : List ℕ) × IsPiece f 0 piece l d) own

-- the run read the drop from its begin: a drop, with no message that is too long
pub record WasCounted (f : FilePath) (drop : List ℕ) (own : List Deed) : Type 0 where
  pub read : Once (λ d older. HasPieces f drop (d ∷ older)) own
  pub is_one : is_drop drop ≡ true
  pub short : first_long (messages drop) ≡ None

-- it has read it again, and what it read now is no beginning of what it read then
pub record IsReadOtherwise (f : FilePath) (own : List Deed) : Type 0 where
  pub drop : List ℕ
  pub counted : WasCounted f drop own
  pub again : List ℕ
  pub pieces : HasPieces f again own
  pub other : (rest : List ℕ) → drop ≢ again ++ rest

-- what shows a fault of the drop, or that no number is left
pub data ShowsIntake (run : ℕ) (path : List ℕ) (job : IncJob) : CommandFault → List Deed → Type 0 where
  -- there is no drop, or an empty one, or one that is too long
  no_file : {most : ℕ} {older : List Deed}
      → ShowsIntake run path job (fault.Refused refusal.NoMail) (did (ReadDrop job.drop 0 most) Gone ∷ older)
  empty_file : {most : ℕ} {bytes : List ℕ} {older : List Deed}
      → ShowsIntake run path job (fault.Refused refusal.NoMail) (did (ReadDrop job.drop 0 most) (Piece bytes 0) ∷ older)
  long_file : {most l : ℕ} {bytes : List ℕ} {older : List Deed} → nat_lt LONGEST l ≡ true
      → ShowsIntake run path job (fault.Refused (refusal.TooLarge l LONGEST))
      (did (ReadDrop job.drop 0 most) (Piece bytes l) ∷ older)
  -- what was read is no drop, or has a message that is too long, or more messages than there are numbers above the
  -- folder's highest
  no_drop : {drop : List ℕ} {own : List Deed} → HasPieces job.drop drop own → is_drop drop ≡ false
      → ShowsIntake run path job (fault.Refused refusal.NotADrop) own
  long_message : {drop : List ℕ} {l : ℕ} {own : List Deed} → HasPieces job.drop drop own
      → first_long (messages drop) ≡ Some l
      → ShowsIntake run path job (fault.Refused (refusal.TooLarge l LIMIT)) own
  no_room : {drop text context : List ℕ} {listing : List Run} {own : List Deed} → HasPieces job.drop drop own
      → HaveSeen run (Folder path job.folder) (Mail path) listing text context own
      → 999999 < top_of listing + length (messages drop)
      → ShowsIntake run path job (fault.Refused (refusal.Full job.folder)) own
  -- the run put a message at the last number, or met one there
  none_left : {own : List Deed} → HasMetAt (Folder path job.folder) 999999 own
      → ShowsIntake run path job (fault.Refused (refusal.Full job.folder)) own
  -- the drop was changed: its first piece has not the bytes that its length lets it have
  odd_first : {most l : ℕ} {bytes : List ℕ} {older : List Deed} → length bytes ≢ min l most
      → ShowsIntake run path job (fault.Refused refusal.DropChanged)
      (did (ReadDrop job.drop 0 most) (Piece bytes l) ∷ older)
  -- a later one has not all that were asked for within the length that the first one told; or the drop is gone
  odd_piece : {from most l now_length : ℕ} {bytes : List ℕ} {older : List Deed} → WasTold job.drop l older
      → from + most ≤ l → length bytes ≢ most
      → ShowsIntake run path job (fault.Refused refusal.DropChanged)
      (did (ReadDrop job.drop from most) (Piece bytes now_length) ∷ older)
  gone_piece : {from most l : ℕ} {older : List Deed} → WasTold job.drop l older
      → ShowsIntake run path job (fault.Refused refusal.DropChanged) (did (ReadDrop job.drop from most) Gone ∷ older)
  -- or other bytes were read the second time
  other_bytes : {own : List Deed} → IsReadOtherwise job.drop own
      → ShowsIntake run path job (fault.Refused refusal.DropChanged) own
  -- mail was delivered before the drop was cut
  grown : {l : ℕ} {older : List Deed}
      → ShowsIntake run path job (fault.Refused refusal.DropGrown) (did (CutDrop job.drop l) Grown ∷ older)

-- what shows each fault of `inc` on its folder
abbrev pub ShowsInc : ℕ → List ℕ → IncJob → CommandFault → List Deed → Type 0
ShowsInc run path job e own =
    (ShowsEnd run path job.folder (inc_answers job) e own ⊎ IsGoneOnceMade (Folder path job.folder) e own)
    ⊎ ShowsIntake run path job e own

-- the run read a drop, and stored each of its messages at a number of its own
abbrev pub HasTakenMail : ℕ → List ℕ → IncJob → List Deed → Type 0
HasTakenMail run path job own = (numbers : List ℕ) × HasTakenIn run (Folder path job.folder) job.drop numbers own

-- a text of the heading and of lines of messages that the run has stored
pub data IsTextOfNew (run : ℕ) (path : List ℕ) (job : IncJob) (own : List Deed) : List ℕ → Type 0 where
  nothing : IsTextOfNew run path job own []
  piece : {text more : List ℕ} → IsTextOfNew run path job own text → TellsNew run path job own more
      → IsTextOfNew run path job own (text ++ more)

-- how it ended: it has taken in all messages, and this is a text of the new ones; or this shows its fault
abbrev pub ShowsIncorporating : ℕ → List ℕ → IncJob → Result (List ℕ) CommandFault → List Deed → Type 0
ShowsIncorporating run path job (Ok said) own = HasTakenMail run path job own × IsTextOfNew run path job own said
ShowsIncorporating run path job (Err e) own = ShowsInc run path job e own
