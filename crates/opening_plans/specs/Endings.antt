-- What shows how a command ended that begins a folder: its run's own deeds, the newest first.
use Rattle.std.specs.Prelude.{◌≡◌, ◌⊎◌, ◌++◌, ℕ, true, nat_lt, List, [], ◌∷◌, length}
use Rattle.mh_base.specs.Entries.{entry_text}
use Rattle.mh_base.specs.declared.entry.Entry.TheVariants.{Backup, Sequences}
use Rattle.mh_profile.specs.declared.named_value.NamedValue.{NamedValue}
use Rattle.mh_sequences.specs.Printing.{private_entries, text_of}
use Rattle.mh_sequences.specs.Reading.{suffix}
use Rattle.mh_sequences.specs.Sequences.{Marked}
use Rattle.mh_sequences.specs.declared.run.Run.{Run}
use Rattle.folder_files.specs.Careful.{HasLock}
use Rattle.folder_files.specs.Deeds.{Deed, did, Once, Since, WasDone}
use Rattle.folder_files.specs.declared.place.Place.{Place}
use Rattle.folder_files.specs.declared.place.Place.TheVariants.{Folder, Mail}
use Rattle.folder_files.specs.declared.refusal.Refusal.{Refusal}
use Rattle.folder_files.specs.declared.refusal.Refusal.TheVariants as refusal
use Rattle.folder_files.specs.declared.step.Step.{Step}
use Rattle.folder_files.specs.declared.step.Step.TheVariants as step
use Rattle.folder_files.specs.declared.step.Answer.{Answer}
use Rattle.folder_files.specs.declared.step.Answer.TheVariants.{Done, Gone, Exists}
use Rattle.file_plans.specs.Sightings.{Made, IsFailed}
use Rattle.step_plans.specs.ContextCommit.{LIMIT_BYTES, TRIES, context_name}
use Rattle.step_plans.specs.Endings.{IsHeld, IsLongRead, IsLongText, IsMeddled, IsMet, IsOn, IsTakenAway}
use Rattle.step_plans.specs.Locking.{lock_name}
use Rattle.step_plans.specs.declared.command_fault.CommandFault.{CommandFault}
use Rattle.step_plans.specs.declared.command_fault.CommandFault.TheVariants as command
use Rattle.step_plans.specs.declared.fault.PlanFault.{PlanFault}
use Rattle.step_plans.specs.declared.fault.PlanFault.TheVariants as fault
use Rattle.sequence_commits.specs.PrivateChanges.{changes_to}
use Rattle.command_stages.specs.Current.{current_change}
use Rattle.opening_plans.specs.FolderPledge.{told_within}
use Rattle.opening_plans.specs.Reads.{HaveSeen}

-- the run put this name into the place
abbrev pub PutsName : Place → List ℕ → Deed → Type 0
PutsName p x d =
    ((bytes : List ℕ) × (d ≡ did (step.Create p x bytes) Done))
    ⊎ (((from : List ℕ) × (d ≡ did (step.Link p from x) Done))
    ⊎ ((from : List ℕ) × (d ≡ did (step.Rename p from x) Done)))

-- the run made the name, saw it in a listing, or put it there or met it there by its own link
abbrev pub IsMetIn : Place → List ℕ → Deed → Type 0
IsMetIn p x d = IsMet p x d ⊎ (PutsName p x d ⊎ ((from : List ℕ) × (d ≡ did (step.Link p from x) Exists)))

-- it did so, and no own step has taken the name away since
abbrev pub HasMetIn : Place → List ℕ → List Deed → Type 0
HasMetIn p x own = Since (λ d older. IsMetIn p x d) (IsTakenAway p x) own

-- this is the last name that the run put there
abbrev pub IsLastName : Place → List ℕ → List Deed → Type 0
IsLastName p x own = Since (λ d older. PutsName p x d) (λ d. (y : List ℕ) × PutsName p y d) own

-- the run put no name there
abbrev pub PutsNone : Place → List Deed → Type 0
PutsNone p own = Once (λ d older. (y : List ℕ) × PutsName p y d) own → ⊥

-- since the run locked the place or last made it safe, it put no names there but backups
abbrev pub PutsBackups : Place → List Deed → Type 0
PutsBackups p own =
    Since (λ d older. (d ≡ did (step.Lock p) Done) ⊎ (d ≡ did (step.SyncFolder p) Done))
    (λ d. (y : List ℕ) × PutsName p y d × ((n : ℕ) → y ≡ entry_text (Backup n) → ⊥)) own

-- the newest step shows that others took away this name, which the run had met, or made its fresh name; or that they
-- took away the directory
pub data IsMeddledIn (run : ℕ) (p : Place) (x : List ℕ) : List Deed → Type 0 where
  -- as in a commit of the context
  plainly : {own : List Deed} → IsMeddled run p x own → IsMeddledIn run p x own
  -- a name that it met is gone
  met_gone : {s : Step} {older : List Deed} → IsOn p x s ⊎ ((to : List ℕ) × (s ≡ step.Link p x to)) → HasMetIn p x older
      → IsMeddledIn run p x (did s Gone ∷ older)
  -- the directory is gone as the run makes safe what it put there; this is the last such name
  last_gone : {older : List Deed} → IsLastName p x older
      → IsMeddledIn run p x (did (step.SyncFolder p) Gone ∷ older)
  -- the directory is gone that it had just made or found made, and where it had put no name
  made_gone : {a : Answer} {older : List Deed} → x ≡ lock_name → PutsNone p older
      → IsMeddledIn run p x (did (step.SyncFolder p) Gone ∷ (did (step.MakeFolder p) a ∷ older))
  -- the directory is gone that it had locked, as the run makes safe what it removed there
  removed_gone : {older : List Deed} → x ≡ lock_name → WasDone (step.Lock p) older → PutsBackups p older
      → IsMeddledIn run p x (did (step.SyncFolder p) Gone ∷ older)

-- the newest step was to lock or to list the place, and it isn't there
abbrev pub IsNotThere : Place → List Deed → Type 0
IsNotThere p own =
    (older : List Deed) × ((own ≡ did (step.Lock p) Gone ∷ older) ⊎ (own ≡ did (step.List p) Gone ∷ older))

-- the folder isn't there that the run had made or found made, as it locks or lists it
pub record IsGoneOnceMade (p : Place) (e : CommandFault) (own : List Deed) : Type 0 where
  pub is : e ≡ command.Meddled p lock_name
  pub gone : IsNotThere p own
  pub made : Once (λ d older. d.step ≡ step.MakeFolder p) own

-- what a command answers by the numbers of a folder's messages and the sequences as they are told: what it makes of
-- these sequences, and how it refuses its words
pub record Answering : Type 1 where
  pub makes : List Run → Marked → Marked → Type 0
  pub refuses : List Run → Marked → Refusal → Type 0

-- the run has the folder's lock, and under it listed the folder and read its sequences and then the context; by these
-- the command refuses its words so
pub record IsRefusedBy (run : ℕ) (path folder : List ℕ) (Answers : Answering) (r : Refusal)
    (own : List Deed) : Type 0 where
  pub listing : List Run
  pub text : List ℕ
  pub context : List ℕ
  pub seen : HaveSeen run (Folder path folder) (Mail path) listing text context own
  pub lock : HasLock (Folder path folder) own
  pub refuses : Answers.refuses listing (told_within listing text context folder) r

-- The run listed the folder, and read its text and then the context. Of the sequences that these tell of, without
-- numbers that have no message, or of those that the command makes of them, the text is too long, with this length; or
-- the text of the context is, with the entries of the private ones.
pub record IsLongMarks (run : ℕ) (path folder : List ℕ) (Answers : Answering) (l : ℕ) (own : List Deed) : Type 0 where
  pub listing : List Run
  pub text : List ℕ
  pub context : List ℕ
  pub seen : HaveSeen run (Folder path folder) (Mail path) listing text context own
  pub new : Marked
  pub made : (new ≡ told_within listing text context folder)
      ⊎ Answers.makes listing (told_within listing text context folder) new
  pub long :
      ((l ≡ length (text_of new)) × (nat_lt LIMIT_BYTES l ≡ true))
      ⊎ ((entries : List NamedValue)
      × IsLongText (Mail path) (changes_to (suffix folder) (private_entries (suffix folder) new.users) entries) l own)

-- the folder's text or the context was just read and is too long; or the text is that was to be written
abbrev pub IsTooLong : ℕ → List ℕ → List ℕ → Answering → ℕ → List Deed → Type 0
IsTooLong run path folder Answers l own =
    IsLongRead (Folder path folder) (entry_text Sequences) l own
    ⊎ (IsLongRead (Mail path) context_name l own
    ⊎ (IsLongMarks run path folder Answers l own
    ⊎ IsLongText (Mail path) (current_change folder) l own))

-- another run held the folder's lock, which was tried once, or that of the mail directory
abbrev pub IsHeldIn : List ℕ → List ℕ → Place → List Deed → Type 0
IsHeldIn path folder q own =
    ((q ≡ Folder path folder) × IsHeld (Folder path folder) 1 own) ⊎ ((q ≡ Mail path) × IsHeld (Mail path) TRIES own)

-- what shows each fault of a plan that begins a folder or works on one. Want of memory is free.
abbrev pub ShowsInFolder : ℕ → List ℕ → List ℕ → Answering → PlanFault → List Deed → Type 0
ShowsInFolder run path folder Answers fault.Faulted own = ⊥
ShowsInFolder run path folder Answers (fault.Locked q) own = IsHeldIn path folder q own
ShowsInFolder run path folder Answers (fault.Meddled q x) own = IsMeddledIn run q x own
ShowsInFolder run path folder Answers fault.Full own = ⊥
ShowsInFolder run path folder Answers (fault.Absent q) own =
    (q ≡ Folder path folder) × IsNotThere (Folder path folder) own
ShowsInFolder run path folder Answers (fault.TooLarge l) own = IsTooLong run path folder Answers l own
ShowsInFolder run path folder Answers fault.Memory own = Unit {0}

-- These deeds show it, and no step of them failed. Where the run then let a folder go that it had locked, that was its
-- last step, whatever it was answered.
pub data IsShownBy (S : List Deed → Type 0) : List Deed → Type 0 where
  at_once : {own : List Deed} → S own → (Made IsFailed own → ⊥) → IsShownBy S own
  let_go : {path folder : List ℕ} {a : Answer} {own : List Deed} → S own → (Made IsFailed own → ⊥)
      → WasDone (step.Lock (Folder path folder)) own
      → IsShownBy S (did (step.Unlock (Folder path folder)) a ∷ own)

-- what shows each refusal of a command on the folder; the others never come of it
abbrev pub ShowsRefused : ℕ → List ℕ → List ℕ → Answering → Refusal → List Deed → Type 0
ShowsRefused run path folder Answers (refusal.BadSwitch place why) own = ⊥
ShowsRefused run path folder Answers (refusal.BadFolder s) own = ⊥
ShowsRefused run path folder Answers (refusal.NoFolder s) own = (s ≡ folder) × IsNotThere (Folder path folder) own
ShowsRefused run path folder Answers (refusal.BadSpec s) own =
    IsRefusedBy run path folder Answers (refusal.BadSpec s) own
ShowsRefused run path folder Answers (refusal.Absent s) own =
    IsRefusedBy run path folder Answers (refusal.Absent s) own
ShowsRefused run path folder Answers (refusal.EmptyRange s) own =
    IsRefusedBy run path folder Answers (refusal.EmptyRange s) own
ShowsRefused run path folder Answers (refusal.EmptySequence s) own =
    IsRefusedBy run path folder Answers (refusal.EmptySequence s) own
ShowsRefused run path folder Answers (refusal.BadSequenceName s) own = ⊥
ShowsRefused run path folder Answers (refusal.BadFormat n) own = ⊥
ShowsRefused run path folder Answers (refusal.BadDate s) own = ⊥
ShowsRefused run path folder Answers (refusal.BadExpr n) own = ⊥
ShowsRefused run path folder Answers refusal.NoMatch own = ⊥
ShowsRefused run path folder Answers refusal.NoMail own = ⊥
ShowsRefused run path folder Answers refusal.NotADrop own = ⊥
ShowsRefused run path folder Answers (refusal.SameFolder s) own = ⊥
ShowsRefused run path folder Answers (refusal.Full s) own = ⊥
ShowsRefused run path folder Answers (refusal.BadDraft n) own = ⊥
ShowsRefused run path folder Answers (refusal.NoPart s) own = ⊥
ShowsRefused run path folder Answers (refusal.WouldReplace s) own = ⊥
ShowsRefused run path folder Answers (refusal.TooLarge l limit) own =
    (limit ≡ LIMIT_BYTES) × IsTooLong run path folder Answers l own
ShowsRefused run path folder Answers refusal.DropGrown own = ⊥
ShowsRefused run path folder Answers (refusal.NoFile name) own = ⊥
ShowsRefused run path folder Answers refusal.DropChanged own = ⊥

-- what shows each fault of a command on the folder, which never returns a fault of its surroundings. Want of memory is
-- free.
abbrev pub ShowsEnd : ℕ → List ℕ → List ℕ → Answering → CommandFault → List Deed → Type 0
ShowsEnd run path folder Answers (command.Refused r) own = ShowsRefused run path folder Answers r own
ShowsEnd run path folder Answers (command.Faulted which) own = ⊥
ShowsEnd run path folder Answers (command.Locked q) own = IsHeldIn path folder q own
ShowsEnd run path folder Answers (command.Meddled q x) own = IsMeddledIn run q x own
ShowsEnd run path folder Answers command.Memory own = Unit {0}

-- how a command ends by a fault that is shown so: at a refusal, and where another run has a lock, it may let its folder
-- go then
abbrev pub IsEndedBy : (CommandFault → List Deed → Type 0) → CommandFault → List Deed → Type 0
IsEndedBy S (command.Refused r) own = IsShownBy (S (command.Refused r)) own
IsEndedBy S (command.Faulted which) own = ⊥
IsEndedBy S (command.Locked q) own = IsShownBy (S (command.Locked q)) own
IsEndedBy S (command.Meddled q x) own = S (command.Meddled q x) own × (Made IsFailed own → ⊥)
IsEndedBy S command.Memory own = Unit {0}

-- nothing was said, or a front of a text that the deeds tell
abbrev pub IsToldBy : (List ℕ → List Deed → Type 0) → List ℕ → List Deed → Type 0
IsToldBy T said own = (said ≡ []) ⊎ ((text : List ℕ) × T text own × ((rest : List ℕ) × (said ++ rest ≡ text)))
