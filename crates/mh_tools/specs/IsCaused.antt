-- Where each answer of `mh` comes from.
use Rattle.std.specs.Prelude.{◌≡◌, ◌≢◌, ◌⊎◌, ℕ, true, List, [], Some, Ok}
use Rattle.mh_base.specs.Counts.{Rose}
use Rattle.mh_base.specs.Streams.{Adds}
use Rattle.folder_files.specs.Deeds.{Deed}
use Rattle.folder_files.specs.declared.place.Place.{Place}
use Rattle.folder_files.specs.declared.place.Place.TheVariants.{Mail}
use Rattle.folder_files.specs.declared.refusal.Refusal.{Refusal}
use Rattle.folder_files.specs.declared.refusal.Which.TheVariants.{Files, Source, Out}
use Rattle.file_plans.specs.Agreeing.{MailboxAgrees}
use Rattle.file_plans.specs.Mailboxes.{Mailbox}
use Rattle.file_plans.specs.Sightings.{Made, IsFailed}
use Rattle.step_plans.specs.ContextCommit.{TRIES}
use Rattle.step_plans.specs.Endings.{IsHeld, IsMeddled}
use Rattle.mhbuild_plans.specs.Heard.{Heard}
use Rattle.step_plans.specs.declared.command_fault.CommandFault.TheVariants as fault
use Rattle.opening_plans.specs.Endings.{IsShownBy, IsToldBy}
use Rattle.refile_plans.specs.RefileAnswers.{IsShownFirst}
use Rattle.command_ends.specs.BegunCauses.{ShowsFault, ShowsOnFolder, TellsOnFolder}
use Rattle.command_ends.specs.BuildCauses.{ShowsBuildFault, ShowsBuilt, TellsBuilt}
use Rattle.command_ends.specs.Causes.{ShowsRefusal}
use Rattle.command_plans.specs.CommandNames.{command_of, shows_ends}
use Rattle.command_ends.specs.WordCauses.{IsRefusedByWords}
use Rattle.command_plans.specs.declared.name.CommandName.TheVariants.{Refile}
use Rattle.mh_tools.specs.Calls.{Builds, Call, LooksOnly, MadeBy}
use Rattle.mh_tools.specs.TellsWhatItSaw.{outcome_on}
use Rattle.mh_tools.specs.declared.status.Status.TheVariants.{Done, Refused, Faulted, Locked, Meddled}
use Rattle.mh_tools.specs.Callers.{caller_of}

-- Of a command that only looks at a folder: a refusal comes only where what shows it was answered, and where no step
-- failed; a fault of the output only where there is a text to write. Locked comes only of a mail directory, after that
-- lock was held by another run 64 times. Meddled comes only where a directory was gone that the run had looked for,
-- made or locked, or a name that it had met, or where its fresh name was taken.
pub record IsShown (c : Call) (deeds : List Deed) : Type 0 where
  pub refused : (r : Refusal) → c.status ≡ Refused r
      → (IsRefusedByWords (caller_of c.setting) c.words (fault.Refused r) deeds ⊎ ShowsRefusal r deeds)
      × (Made IsFailed deeds → ⊥)
  pub out : c.status ≡ Faulted Out → (m : Mailbox) (heard : Heard) → MailboxAgrees m deeds
      → (outcome_on c m heard).output ≢ []
  pub locked : (place : Place) → c.status ≡ Locked place
      → ((mail : List ℕ) × (place ≡ Mail mail) × IsHeld place TRIES deeds) × (Made IsFailed deeds → ⊥)
  pub meddled : (place : Place) (name : List ℕ) → c.status ≡ Meddled place name
      → IsMeddled c.setting.run place name deeds × (Made IsFailed deeds → ⊥)

-- the words name a command that begins a folder, by its name at least, and never more than one (`refile`, which begins
-- several, is apart)
abbrev pub MayBegin : Call → Type 0
MayBegin c = shows_ends (command_of c.words) ≡ true

-- Of a command that may begin a folder: Done, a refusal, Locked and Meddled come only where what shows them was
-- answered; at Done this shows the output too. After a refusal and after Locked it may have let the folder go that it
-- had locked, as its last step. But for that step no step failed. However the command ends, the output gained nothing,
-- or a front of the text of what own steps show; and a fault of the output comes only where they show a text that is
-- not empty, as `rmm` never has.
pub record IsShownBegun (c : Call) (deeds : List Deed) : Type 0 where
  pub done : c.status ≡ Done
      → (said : List ℕ) × Adds c.before.out.told c.after.out.told said
      × ShowsOnFolder c.setting.run (caller_of c.setting) c.words (Ok said) deeds
  pub refused : (r : Refusal) → c.status ≡ Refused r
      → IsShownBy (ShowsFault c.setting.run (caller_of c.setting) c.words (fault.Refused r)) deeds
  pub locked : (place : Place) → c.status ≡ Locked place
      → IsShownBy (ShowsFault c.setting.run (caller_of c.setting) c.words (fault.Locked place)) deeds
  pub meddled : (place : Place) (name : List ℕ) → c.status ≡ Meddled place name
      → ShowsFault c.setting.run (caller_of c.setting) c.words (fault.Meddled place name) deeds
      × (Made IsFailed deeds → ⊥)
  pub told : (said : List ℕ) × Adds c.before.out.told c.after.out.told said
      × IsToldBy (TellsOnFolder c.setting.run (caller_of c.setting) c.words) said deeds
  pub out : c.status ≡ Faulted Out
      → (text : List ℕ) × TellsOnFolder c.setting.run (caller_of c.setting) c.words text deeds × (text ≢ [])

-- the words name `refile`, by its name at least
abbrev pub Refiles : Call → Type 0
Refiles c = command_of c.words ≡ Some Refile

-- Of `refile`: Done, a refusal, Locked and Meddled come only where what shows them was answered. After a refusal and
-- after Locked it may have let the folders go that it had locked, one after another, as its last steps. But for those
-- steps no step failed. However the command ends, the output gained nothing, and no fault of the output comes.
pub record IsShownRefiled (c : Call) (deeds : List Deed) : Type 0 where
  pub done : c.status ≡ Done → ShowsOnFolder c.setting.run (caller_of c.setting) c.words (Ok []) deeds
  pub refused : (r : Refusal) → c.status ≡ Refused r
      → IsShownFirst (ShowsFault c.setting.run (caller_of c.setting) c.words (fault.Refused r)) deeds
  pub locked : (place : Place) → c.status ≡ Locked place
      → IsShownFirst (ShowsFault c.setting.run (caller_of c.setting) c.words (fault.Locked place)) deeds
  pub meddled : (place : Place) (name : List ℕ) → c.status ≡ Meddled place name
      → ShowsFault c.setting.run (caller_of c.setting) c.words (fault.Meddled place name) deeds
      × (Made IsFailed deeds → ⊥)
  pub told : Adds c.before.out.told c.after.out.told []
  pub out : c.status ≢ Faulted Out

-- Of `mhbuild`: Done, a refusal and Meddled come only where what shows them was answered, and where no step failed; at
-- Done this shows the message too that was said. No place is locked. However the command ends, the output gained
-- nothing, or a front of the message of a draft that was the input; and a fault of the output comes only of such a one.
pub record IsShownBuilt (c : Call) (deeds : List Deed) : Type 0 where
  pub done : c.status ≡ Done
      → (said : List ℕ) × Adds c.before.out.told c.after.out.told said
      × ShowsBuilt c.setting.run c.words (Ok said) deeds
  pub refused : (r : Refusal) → c.status ≡ Refused r
      → ShowsBuildFault c.setting.run (caller_of c.setting) c.words (fault.Refused r) deeds × (Made IsFailed deeds → ⊥)
  pub unlocked : (place : Place) → c.status ≢ Locked place
  pub meddled : (place : Place) (name : List ℕ) → c.status ≡ Meddled place name
      → ShowsBuildFault c.setting.run (caller_of c.setting) c.words (fault.Meddled place name) deeds
      × (Made IsFailed deeds → ⊥)
  pub told : (said : List ℕ) × Adds c.before.out.told c.after.out.told said
      × IsToldBy (TellsBuilt c.setting.run c.words) said deeds
  pub out : c.status ≡ Faulted Out → (text : List ℕ) × TellsBuilt c.setting.run c.words text deeds × (text ≢ [])

-- Where each answer comes from, by the answers to the call's own steps. Done comes only where no step failed. A fault
-- comes only where the count of that which failed rose: of the files where a step failed; of the input only of the
-- command that reads it. Each refusal, Locked and Meddled come only where own steps show them; and so does Done of a
-- command that may begin a folder. A fault of the output comes only where there is a text to write. Want of memory
-- alone is free.
pub record IsCaused (c : Call) : Type 0 where
  pub deeds : List Deed
  pub made : MadeBy c deeds
  pub done : c.status ≡ Done → Made IsFailed deeds → ⊥
  pub files : c.status ≡ Faulted Files → Rose c.before.files.faults c.after.files.faults × Made IsFailed deeds
  pub source : c.status ≡ Faulted Source → Builds c × Rose c.before.input.faults c.after.input.faults
  pub out : c.status ≡ Faulted Out → Rose c.before.out.faults c.after.out.faults
  pub shown : LooksOnly c → IsShown c deeds
  pub begun : MayBegin c → IsShownBegun c deeds
  pub refiled : Refiles c → IsShownRefiled c deeds
  pub built : Builds c → IsShownBuilt c deeds
