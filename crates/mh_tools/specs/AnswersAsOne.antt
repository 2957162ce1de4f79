-- What a call answers to whose steps the answers are those of one mailbox, whatever other runs did meanwhile.
use Rattle.std.specs.Prelude.{◌≡◌, ◌≢◌, ℕ, List}
use Rattle.mh_base.specs.Streams.{AddsPart}
use Rattle.folder_files.specs.Deeds.{Deed}
use Rattle.folder_files.specs.declared.place.Place.{Place}
use Rattle.file_plans.specs.Agreeing.{FitPast}
use Rattle.file_plans.specs.Contents.{Contents, by_contents, mailbox_in}
use Rattle.file_plans.specs.Mailboxes.{Mailbox}
use Rattle.opening_plans.specs.Making.{IsBare}
use Rattle.mh_tools.specs.AnswersAlone.{ByHeard, HasOutcome}
use Rattle.mhstore_plans.specs.ClearWork.{HasClearWork}
use Rattle.mh_tools.specs.Calls.{Call, MadeBy, MakesFolder, StoresFiles}
use Rattle.mh_tools.specs.Status.{IsVerdict}
use Rattle.mh_tools.specs.TellsWhatItSaw.{outcome_on}
use Rattle.mh_tools.specs.declared.status.Status.TheVariants.{Locked, Meddled}

-- Each of these steps that did not fail was answered as this mailbox answers it to a call that runs alone, after what
-- the steps before it made of it; all of them made it the second one. Where the call makes its folder, one that is
-- missing there is empty once it is made; and where it makes files in the current directory, that is there, and no file
-- of it has a temporary name of the run.
pub record AreAnsweredBy (c : Call) (before after : Mailbox) (deeds : List Deed) : Type 0 where
  pub contents : Contents
  pub shown : mailbox_in contents ≡ before
  pub left : Contents
  pub made : mailbox_in left ≡ after
  pub answers : FitPast by_contents contents deeds left
  pub bare : MakesFolder c → IsBare contents
  pub clear : StoresFiles c → HasClearWork c.setting.run contents

-- Where one mailbox answers all own steps of the call so: the output gained a prefix of what the call answers on it
-- alone by what it heard. Done and a refusal are the ones that it answers there, with the whole output, the error line,
-- and the mailbox that its own steps made. Neither is another run's lock answered, nor a name that was changed
-- meanwhile.
pub record AnswersAsOne (c : Call) : Type 0 where
  pub deeds : List Deed
  pub made : MadeBy c deeds
  pub prefix : (m n : Mailbox) → AreAnsweredBy c m n deeds
      → ByHeard c (λ heard. AddsPart c.before.out.told c.after.out.told (outcome_on c m heard).output)
  pub verdict : (m n : Mailbox) → AreAnsweredBy c m n deeds → IsVerdict c.status
      → ByHeard c (λ heard. HasOutcome (outcome_on c m heard) n c)
  pub unlocked : (m n : Mailbox) → AreAnsweredBy c m n deeds → (place : Place) → c.status ≢ Locked place
  pub unmeddled : (m n : Mailbox) → AreAnsweredBy c m n deeds → (place : Place) (name : List ℕ)
      → c.status ≢ Meddled place name
