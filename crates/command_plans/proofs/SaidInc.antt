-- The folder of the job that the words of `inc` make is a folder's name, and a text.
use Rattle.std.proofs.Common.{◌≡◌, ℕ, true, List, [], Result, Ok, Err, refl, subst}
use Rattle.std.proofs.Math.Utf8.{scalars}
use Rattle.mh_base.specs.Folders.{is_folder_name}
use Rattle.mh_profile.specs.declared.named_value.NamedValue.{NamedValue}
use Rattle.step_plans.specs.declared.command_fault.CommandFault.{CommandFault}
use Rattle.look_words.specs.IncWords.{inc_said}
use Rattle.command_words.specs.declared.ended.Ended.{Ended}
use Rattle.look_words.specs.declared.inc.IncWords.{IncWords}
use Rattle.command_plans.specs.Incorporating.{IncAsked, job_by, job_looked, job_on, job_with, plain_job, unseen_of}
use Rattle.command_plans.specs.Looking.{Telling, telling_of}
use Rattle.command_plans.specs.Profile.{folder_of}
use Rattle.command_plans.specs.declared.caller.Caller.{Caller}
use Rattle.look_words.proofs.SaidSound.{IncValid, inc_sound}
use Rattle.command_words.proofs.Sound.{said_holds}
use Rattle.command_words.proofs.SaidFolder.{no_ok, ok_same}
use Rattle.command_plans.proofs.FolderChars.{AreTexts, acted_chars, inc_chars}
use Rattle.command_plans.proofs.SaidFolder.{acted_valid}

-- what holds of the folder that is acted on holds of the job's
module _ (caller : Caller) (profile : List NamedValue) (Holds : List ℕ → Type 0) where
  on_format : (words : IncWords) (names : List (List ℕ)) (folder : List ℕ) (r : Result Telling CommandFault) (job : IncAsked) → Holds folder → plain_job (job_looked caller profile words names folder r) ≡ Ok job → Holds job.folder
  on_format words names folder (Ok f) job holds e = subst (λ j. Holds j.folder) (ok_same _ job e) holds
  on_format words names folder (Err f) job holds e = no_ok _ job e

  on_folder : (words : IncWords) (names : List (List ℕ)) (r : Result (List ℕ) CommandFault) (job : IncAsked) → ((folder : List ℕ) → r ≡ Ok folder → Holds folder) → plain_job (job_on caller profile words names r) ≡ Ok job → Holds job.folder
  on_folder words names (Ok folder) job acted e = on_format words names folder (telling_of caller words.look) job (acted folder refl) e
  on_folder words names (Err f) job acted e = no_ok _ job e

  with_names : (words : IncWords) (r : Result (List (List ℕ)) CommandFault) (job : IncAsked) → ((folder : List ℕ) → folder_of words.folder [] profile ≡ Ok folder → Holds folder) → plain_job (job_with caller profile words r) ≡ Ok job → Holds job.folder
  with_names words (Ok names) job acted e = on_folder words names (folder_of words.folder [] profile) job acted e
  with_names words (Err f) job acted e = no_ok _ job e

  by_words : (r : Result IncWords Ended) (job : IncAsked) → ((words : IncWords) → r ≡ Ok words → (folder : List ℕ) → folder_of words.folder [] profile ≡ Ok folder → Holds folder) → job_by caller profile r ≡ Ok job → Holds job.folder
  by_words (Ok words) job acted e = with_names words (unseen_of profile) job (acted words refl) e
  by_words (Err f) job acted e = no_ok _ job e

module _ (caller : Caller) (profile : List NamedValue) where
  pub job_valid : (words : List (List ℕ)) (job : IncAsked) → job_by caller profile (inc_said profile words) ≡ Ok job → is_folder_name job.folder ≡ true
  job_valid words job e =
      by_words caller profile (λ folder. is_folder_name folder ≡ true) (inc_said profile words) job
      (λ said is folder acted. acted_valid said.folder [] profile folder (said_holds IncValid (inc_said profile words) said (inc_sound profile words) is) acted) e

  pub job_chars : (words : List (List ℕ)) (job : IncAsked) → AreTexts words → job_by caller profile (inc_said profile words) ≡ Ok job → scalars job.folder ≡ true
  job_chars words job texts e =
      by_words caller profile (λ folder. scalars folder ≡ true) (inc_said profile words) job (λ said is folder acted. acted_chars said.folder [] profile folder (inc_chars profile words said texts is) acted) e
