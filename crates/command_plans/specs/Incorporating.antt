-- What `inc` is to do, by the profile, who calls and the words.
use Rattle.std.specs.Prelude.{◌++◌, codes, ℕ, Bool, true, List, [], Option, None, Some, Result, Ok, Err}
use Rattle.std.specs.Str.{encode_utf8_all}
use Rattle.mh_profile.specs.declared.named_value.NamedValue.{NamedValue}
use Rattle.mh_profile.specs.Changes.{value_of}
use Rattle.folder_files.specs.declared.place.FilePath.{FilePath}
use Rattle.step_plans.specs.declared.command_fault.CommandFault.{CommandFault}
use Rattle.message_lines.specs.MessageText.{Writing}
use Rattle.message_lines.specs.declared.standing.Standing.{Standing}
use Rattle.inc_plans.specs.IncJob.{IncJob}
use Rattle.command_words.specs.Ended.{plain}
use Rattle.command_words.specs.SequenceNames.{named_sequences}
use Rattle.command_words.specs.Words.{profile_words}
use Rattle.command_words.specs.declared.ended.Ended.{Ended}
use Rattle.look_words.specs.declared.inc.IncWords.{IncWords}
use Rattle.command_plans.specs.Looking.{Telling, below_work, telling_of}
use Rattle.command_plans.specs.Profile.{folder_of}
use Rattle.command_plans.specs.declared.caller.Caller.{Caller}

-- a file below home
abbrev pub below_home : List ℕ → FilePath
below_home path = record { home = true; text = path }

-- the drop of which words say nothing: the profile's, or the one in which the system delivers to this user
abbrev pub delivered : List ℕ → Option (List ℕ) → FilePath
delivered user (Some path) = below_home path
delivered user None = below_home (codes "/var/mail/" ++ encode_utf8_all user)

abbrev pub drop_of : List ℕ → List NamedValue → Option (List ℕ) → FilePath
drop_of user profile (Some file) = below_work (encode_utf8_all file)
drop_of user profile None = delivered user (value_of (codes "MailDrop") profile)

-- the sequences to which new messages come
abbrev pub unseen_of : List NamedValue → Result (List (List ℕ)) CommandFault
unseen_of profile = named_sequences (profile_words (codes "Unseen-Sequence") profile)

-- what `inc` is to do, before the file is read of a format that is in one
pub record IncAsked : Type 0 where
  pub folder : List ℕ
  pub drop : FilePath
  pub truncate : Bool
  pub silent : Bool
  pub change_cur : Bool
  pub unseen : List (List ℕ)
  pub telling : Telling

-- and with what is written of messages
abbrev pub job_writing : IncAsked → (Standing → Writing) → IncJob
job_writing asked spoken = record {
  folder = asked.folder;
  drop = asked.drop;
  truncate = asked.truncate;
  silent = asked.silent;
  change_cur = asked.change_cur;
  unseen = asked.unseen;
  spoken = spoken;
}

-- what is to be done, or the refusal of the format of a word
abbrev pub job_looked : Caller → List NamedValue → IncWords → List (List ℕ) → List ℕ → Result Telling CommandFault
    → Result IncAsked CommandFault
job_looked caller profile words unseen folder (Ok t) = Ok (record {
  folder = folder;
  drop = drop_of caller.user profile words.file;
  truncate = words.truncate;
  silent = words.silent;
  change_cur = words.change_cur;
  unseen = unseen;
  telling = t;
})
job_looked caller profile words unseen folder (Err e) = Err e

-- by the format that the words name
abbrev pub job_on : Caller → List NamedValue → IncWords → List (List ℕ) → Result (List ℕ) CommandFault
    → Result IncAsked CommandFault
job_on caller profile words unseen (Ok folder) =
    job_looked caller profile words unseen folder (telling_of caller words.look)
job_on caller profile words unseen (Err e) = Err e

-- its folder is the one of the words, or else the profile's, whatever the context says
abbrev pub job_with : Caller → List NamedValue → IncWords → Result (List (List ℕ)) CommandFault
    → Result IncAsked CommandFault
job_with caller profile words (Ok unseen) = job_on caller profile words unseen (folder_of words.folder [] profile)
job_with caller profile words (Err e) = Err e

abbrev pub inc_job : Caller → List NamedValue → IncWords → Result IncAsked CommandFault
inc_job caller profile words = job_with caller profile words (unseen_of profile)

abbrev pub plain_job : Result IncAsked CommandFault → Result IncAsked Ended
plain_job (Ok job) = Ok job
plain_job (Err e) = Err (plain e)

-- the job that the words and the profile make, or the refusal: of a word before that of a sequence's name in the
-- profile, and that before the profile's folder, and that before the format of a word
abbrev pub job_by : Caller → List NamedValue → Result IncWords Ended → Result IncAsked Ended
job_by caller profile (Ok words) = plain_job (inc_job caller profile words)
job_by caller profile (Err e) = Err e
