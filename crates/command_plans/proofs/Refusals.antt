-- What words refuse is a refusal.
use Rattle.std.proofs.Common.{◌≡◌, ◌++◌, ℕ, Bool, true, false, List, [], ◌∷◌, Option, Some, None, Result, Ok, Err, inl, inr, length, refl, subst}
use Rattle.std.specs.Prelude.{codes, if◌then◌else◌}
use Rattle.mh_base.specs.Folders.{is_folder_name, without_plus}
use Rattle.mh_base.specs.declared.word.WordWhy.TheVariants.{Missing}
use Rattle.mh_profile.specs.declared.named_value.NamedValue.{NamedValue}
use Rattle.mh_words.specs.declared.item.Item.{Item}
use Rattle.folder_files.specs.declared.refusal.Refusal.TheVariants as refusal
use Rattle.step_plans.specs.declared.command_fault.CommandFault.{CommandFault}
use Rattle.step_plans.specs.declared.command_fault.CommandFault.TheVariants as fault
use Rattle.step_plans.proofs.Refusals.{IsRefusal}
use Rattle.look_words.specs.IncWords.{inc_said}
use Rattle.folder_words.specs.MarkWords.{mark_said}
use Rattle.folder_words.specs.RefileWords as refile_words
use Rattle.folder_words.specs.RefileWords.{refile_said}
use Rattle.folder_words.specs.RmmWords.{rmm_said}
use Rattle.look_words.specs.ScanWords.{scan_said}
use Rattle.folder_words.specs.TellWords.{tell_said}
use Rattle.command_words.specs.SequenceNames.{unless_wrong, wrong_names}
use Rattle.folder_words.specs.Tables.{refile_table}
use Rattle.command_words.specs.Words.{profile_words}
use Rattle.command_words.specs.declared.ended.Ended.{Ended}
use Rattle.look_words.specs.declared.inc.IncWords.{IncWords}
use Rattle.folder_words.specs.declared.refile.RefileWords.{RefileWords}
use Rattle.look_words.specs.declared.scan.ScanWords.{ScanWords}
use Rattle.message_lines.specs.Finding.{LIMIT_FORMAT}
use Rattle.look_words.proofs.SaidSound.{IncValid, ScanValid, inc_sound, scan_sound}
use Rattle.folder_words.proofs.SaidSound.{MarkValid, RmmValid, TellValid, mark_sound, rmm_sound, tell_sound}
use Rattle.command_words.proofs.Sound.{IsSound, said_refuses, words_sound}
use Rattle.command_plans.specs.Incorporating.{IncAsked, job_by, job_looked, job_on, job_with, plain_job}
use Rattle.command_plans.specs.Looking.{asked_by, ScanAsked, scan_asked, sight_by, Telling, telling_of}
use Rattle.command_plans.proofs.FormatRefuses.{format_refuses, IsFormatRefusal}
use Rattle.command_plans.specs.Profile.{folder_of, stored_of}
use Rattle.command_plans.specs.declared.caller.Caller.{Caller}

-- and of the format that they name
format_refusal : (e : CommandFault) → IsFormatRefusal e → IsRefusal e
format_refusal e (inl is) = (refusal.BadFormat is.0, is.1)
format_refusal e (inr is) = (refusal.TooLarge is.0 LIMIT_FORMAT, is.1)

abbrev AskedRefuses : Result ScanAsked Ended → Type 0
AskedRefuses (Ok asked) = Unit {0}
AskedRefuses (Err e) = IsRefusal e.fault

format_asked : (caller : Caller) (said : ScanWords) (r : Result Telling CommandFault) → telling_of caller said.look ≡ r → AskedRefuses (asked_by said r)
format_asked caller said (Ok t) is = tt
format_asked caller said (Err e) is = format_refusal e (format_refuses (sight_by caller said.look) said.look.format e is)

words_asked : (caller : Caller) (r : Result ScanWords Ended) → ((e : Ended) → r ≡ Err e → IsRefusal e.fault) → AskedRefuses (scan_asked caller r)
words_asked caller (Ok said) f = format_asked caller said (telling_of caller said.look) refl
words_asked caller (Err e) f = f e refl

pub asked_refuses : (caller : Caller) (profile : List NamedValue) (words : List (List ℕ)) (e : Ended) → scan_asked caller (scan_said profile words) ≡ Err e → IsRefusal e.fault
asked_refuses caller profile words e is = subst AskedRefuses is (words_asked caller (scan_said profile words) (λ x same. said_refuses ScanValid (scan_said profile words) x (scan_sound profile words) same))

-- the words of `mark`
pub mark_refuses : (profile : List NamedValue) (words : List (List ℕ)) (e : Ended) → mark_said profile words ≡ Err e → IsRefusal e.fault
mark_refuses profile words e is = said_refuses MarkValid (mark_said profile words) e (mark_sound profile words) is

-- the words of `rmm`
pub rmm_refuses : (profile : List NamedValue) (words : List (List ℕ)) (e : Ended) → rmm_said profile words ≡ Err e → IsRefusal e.fault
rmm_refuses profile words e is = said_refuses RmmValid (rmm_said profile words) e (rmm_sound profile words) is

-- the words of `folder`
pub tell_refuses : (profile : List NamedValue) (words : List (List ℕ)) (e : Ended) → tell_said profile words ≡ Err e → IsRefusal e.fault
tell_refuses profile words e is = said_refuses TellValid (tell_said profile words) e (tell_sound profile words) is

-- the words of `refile`
abbrev AnyRefile : RefileWords → Type 0
AnyRefile said = Unit {0}

refile_wrong_sound : (said : RefileWords) (wrong : List (List ℕ)) → IsSound AnyRefile (refile_words.unless_wrong said wrong)
refile_wrong_sound said [] = tt
refile_wrong_sound said (word ∷ words) = (refusal.BadFolder word, refl)

refile_targets_sound : (words : List (List ℕ)) (items : List Item) (names : List (List ℕ)) → IsSound AnyRefile (refile_words.targets_said words items names)
refile_targets_sound words items [] = (refusal.BadSwitch (length words) Missing, refl)
refile_targets_sound words items (target ∷ others) = refile_wrong_sound _ (refile_words.wrong_names items)

pub refile_refuses : (profile : List NamedValue) (words : List (List ℕ)) (e : Ended) → refile_said profile words ≡ Err e → IsRefusal e.fault
refile_refuses profile words e is =
    said_refuses AnyRefile (refile_said profile words) e
    (words_sound AnyRefile refile_words.refile_items refile_table (profile_words (codes "refile") profile ++ words) (λ items. refile_targets_sound (profile_words (codes "refile") profile ++ words) items (refile_words.targets items))) is

-- the folder that is acted on
pub folder_refuses : (said : Option (List ℕ)) (context profile : List NamedValue) (e : CommandFault) → folder_of said context profile ≡ Err e → IsRefusal e
folder_refuses (Some name) context profile e is = cc
folder_refuses None context profile e is = go (stored_of context profile) (is_folder_name (without_plus (stored_of context profile))) is
  where
    go : (word : List ℕ) (b : Bool) → (if b then Ok (without_plus word) else Err (fault.Refused (refusal.BadFolder word))) ≡ Err e → IsRefusal e
    go word true is = cc
    go word false is = (refusal.BadFolder word, cc (is))

-- the job of `inc`
abbrev JobRefuses : Result IncAsked Ended → Type 0
JobRefuses (Ok job) = Unit {0}
JobRefuses (Err e) = IsRefusal e.fault

module _ (caller : Caller) (profile : List NamedValue) where
  format_on : (words : IncWords) (names : List (List ℕ)) (folder : List ℕ) (r : Result Telling CommandFault) → telling_of caller words.look ≡ r → JobRefuses (plain_job (job_looked caller profile words names folder r))
  format_on words names folder (Ok t) is = tt
  format_on words names folder (Err e) is = format_refusal e (format_refuses (sight_by caller words.look) words.look.format e is)

  folder_on : (words : IncWords) (names : List (List ℕ)) (r : Result (List ℕ) CommandFault) → folder_of words.folder [] profile ≡ r → JobRefuses (plain_job (job_on caller profile words names r))
  folder_on words names (Ok folder) is = format_on words names folder (telling_of caller words.look) refl
  folder_on words names (Err e) is = folder_refuses words.folder [] profile e is

  names_on : (words : IncWords) (names wrong : List (List ℕ)) → JobRefuses (plain_job (job_with caller profile words (unless_wrong names wrong)))
  names_on words names [] = folder_on words names (folder_of words.folder [] profile) refl
  names_on words names (word ∷ wrong) = (refusal.BadSequenceName word, refl)

  job_refuses_by : (r : Result IncWords Ended) → ((x : Ended) → r ≡ Err x → IsRefusal x.fault) → JobRefuses (job_by caller profile r)
  job_refuses_by (Ok words) f = let names = profile_words (codes "Unseen-Sequence") profile in names_on words names (wrong_names names)
  job_refuses_by (Err e) f = f e refl

  pub job_refuses : (words : List (List ℕ)) (e : Ended) → job_by caller profile (inc_said profile words) ≡ Err e → IsRefusal e.fault
  job_refuses words e is = subst JobRefuses is (job_refuses_by (inc_said profile words) (λ x same. said_refuses IncValid (inc_said profile words) x (inc_sound profile words) same))
