-- The folder that words and context name is a folder's name.
use Rattle.std.proofs.Common.{◌≡◌, ◌++◌, ℕ, true, List, Option, None, Some, Result, Ok, Err, refl, subst}
use Rattle.std.specs.Prelude.{codes}
use Rattle.mh_words.specs.Whole.{Wrong, read_in}
use Rattle.mh_words.specs.declared.item.Item.{Item}
use Rattle.mh_base.specs.Folders.{is_folder_name}
use Rattle.mh_profile.specs.declared.named_value.NamedValue.{NamedValue}
use Rattle.step_plans.specs.declared.command_fault.CommandFault.{CommandFault}
use Rattle.folder_words.specs.MarkWords.{mark_said}
use Rattle.folder_words.specs.RefileWords.{refile_items, refile_said}
use Rattle.folder_words.specs.RmmWords.{rmm_said}
use Rattle.command_words.specs.Saying.{said_unless_wrong}
use Rattle.look_words.specs.ScanWords.{scan_said}
use Rattle.folder_words.specs.TellWords.{tell_said}
use Rattle.folder_words.specs.Tables.{refile_table}
use Rattle.command_words.specs.Words.{profile_words}
use Rattle.command_words.specs.declared.ended.Ended.{Ended}
use Rattle.folder_words.specs.declared.folder.FolderWords.{FolderWords}
use Rattle.folder_words.specs.declared.mark.MarkWords.{MarkWords}
use Rattle.folder_words.specs.declared.refile.RefileWords.{RefileWords}
use Rattle.folder_words.specs.declared.rmm.RmmWords.{RmmWords}
use Rattle.look_words.specs.declared.scan.ScanWords.{ScanWords}
use Rattle.command_plans.specs.Looking.{asked_by, ScanAsked, scan_asked, Telling, telling_of}
use Rattle.command_plans.specs.Profile.{folder_of, stored_of}
use Rattle.command_plans.specs.declared.caller.Caller.{Caller}
use Rattle.command_words.proofs.SaidFolder.{IsValid, named_valid, no_ok, ok_same}
use Rattle.folder_words.proofs.SaidRefileFolders.{NamesFolders, items_valid}
use Rattle.folder_words.proofs.SaidSound.{MarkValid, RmmValid, TellValid, mark_sound, rmm_sound, tell_sound}
use Rattle.look_words.proofs.SaidSound.{ScanValid, scan_sound}
use Rattle.command_words.proofs.Sound.{said_holds}

-- the folder acted on
pub acted_valid : (said : Option (List ℕ)) (context profile : List NamedValue) (folder : List ℕ) → IsValid said → folder_of said context profile ≡ Ok folder → is_folder_name folder ≡ true
acted_valid None context profile folder valid e = named_valid (stored_of context profile) folder e
acted_valid (Some name) context profile folder valid e = subst (λ z. is_folder_name z ≡ true) (ok_same {E = CommandFault} name folder e) valid

-- the folder of the words of `scan`
scan_valid : (profile : List NamedValue) (words : List (List ℕ)) (said : ScanWords) → scan_said profile words ≡ Ok said → IsValid said.folder
scan_valid profile words said e = said_holds ScanValid (scan_said profile words) said (scan_sound profile words) e

-- with the format that they name
asked_on : (said : ScanWords) (r : Result Telling CommandFault) (asked : ScanAsked) → IsValid said.folder → asked_by said r ≡ Ok asked → IsValid asked.folder
asked_on said (Ok t) asked valid e = subst (λ z. IsValid z.folder) (ok_same _ asked e) valid
asked_on said (Err x) asked valid e = no_ok _ asked e

asked_so : (caller : Caller) (r : Result ScanWords Ended) (asked : ScanAsked) → ((said : ScanWords) → r ≡ Ok said → IsValid said.folder) → scan_asked caller r ≡ Ok asked → IsValid asked.folder
asked_so caller (Ok said) asked valid e = asked_on said (telling_of caller said.look) asked (valid said refl) e
asked_so caller (Err x) asked valid e = no_ok _ asked e

pub asked_valid : (caller : Caller) (profile : List NamedValue) (words : List (List ℕ)) (asked : ScanAsked) → scan_asked caller (scan_said profile words) ≡ Ok asked → IsValid asked.folder
asked_valid caller profile words asked e = asked_so caller (scan_said profile words) asked (λ said is. scan_valid profile words said is) e

-- the folder of the words of `rmm`
pub rmm_words_valid : (profile : List NamedValue) (words : List (List ℕ)) (said : RmmWords) → rmm_said profile words ≡ Ok said → IsValid said.folder
rmm_words_valid profile words said e = said_holds RmmValid (rmm_said profile words) said (rmm_sound profile words) e

-- the folder of the words of `folder`
pub tell_words_valid : (profile : List NamedValue) (words : List (List ℕ)) (said : FolderWords) → tell_said profile words ≡ Ok said → IsValid said.folder
tell_words_valid profile words said e = said_holds TellValid (tell_said profile words) said (tell_sound profile words) e

-- the folders of the words of `refile`
abbrev RefileValid : Result RefileWords Ended → Type 0
RefileValid (Ok said) = NamesFolders said
RefileValid (Err e) = Unit {0}

refile_items_valid : (words : List (List ℕ)) (r : Result (List Item) Wrong) → RefileValid (said_unless_wrong (refile_items words) words r)
refile_items_valid words (Ok items) = go (refile_items words items) refl
  where
    go : (r : Result RefileWords Ended) → refile_items words items ≡ r → RefileValid r
    go (Ok said) e = items_valid words items said e
    go (Err x) e = tt
refile_items_valid words (Err wrong) = tt

pub refile_words_valid : (profile : List NamedValue) (words : List (List ℕ)) (said : RefileWords) → refile_said profile words ≡ Ok said → NamesFolders said
refile_words_valid profile words said e = subst RefileValid e (refile_items_valid (profile_words (codes "refile") profile ++ words) (read_in refile_table 0 (profile_words (codes "refile") profile ++ words)))

-- that of the words of `mark`
pub mark_valid : (profile : List NamedValue) (words : List (List ℕ)) (said : MarkWords) → mark_said profile words ≡ Ok said → IsValid said.folder
mark_valid profile words said e = said_holds MarkValid (mark_said profile words) said (mark_sound profile words) e
