-- How the words of a call are refused, and what shows it.
use Rattle.std.specs.Prelude.{◌≡◌, ℕ, List, [], ◌∷◌, map, Option, None, Some, Result, Ok, Err}
use Rattle.std.specs.Str.{chars}
use Rattle.mh_profile.specs.declared.named_value.NamedValue.{NamedValue}
use Rattle.folder_files.specs.Deeds.{Deed, did}
use Rattle.folder_files.specs.declared.place.FilePath.{FilePath}
use Rattle.folder_files.specs.declared.place.Place.TheVariants.{Home, Mail}
use Rattle.folder_files.specs.declared.step.Answer.{Answer}
use Rattle.folder_files.specs.declared.step.Step.TheVariants.{Read, ReadFile}
use Rattle.file_plans.specs.Asking.{reading_of}
use Rattle.step_plans.specs.ContextCommit.{LIMIT_BYTES, context_name}
use Rattle.step_plans.specs.declared.command_fault.CommandFault.{CommandFault}
use Rattle.message_lines.specs.Finding.{LIMIT_FORMAT, format_by}
use Rattle.look_words.specs.IncWords.{inc_said}
use Rattle.folder_words.specs.MarkWords.{mark_said}
use Rattle.folder_words.specs.RefileWords.{refile_said}
use Rattle.folder_words.specs.RmmWords.{rmm_said}
use Rattle.look_words.specs.ScanWords.{scan_said}
use Rattle.folder_words.specs.TellWords.{tell_said}
use Rattle.command_words.specs.declared.ended.Ended.{Ended}
use Rattle.sort_words.specs.SortWords.{sort_said}
use Rattle.list_words.specs.ListWords.{list_said}
use Rattle.build_words.specs.BuildWords.{build_said}
use Rattle.store_words.specs.StoreWords.{store_said}
use Rattle.command_plans.specs.Command.{annotated_by, no_command, picked_by}
use Rattle.command_plans.specs.CommandNames.{named}
use Rattle.command_plans.specs.Incorporating.{job_by}
use Rattle.command_plans.specs.Looking.{InFile, Known, Telling, scan_asked}
use Rattle.command_plans.specs.Profile.{entries_by, path_by, profile_name}
use Rattle.command_plans.specs.declared.caller.Caller.{Caller}
use Rattle.command_plans.specs.declared.name.CommandName.{CommandName}
use Rattle.command_plans.specs.declared.name.CommandName.TheVariants.{Anno, Folder as FolderCommand, Inc, Mark, Mhbuild, Mhlist, Mhstore, Pick, Refile, Rmm, Scan, Sortm}

-- the words are not refused, and this holds of what they say
abbrev pub OfSaid : {W : Type 0} → Result W Ended → (W → Type 0) → Type 0
OfSaid (Ok said) so = so said
OfSaid (Err x) so = ⊥

-- the words of a call name this command, and this holds of those behind its name
abbrev pub AreWordsOf : CommandName → (List (List ℕ) → Type 0) → List (List ℕ) → Type 0
AreWordsOf name so [] = ⊥
AreWordsOf name so (word ∷ words) = (named word ≡ Some name) × so (map chars words)

-- the refusal, where there is one
abbrev pub refusal_in : {A : Type 0} → Result A Ended → Option CommandFault
refusal_in (Ok said) = None
refusal_in (Err e) = Some e.fault

-- that of the words behind a command's name, by the entries of the profile and by who calls: a word, the name of a
-- folder, of a sequence or of a field, a format, a date or an expression is wrong, or the command lacks one
abbrev pub named_refusal : Caller → List NamedValue → List (List ℕ) → Option CommandName → Option CommandFault
named_refusal caller profile words None = Some (no_command None).fault
named_refusal caller profile words (Some Inc) = refusal_in (job_by caller profile (inc_said profile (map chars words)))
named_refusal caller profile words (Some Scan) = refusal_in (scan_asked caller (scan_said profile (map chars words)))
named_refusal caller profile words (Some Mark) = refusal_in (mark_said profile (map chars words))
named_refusal caller profile words (Some Pick) = refusal_in (picked_by caller profile (map chars words))
named_refusal caller profile words (Some Refile) = refusal_in (refile_said profile (map chars words))
named_refusal caller profile words (Some Rmm) = refusal_in (rmm_said profile (map chars words))
named_refusal caller profile words (Some FolderCommand) = refusal_in (tell_said profile (map chars words))
named_refusal caller profile words (Some Anno) = refusal_in (annotated_by caller profile (map chars words))
named_refusal caller profile words (Some Sortm) = refusal_in (sort_said profile (map chars words))
named_refusal caller profile words (Some Mhlist) = refusal_in (list_said profile (map chars words))
named_refusal caller profile words (Some Mhstore) = refusal_in (store_said profile (map chars words))
named_refusal caller profile words (Some Mhbuild) = refusal_in (build_said profile (map chars words))

-- that of all words of a call
abbrev pub words_refusal : Caller → List NamedValue → List (List ℕ) → Option CommandFault
words_refusal caller profile [] = Some (no_command None).fault
words_refusal caller profile (word ∷ words) = named_refusal caller profile words (named word)

-- the file of a format, where it is in one
abbrev pub file_in : Telling → Option FilePath
file_in (Known spoken) = None
file_in (InFile path sight) = Some path

-- that of what is asked, where the words are not refused
abbrev pub asked_file : {A : Type 0} → Result A Ended → (A → Telling) → Option FilePath
asked_file (Ok asked) telling = file_in (telling asked)
asked_file (Err e) telling = None

-- the one that the words behind a command's name name
abbrev pub named_file : Caller → List NamedValue → List (List ℕ) → Option CommandName → Option FilePath
named_file caller profile words (Some Inc) =
    asked_file (job_by caller profile (inc_said profile (map chars words))) (λ asked. asked.telling)
named_file caller profile words (Some Scan) =
    asked_file (scan_asked caller (scan_said profile (map chars words))) (λ asked. asked.telling)
named_file caller profile words other = None

abbrev pub words_file : Caller → List NamedValue → List (List ℕ) → Option FilePath
words_file caller profile [] = None
words_file caller profile (word ∷ words) = named_file caller profile words (named word)

-- the profile was read, and that is all; by its entries the words are refused so. Or then the context was read, and
-- last the file of the format that the words name; it isn't there, is too long, or has no format, and is refused so.
pub data IsRefusedByWords (caller : Caller) (words : List (List ℕ)) : CommandFault → List Deed → Type 0 where
  by_words : {a : Answer} {e : CommandFault} → words_refusal caller (entries_by a) words ≡ Some e
      → IsRefusedByWords caller words e (did (Read Home profile_name LIMIT_BYTES) a ∷ [])
  by_format : {a b c : Answer} {path : FilePath} {e : CommandFault} → words_file caller (entries_by a) words ≡ Some path
      → format_by path (reading_of c) ≡ Err e
      → IsRefusedByWords caller words e
      (did (ReadFile path LIMIT_FORMAT) c
      ∷ (did (Read (Mail (path_by a)) context_name LIMIT_BYTES) b
      ∷ (did (Read Home profile_name LIMIT_BYTES) a ∷ [])))
