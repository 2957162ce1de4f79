-- What shows that something which a draft wants is not given, by the answers to a run's own steps.
use Rattle.std.specs.Prelude.{◌≡◌, ◌⊎◌, ◌++◌, ℕ, List, ◌∷◌, Ok, Err}
use Rattle.mh_base.specs.Entries.{entry_text}
use Rattle.mh_base.specs.declared.entry.Entry.TheVariants.{Number, Sequences}
use Rattle.mh_profile.specs.declared.named_value.NamedValue.{NamedValue}
use Rattle.folder_files.specs.Deeds.{Deed, did}
use Rattle.folder_files.specs.declared.place.FilePath.{FilePath}
use Rattle.folder_files.specs.declared.place.Place.{Place}
use Rattle.folder_files.specs.declared.place.Place.TheVariants.{Folder}
use Rattle.folder_files.specs.declared.refusal.Refusal.{Refusal}
use Rattle.folder_files.specs.declared.refusal.Refusal.TheVariants as refusal
use Rattle.folder_files.specs.declared.step.Answer.TheVariants.{Gone, Long, Names}
use Rattle.folder_files.specs.declared.step.Step.TheVariants.{List as Lists, Read, ReadFile}
use Rattle.step_plans.specs.ContextCommit.{LIMIT_BYTES}
use Rattle.step_plans.specs.Endings.{HasMet}
use Rattle.step_plans.specs.declared.command_fault.CommandFault.{CommandFault}
use Rattle.step_plans.specs.declared.command_fault.CommandFault.TheVariants as fault
use Rattle.command_stages.specs.Texts.{too_large}
use Rattle.opening_plans.specs.Reads.{TellsText}
use Rattle.mh_drafts.specs.declared.want.Want.{Want}
use Rattle.mh_drafts.specs.declared.want.Want.TheVariants as want
use Rattle.mhbuild_compose.specs.declared.given.Given.{Given}
use Rattle.draft_files.specs.Drafts.{no_file}
use Rattle.draft_contents.specs.Forwards.{chosen_seen, folder_named, folder_word, specs_or_current}
use Rattle.draft_contents.specs.Shown.{AreGiven}
use Rattle.draft_contents.specs.declared.forwarding.Forwarding.{Forwarding}

-- the newest step read the file: it isn't there, or it is too long
pub data FileIsNotGiven (file : FilePath) : CommandFault → List Deed → Type 0 where
  not_there : {older : List Deed} → FileIsNotGiven file (no_file file) (did (ReadFile file LIMIT_BYTES) Gone ∷ older)
  too_long : {l : ℕ} {older : List Deed}
      → FileIsNotGiven file (too_large l) (did (ReadFile file LIMIT_BYTES) (Long l) ∷ older)

-- the newest two steps listed the folder and read its sequences; by these, and by the entries of the context that were
-- read before, the words are refused so
pub record IsRefusedByWords (negation folder : List ℕ) (specs : List (List ℕ)) (entries : List NamedValue)
    (place : Place) (r : Refusal) (own : List Deed)
    : Type 0 where
  pub names : List (List ℕ)
  pub text : List ℕ
  pub reading : Deed
  pub older : List Deed
  pub newest : own ≡ reading ∷ did (Lists place) (Names names) ∷ older
  pub told : TellsText place (entry_text Sequences) text reading
  pub refuses : chosen_seen negation folder specs names text entries ≡ Err (fault.Refused r)

-- The folder isn't there; or its words are refused by what it has; or the newest step read its sequences or a message
-- of it, which is too long; or it read a message that it had listed, and others have taken it away.
pub data MessagesAreNotGiven (negation folder : List ℕ) (specs : List (List ℕ)) (entries : List NamedValue)
    (place : Place)
    : CommandFault → List Deed → Type 0 where
  no_folder : {older : List Deed}
      → MessagesAreNotGiven negation folder specs entries place (fault.Refused (refusal.NoFolder folder))
      (did (Lists place) Gone ∷ older)
  by_words : {r : Refusal} {own : List Deed} → IsRefusedByWords negation folder specs entries place r own
      → MessagesAreNotGiven negation folder specs entries place (fault.Refused r) own
  long_file : {name : List ℕ} {l : ℕ} {older : List Deed}
      → MessagesAreNotGiven negation folder specs entries place (too_large l)
      (did (Read place name LIMIT_BYTES) (Long l) ∷ older)
  taken_away : {older : List Deed} → (n : ℕ) → HasMet place (entry_text (Number n)) older
      → MessagesAreNotGiven negation folder specs entries place (fault.Meddled place (entry_text (Number n)))
      (did (Read place (entry_text (Number n)) LIMIT_BYTES) Gone ∷ older)

-- a word that names no folder is refused, or the messages of the folder that it names are not given
abbrev pub WantIsNotGiven : List ℕ → Forwarding → List NamedValue → Want → CommandFault → List Deed → Type 0
WantIsNotGiven path f entries (want.File file) e own = FileIsNotGiven file e own
WantIsNotGiven path f entries (want.Messages word specs) e own =
    (folder_named (folder_word f word) ≡ Err e)
    ⊎ ((folder : List ℕ) × (folder_named (folder_word f word) ≡ Ok folder)
    × MessagesAreNotGiven f.negation folder (specs_or_current specs) entries (Folder path folder) e own)

-- the first of these were given, and the next is not
pub record IsNotGiven (path : List ℕ) (f : Forwarding) (entries : List NamedValue) (wants : List Want)
    (e : CommandFault) (own : List Deed) : Type 0 where
  pub front : List Want
  pub next : Want
  pub back : List Want
  pub are : wants ≡ front ++ next ∷ back
  pub givens : List Given
  pub given : AreGiven path f front givens own
  pub not_given : WantIsNotGiven path f entries next e own
