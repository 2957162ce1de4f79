-- What a run read of a folder's sequences, by its own deeds.
use Rattle.std.specs.Prelude.{◌≡◌, ◌⊎◌, ℕ, List, []}
use Rattle.mh_base.specs.Entries.{entry_text}
use Rattle.mh_base.specs.declared.entry.Entry.TheVariants.{Sequences}
use Rattle.folder_files.specs.Careful.{IsRead}
use Rattle.folder_files.specs.Deeds.{Deed, did, Once}
use Rattle.folder_files.specs.declared.place.Place.{Place}
use Rattle.folder_files.specs.declared.step.Answer.TheVariants.{Gone, Names}
use Rattle.folder_files.specs.declared.step.Step.TheVariants.{List as Lists, Read}
use Rattle.mh_sequences.specs.declared.run.Run.{Run}
use Rattle.held_messages.specs.Settle.{Settled}
use Rattle.opening_plans.specs.Existing.{numbers_settled}
use Rattle.step_plans.specs.ContextCommit.{context_name}

-- the deed told the text of this name; the empty one where there is no such name
abbrev pub TellsText : Place → List ℕ → List ℕ → Deed → Type 0
TellsText p name text d = IsRead p name text d ⊎ ((limit : ℕ) × (d ≡ did (Read p name limit) Gone) × (text ≡ []))

-- the run read the folder's sequences as this text, and later the mail directory's context as that one
abbrev pub HaveRead : Place → Place → List ℕ → List ℕ → List Deed → Type 0
HaveRead p mail text context own =
    Once
    (λ d older. TellsText mail context_name context d
    × Once (λ e before. TellsText p (entry_text Sequences) text e) older) own

-- the run listed the folder; these are the numbers of its messages, with those of what it put back there
abbrev pub HaveListed : ℕ → Place → List Run → List Deed → Type 0
HaveListed run p listing own =
    (s : Settled) × (listing ≡ numbers_settled run s) × Once (λ d older. d ≡ did (Lists p) (Names s.names)) own

-- it listed the folder so, and read these texts
pub record HaveSeen (run : ℕ) (p mail : Place) (listing : List Run) (text context : List ℕ)
    (own : List Deed) : Type 0 where
  pub listed : HaveListed run p listing own
  pub read : HaveRead p mail text context own
