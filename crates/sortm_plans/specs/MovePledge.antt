-- What a command pledges of its steps that gives messages of a folder other numbers.
use Rattle.std.specs.Prelude.{◌≡◌, ◌⊎◌, ℕ, true, List}
use Rattle.mh_base.specs.Entries.{entry_text, kind_of}
use Rattle.mh_base.specs.declared.entry.Entry.TheVariants.{Number, Sequences}
use Rattle.mh_sequences.specs.Printing.{text_of}
use Rattle.mh_sequences.specs.Sequences.{Marked}
use Rattle.mh_sequences.specs.declared.run.Run.{Run}
use Rattle.folder_files.specs.Careful.{WasGivenAway}
use Rattle.folder_files.specs.Deeds.{Deed, Once, WasDone, did}
use Rattle.folder_files.specs.Named.{is_held, is_temp}
use Rattle.folder_files.specs.declared.place.Place.{Place}
use Rattle.folder_files.specs.declared.place.Place.TheVariants.{Folder, Mail}
use Rattle.folder_files.specs.declared.step.Answer.TheVariants.{Done}
use Rattle.folder_files.specs.declared.step.Step.{Step}
use Rattle.folder_files.specs.declared.step.Step.TheVariants as step
use Rattle.step_plans.specs.Commits.{IsBase}
use Rattle.message_places.specs.Moved.{AllMoved}
use Rattle.message_places.specs.Places.{is_in}
use Rattle.message_places.specs.declared.moves.Move.{Move}
use Rattle.sequence_commits.specs.Telling.{same_told}
use Rattle.opening_plans.specs.FolderPledge.{told_within}
use Rattle.opening_plans.specs.Reads.{HaveSeen}
use Rattle.sortm_plans.specs.Marking.{gone_along}
use Rattle.refile_plans.specs.Rmm.{withdrawn}

-- the sequences are without the messages of these numbers; or, once each of the moves' messages has gone to a number,
-- their marks have gone along
abbrev pub MovesMarks : ℕ → Place → List ℕ → List Move → List Deed → Marked → Marked → Type 0
MovesMarks run p takes ms own m new =
    (new ≡ withdrawn takes m) ⊎ ((ends : List ℕ) × AllMoved run p ms ends own × (new ≡ gone_along ms ends m))

-- the run wrote this text of the folder's sequences, gave it their name, and then made the folder safe
abbrev pub WasCommitted : Place → List ℕ → List Deed → Type 0
WasCommitted p text own =
    Once
    (λ d older. (d ≡ did (step.SyncFolder p) Done)
    × Once
    (λ e before. (temp : List ℕ) × (e ≡ did (step.Rename p temp (entry_text Sequences)) Done)
    × WasDone (step.Create p temp text) before) older) own

-- and that is the last text that it knows of there
pub record HasCommitted (run : ℕ) (p : Place) (text : List ℕ) (own : List Deed) : Type 0 where
  pub safe : WasCommitted p text own
  pub base : IsBase run p (entry_text Sequences) text own

-- what is told of the sequences is without these messages: it was so before, or the run committed it
abbrev pub AreToldWithout : ℕ → List ℕ → List ℕ → Marked → List ℕ → List Deed → Type 0
AreToldWithout run path folder m numbers own =
    (same_told folder m (withdrawn numbers m) ≡ true)
    ⊎ HasCommitted run (Folder path folder) (text_of (withdrawn numbers m)) own

-- What numbers a command takes: by the numbers and the sequences of the folder, and by the run's deeds.
abbrev pub Taking : Type 1
Taking = List Run → Marked → List ℕ → List Deed → Type 0

-- the number is one of those that are to move, and the sequences were committed without these
pub record WasWithdrawn (run : ℕ) (path folder : List ℕ) (Takes : Taking) (n : ℕ) (own : List Deed) : Type 0 where
  pub listing : List Run
  pub text : List ℕ
  pub context : List ℕ
  pub seen : HaveSeen run (Folder path folder) (Mail path) listing text context own
  pub numbers : List ℕ
  pub taken : Takes listing (told_within listing text context folder) numbers own
  pub one : is_in n numbers ≡ true
  pub freed : AreToldWithout run path folder (told_within listing text context folder) numbers own

-- a number is held aside only where its message is to get another one, and once no sequence has it any more
abbrev pub TakesWithdrawn : ℕ → List ℕ → List ℕ → Taking → List Deed → Step → Type 0
TakesWithdrawn run path folder Takes own s =
    (number held : List ℕ) (n : ℕ) → s ≡ step.Rename (Folder path folder) number held → kind_of number ≡ Number n
    → is_held (kind_of held) ≡ true → WasWithdrawn run path folder Takes n own

-- a held name goes only once its message was given a number, and that was made safe
abbrev pub LetsGoGiven : List ℕ → List ℕ → List Deed → Step → Type 0
LetsGoGiven path folder own s =
    (held : List ℕ) → s ≡ step.Unlink (Folder path folder) held → is_held (kind_of held) ≡ true
    → WasGivenAway (Folder path folder) held own

-- no new file gets a number
abbrev pub PutsNoFile : Step → Type 0
PutsNoFile s = (q : Place) (temp number : List ℕ) → s ≡ step.Link q temp number → is_temp (kind_of temp) ≡ true → ⊥

-- all that is asked of the steps by which messages move
abbrev pub MovesSo : ℕ → List ℕ → List ℕ → Taking → List Deed → Step → Type 0
MovesSo run path folder Takes own s =
    TakesWithdrawn run path folder Takes own s × LetsGoGiven path folder own s × PutsNoFile s
