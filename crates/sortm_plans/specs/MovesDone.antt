-- What a run has done that gave messages of a folder other numbers, and whose marks went along.
use Rattle.std.specs.Prelude.{◌≡◌, ◌⊎◌, ◌∷◌, [], ℕ, true, List}
use Rattle.mh_sequences.specs.Printing.{text_of}
use Rattle.mh_sequences.specs.Sequences.{Marked}
use Rattle.folder_files.specs.Deeds.{Deed, Once, did}
use Rattle.folder_files.specs.declared.place.Place.{Place}
use Rattle.folder_files.specs.declared.step.Answer.TheVariants.{Done}
use Rattle.folder_files.specs.declared.step.Step.TheVariants.{SyncFolder, Unlink}
use Rattle.message_places.specs.Arranging.{aside_name}
use Rattle.message_places.specs.Moved.{HasMoved}
use Rattle.message_places.specs.declared.moves.Move.{Move}
use Rattle.sequence_commits.specs.Telling.{same_told}
use Rattle.sortm_plans.specs.Marking.{gone_along}
use Rattle.sortm_plans.specs.MovePledge.{WasCommitted}
use Rattle.refile_plans.specs.Rmm.{withdrawn}

-- the run held the message of this number aside, gave it that one and made the folder safe; then its held name went,
-- and the run made that safe too
abbrev pub HasSettled : ℕ → Place → ℕ → ℕ → List Deed → Type 0
HasSettled run p from end own =
    Once
    (λ d older. (d ≡ did (SyncFolder p) Done)
    × Once
    (λ e before. (e ≡ did (Unlink p (aside_name run from)) Done)
    × HasMoved run p from end before) older) own

-- each of these messages went so to the number beside it
abbrev pub AllSettled : ℕ → Place → List Move → List ℕ → List Deed → Type 0
AllSettled run p [] [] own = Unit {0}
AllSettled run p [] (n ∷ ends) own = ⊥
AllSettled run p (m ∷ ms) [] own = ⊥
AllSettled run p (m ∷ ms) (n ∷ ends) own = HasSettled run p m.from n own × AllSettled run p ms ends own

-- the run committed these sequences of the folder in place of those, where they tell anything else
abbrev pub IsReplaced : List ℕ → Place → Marked → Marked → List Deed → Type 0
IsReplaced folder p old new own = (same_told folder old new ≡ true) ⊎ WasCommitted p (text_of new) own

-- where messages moved, the sequences were without these, and then had them again where they ended
abbrev pub MarksWent : List ℕ → Place → Marked → List ℕ → List Move → List ℕ → List Deed → Type 0
MarksWent folder p m takes [] ends own = Unit {0}
MarksWent folder p m takes (x ∷ ms) ends own =
    IsReplaced folder p m (withdrawn takes m) own
    × IsReplaced folder p (withdrawn takes m) (gone_along (x ∷ ms) ends m) own
