-- What a run did with messages that change places, by its own deeds, the newest first.
use Rattle.std.specs.Prelude.{◌≡◌, ◌∷◌, [], ℕ, List, decimal}
use Rattle.folder_files.specs.Careful.{WasTaken}
use Rattle.folder_files.specs.Deeds.{Deed, Once, did}
use Rattle.folder_files.specs.declared.place.Place.{Place}
use Rattle.folder_files.specs.declared.step.Answer.TheVariants.{Done}
use Rattle.folder_files.specs.declared.step.Step.TheVariants.{Link, SyncFolder}
use Rattle.message_places.specs.Arranging.{aside_name}
use Rattle.message_places.specs.declared.moves.Move.{Move}

-- the deed gave the message of this number that one, which the run had held aside
pub record IsGivenTo (run : ℕ) (p : Place) (from end : ℕ) (d : Deed) (older : List Deed) : Type 0 where
  pub given : d ≡ did (Link p (aside_name run from) (decimal end)) Done
  pub taken : WasTaken run p (aside_name run from) older

-- the run held the message of this number aside, then gave it that one, and then made the folder safe
abbrev pub HasMoved : ℕ → Place → ℕ → ℕ → List Deed → Type 0
HasMoved run p from end own =
    Once (λ d older. (d ≡ did (SyncFolder p) Done) × Once (IsGivenTo run p from end) older) own

-- each of these messages went to the number beside it
abbrev pub AllMoved : ℕ → Place → List Move → List ℕ → List Deed → Type 0
AllMoved run p [] [] own = Unit {0}
AllMoved run p [] (n ∷ ends) own = ⊥
AllMoved run p (m ∷ ms) [] own = ⊥
AllMoved run p (m ∷ ms) (n ∷ ends) own = HasMoved run p m.from n own × AllMoved run p ms ends own
