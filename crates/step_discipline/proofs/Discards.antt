-- When a held message may go, by walks.
use Rattle.std.proofs.Common.{◌↔◌, ℕ, List, []}
use Rattle.folder_files.specs.Careful.{IsSucceeded, IsSuccessorSynced, WasGivenAway, WasTakenAndRead, MayDiscard}
use Rattle.folder_files.specs.Deeds.{Deed}
use Rattle.folder_files.specs.Walks.{Walks}
use Rattle.folder_files.specs.declared.place.Place.{Place}
use Rattle.folder_files.proofs.Walking.{everywhere}

abbrev pub Kept : ℕ → Place → List ℕ → List Deed → Type 0
Kept run p held own = (WasGivenAway p held own → ⊥) × WasTakenAndRead run p held own

abbrev pub Elsewhere : ℕ → Place → List ℕ → List Deed → Type 0
Elsewhere run p held own = Walks (λ newer d older. IsSucceeded run p held newer d) [] own × Walks (IsSuccessorSynced run p held) [] own

pub discard_there : (run : ℕ) (p : Place) (held : List ℕ) (own : List Deed) (T : Type 0) → Kept run p held own → T ↔ Elsewhere run p held own → T ↔ MayDiscard run p held own
discard_there run p held own T k e = (
  λ t. record {
    not_given_away = k.0;
    taken_and_read = k.1;
    succeeded = (everywhere (λ newer d older. IsSucceeded run p held newer d) own).0 ((e.0 t).0);
    synced = (everywhere (IsSuccessorSynced run p held) own).0 ((e.0 t).1);
  },
  λ m. e.1 ((everywhere (λ newer d older. IsSucceeded run p held newer d) own).1 m.succeeded, (everywhere (IsSuccessorSynced run p held) own).1 m.synced),
)

pub discard_not : (run : ℕ) (p : Place) (held : List ℕ) (own : List Deed) (T : Type 0) → (Kept run p held own → ⊥) → (T → ⊥) → T ↔ MayDiscard run p held own
discard_not run p held own T n f = (λ t. absurd (f t), λ m. absurd (n (m.not_given_away, m.taken_and_read)))
