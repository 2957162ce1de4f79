-- When a drop may be cut.
use Rattle.std.proofs.Common.{◌≡◌, ◌↔◌, ℕ, true, List, [], length, reverse, subst}
use Rattle.mbox_drop.specs.Drops.{is_drop, messages}
use Rattle.folder_files.specs.Careful.{IsPiece, HasPieces, HasStored, MayCut}
use Rattle.folder_files.specs.Deeds.{Deed, Once}
use Rattle.folder_files.specs.declared.place.FilePath.{FilePath}
use Rattle.step_discipline.proofs.Pieces.{only}

abbrev pub Whole : FilePath → ℕ → List ℕ → List Deed → Type 0
Whole f n bytes own = (length bytes ≡ n) × Once (λ d older. (piece : List ℕ) × IsPiece f 0 piece n d) own

abbrev pub DropStored : ℕ → FilePath → List ℕ → List Deed → Type 0
DropStored run f bytes own = (is_drop bytes ≡ true) × HasStored run f [] (reverse (messages bytes)) own

pub cut_there : (run : ℕ) (f : FilePath) (n : ℕ) (bytes : List ℕ) (own : List Deed) (T : Type 0) → HasPieces f bytes own → Whole f n bytes own → T ↔ DropStored run f bytes own → T ↔ MayCut run f n own
cut_there run f n bytes own T p w e = (
  λ t. record { drop = bytes; pieces = p; whole = w.0; told = w.1; is_one = (e.0 t).0; stored = (e.0 t).1 },
  λ m. e.1 (subst (λ b. DropStored run f b own) (only f m.drop bytes own m.pieces p) (m.is_one, m.stored)),
)

pub cut_not : (run : ℕ) (f : FilePath) (n : ℕ) (bytes : List ℕ) (own : List Deed) (T : Type 0) → HasPieces f bytes own → (Whole f n bytes own → ⊥) → (T → ⊥) → T ↔ MayCut run f n own
cut_not run f n bytes own T p w z =
    (λ t. absurd (z t), λ m. absurd (w (subst (λ b. Whole f n b own) (only f m.drop bytes own m.pieces p) (m.whole, m.told))))

pub cut_none : (run : ℕ) (f : FilePath) (n : ℕ) (own : List Deed) (T : Type 0) → ((bytes : List ℕ) → HasPieces f bytes own → ⊥) → (T → ⊥) → T ↔ MayCut run f n own
cut_none run f n own T g z = (λ t. absurd (z t), λ m. absurd (g m.drop m.pieces))
