-- What has held since a deed.
use Rattle.std.proofs.Common.{◌≡◌, ◌↔◌, List, ◌∷◌}
use Rattle.folder_files.specs.Deeds.{Deed, Since, last, still}
use Rattle.step_discipline.specs.Seen.{seen, seen_all}
use Rattle.step_discipline.specs.declared.deed.DeedRef.{DeedRef}

here_of : (P : Deed → List Deed → Type 0) (E : Deed → Type 0) (d : Deed) (older : List Deed) (T : Type 0) → T → P d older → T ↔ Since P E (d ∷ older)
here_of P E d older T t p = (λ x. last p, λ o. t)

ended_of : (P : Deed → List Deed → Type 0) (E : Deed → Type 0) (d : Deed) (older : List Deed) (T : Type 0) → (T → ⊥) → (P d older → ⊥) → E d → T ↔ Since P E (d ∷ older)
ended_of P E d older T f n e = (λ t. absurd (f t), back)
  where
    back : Since P E (d ∷ older) → T
    back (last p) = absurd (n p)
    back (still s o) = absurd (s e)

there_of : (P : Deed → List Deed → Type 0) (E : Deed → Type 0) (d : Deed) (older : List Deed) (T : Type 0) → (P d older → ⊥) → (E d → ⊥) → T ↔ Since P E older → T ↔ Since P E (d ∷ older)
there_of P E d older T n s e = (λ t. still s (e.0 t), back)
  where
    back : Since P E (d ∷ older) → T
    back (last p) = absurd (n p)
    back (still x o) = e.1 o

-- since the newest deed
pub since_here : (P : Deed → List Deed → Type 0) (E : Deed → Type 0) (own older : List DeedRef) (d : DeedRef) (T : Type 0) → own ≡ d ∷ older → T → P (seen d) (seen_all older) → T ↔ Since P E (seen_all own)
since_here P E own older d T e t p = rw e (here_of P E (seen d) (seen_all older) T t p)

-- the newest deed ended it
pub since_ended : (P : Deed → List Deed → Type 0) (E : Deed → Type 0) (own older : List DeedRef) (d : DeedRef) (T : Type 0) → own ≡ d ∷ older → (T → ⊥) → (P (seen d) (seen_all older) → ⊥) → E (seen d) → T ↔ Since P E (seen_all own)
since_ended P E own older d T e f n x = rw e (ended_of P E (seen d) (seen_all older) T f n x)

-- as before it
pub since_there : (P : Deed → List Deed → Type 0) (E : Deed → Type 0) (own older : List DeedRef) (d : DeedRef) (T : Type 0) → own ≡ d ∷ older → (P (seen d) (seen_all older) → ⊥) → (E (seen d) → ⊥)
    → T ↔ Since P E (seen_all older) → T ↔ Since P E (seen_all own)
since_there P E own older d T e n s x = rw e (there_of P E (seen d) (seen_all older) T n s x)
