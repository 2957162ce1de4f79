-- Facts that held once, by the newest deed and those before it.
use Rattle.std.proofs.Common.{◌≡◌, ◌↔◌, List, [], ◌∷◌}
use Rattle.folder_files.specs.Deeds.{Deed, Once, now, on}
use Rattle.step_discipline.specs.Seen.{seen, seen_all}
use Rattle.step_discipline.specs.declared.deed.DeedRef.{DeedRef}

here_of : (P : Deed → List Deed → Type 0) (d : Deed) (older : List Deed) (A : Type 0) → A → P d older → A ↔ Once P (d ∷ older)
here_of P d older A a p = (λ x. now p, λ o. a)

there_of : (P : Deed → List Deed → Type 0) (d : Deed) (older : List Deed) (A : Type 0) → (P d older → ⊥) → A ↔ Once P older → A ↔ Once P (d ∷ older)
there_of P d older A n e = (λ a. on (e.0 a), back)
  where
    back : Once P (d ∷ older) → A
    back (now p) = absurd (n p)
    back (on o) = e.1 o

-- the newest deed is such a one
pub once_here : (P : Deed → List Deed → Type 0) (own older : List DeedRef) (d : DeedRef) (A : Type 0) → own ≡ d ∷ older → A → P (seen d) (seen_all older) → A ↔ Once P (seen_all own)
once_here P own older d A e a p = rw e (here_of P (seen d) (seen_all older) A a p)

-- it isn't
pub once_there : (P : Deed → List Deed → Type 0) (own older : List DeedRef) (d : DeedRef) (A : Type 0) → own ≡ d ∷ older → (P (seen d) (seen_all older) → ⊥) → A ↔ Once P (seen_all older) → A ↔ Once P (seen_all own)
once_there P own older d A e n x = rw e (there_of P (seen d) (seen_all older) A n x)

-- there is none
pub once_none : (P : Deed → List Deed → Type 0) (own : List DeedRef) (A : Type 0) → own ≡ [] → (A → ⊥) → A ↔ Once P (seen_all own)
once_none P own A e n = rw e (λ a. absurd (n a), nothing)
  where
    nothing : Once P [] → A
    nothing o = elim o [ ]
