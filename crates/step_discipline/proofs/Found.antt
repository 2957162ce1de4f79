-- What was found is the one that there is.
use Rattle.std.proofs.Common.{◌≡◌, ◌↔◌, subst}

-- one that is there has the property
pub found_iff : {A : Type 0} (P Q : A → Type 0) (x : A) (T : Type 0) → P x → ((y : A) → P y → y ≡ x) → T ↔ Q x → T ↔ ((y : A) × P y × Q y)
found_iff P Q x T p u e = (λ t. (x, p, e.0 t), λ s. e.1 (subst Q (u s.0 s.1) s.2))

-- there is none
pub missing_iff : {A : Type 0} (P Q : A → Type 0) (T : Type 0) → ((y : A) → P y → ⊥) → (T → ⊥) → T ↔ ((y : A) × P y × Q y)
missing_iff P Q T n f = (λ t. absurd (f t), λ s. absurd (n s.0 s.1))

-- it is there
pub there_iff : {A : Type 0} (P : A → Type 0) (x : A) (T : Type 0) → P x → T → T ↔ ((y : A) × P y)
there_iff P x T p t = (λ u. (x, p), λ s. t)

-- it is not
pub absent_iff : {A : Type 0} (P : A → Type 0) (T : Type 0) → ((y : A) → P y → ⊥) → (T → ⊥) → T ↔ ((y : A) × P y)
absent_iff P T n f = (λ t. absurd (f t), λ s. absurd (n s.0 s.1))

-- neither is so
pub neither_iff : (P T : Type 0) → (P → ⊥) → (T → ⊥) → T ↔ P
neither_iff P T n f = (λ t. absurd (f t), λ p. absurd (n p))
