-- What is read at the front of a text.
use Rattle.std.specs.Prelude.{ℕ, ◌==◌, List, [], ◌∷◌, Result, Ok, Err, if◌then◌else◌}

-- what a text begins with, and what stands behind it; or where the text is wrong: what is left of it there, which is
-- nothing where the text ends too early
abbrev pub Read : Type 0 → Type 0
Read A = Result (A × List ℕ) (List ℕ)

infixl 10 ◌>>=◌
-- what is read, and then what is read behind it
abbrev pub ◌>>=◌ : {A B : Type 0} → Read A → (A → List ℕ → Read B) → Read B
(Ok x) >>= next = next x.0 x.1
(Err wrong) >>= next = Err wrong

-- what stands behind this character, which must stand here
abbrev pub behind_character : ℕ → List ℕ → Result (List ℕ) (List ℕ)
behind_character c [] = Err []
behind_character c (d ∷ behind) = if d == c then Ok behind else Err (d ∷ behind)

abbrev pub before : {A : Type 0} → A → Result (List ℕ) (List ℕ) → Read A
before x (Ok behind) = Ok (x, behind)
before x (Err wrong) = Err wrong

-- what was read before this character, and what stands behind it
abbrev pub then_character : {A : Type 0} → ℕ → A → List ℕ → Read A
then_character c x text = before x (behind_character c text)
