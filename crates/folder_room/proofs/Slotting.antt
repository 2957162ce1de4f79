-- Slots, one after another.
use Rattle.std.proofs.Common.{◌≡◌, ◌++◌, ℕ, Bool, true, false, List, [], ◌∷◌, Option, Some, None, bytes_eq, refl, sym, ◌∙◌, ap}
use Rattle.std.proofs.lemmas.Slice.Eq.{bytes_eq-Decides}
use Rattle.std.specs.Prelude.{if◌then◌else◌}
use Rattle.std.specs.Option.{option_or}
use Rattle.folder_files.specs.Worlds.{slot_of}
use Rattle.folder_files.specs.declared.world.Slot.{Slot}

-- the file of a slot, where it has this name
abbrev pub file_at : Slot → List ℕ → Option ℕ
file_at s x = if bytes_eq s.name x then Some s.file else None

slot_last : (ss : List Slot) (s : Slot) (x : List ℕ) → slot_of (ss ++ s ∷ []) x ≡ option_or (slot_of ss x) (file_at s x)
slot_last [] s x = refl
slot_last (t ∷ ss) s x = go (bytes_eq t.name x) (slot_last ss s x)
  where
    go : (b : Bool) → slot_of (ss ++ s ∷ []) x ≡ option_or (slot_of ss x) (file_at s x)
        → (if b then Some t.file else slot_of (ss ++ s ∷ []) x) ≡ option_or (if b then Some t.file else slot_of ss x) (file_at s x)
    go true e = refl
    go false e = e

abbrev pub LacksOnly : List ℕ → List Slot → List Slot → Type 0
LacksOnly n kept all = (x : List ℕ) → slot_of kept x ≡ (if bytes_eq n x then None else slot_of all x)

differs : (a b x : List ℕ) → (a ≡ b → ⊥) → bytes_eq a x ≡ true → bytes_eq b x ≡ false
differs a b x n t = go (bytes_eq b x) ((bytes_eq-Decides b x).0)
  where
    go : (c : Bool) → (c ≡ true → b ≡ x) → c ≡ false
    go true e = absurd (n ((bytes_eq-Decides a x).0 t ∙ sym (e refl)))
    go false e = refl

-- a slot of another name is kept
pub kept_more : (n : List ℕ) (kept all : List Slot) (s : Slot) → LacksOnly n kept all → (s.name ≡ n → ⊥) → LacksOnly n (kept ++ s ∷ []) (all ++ s ∷ [])
kept_more n kept all s h d x = slot_last kept s x ∙ ap (λ y. option_or y (file_at s x)) (h x) ∙ go (bytes_eq n x) refl ∙ sym (ap (λ y. if bytes_eq n x then None else y) (slot_last all s x))
  where
    go : (b : Bool) → bytes_eq n x ≡ b → option_or (if b then None else slot_of all x) (file_at s x) ≡ (if b then None else option_or (slot_of all x) (file_at s x))
    go true e = ap (λ c. if c then Some s.file else None) (differs n s.name x (λ q. d (sym q)) e)
    go false e = refl

-- a slot of this name isn't
pub kept_same : (n : List ℕ) (kept all : List Slot) (s : Slot) → LacksOnly n kept all → s.name ≡ n → LacksOnly n kept (all ++ s ∷ [])
kept_same n kept all s h e x = h x ∙ go (bytes_eq n x) refl ∙ sym (ap (λ y. if bytes_eq n x then None else y) (slot_last all s x))
  where
    none_or : (o : Option ℕ) → option_or o None ≡ o
    none_or None = refl
    none_or (Some v) = refl

    go : (b : Bool) → bytes_eq n x ≡ b → (if b then None else slot_of all x) ≡ (if b then None else option_or (slot_of all x) (file_at s x))
    go true q = refl
    go false q = sym (ap (λ c. option_or (slot_of all x) (if c then Some s.file else None)) (ap (λ m. bytes_eq m x) e ∙ q) ∙ none_or (slot_of all x))

pub kept_none : (n x : List ℕ) → slot_of [] x ≡ (if bytes_eq n x then None else slot_of [] x)
kept_none n x = go (bytes_eq n x)
  where
    go : (b : Bool) → slot_of [] x ≡ (if b then None else slot_of [] x)
    go true = refl
    go false = refl
