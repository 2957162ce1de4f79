-- Where names lead, by the newest change.
use Rattle.std.proofs.Common.{◌≡◌, ◌++◌, ℕ, List, [], ◌∷◌, length, reverse, refl, sym, ◌∙◌, ap, arith}
use Rattle.std.proofs.lemmas.List.{reverse-append}
use Rattle.folder_files.specs.Directory.{Slots, lead, after_change}
use Rattle.folder_files.specs.declared.world.Change.{Change}

pub lead_last : (s : Slots) (pending older : List Change) (c : Change) (x : List ℕ) → pending ≡ older ++ c ∷ [] → lead s (reverse pending) x ≡ after_change c (lead s (reverse older)) x
lead_last s pending older c x e = ap (λ l. lead s (reverse l) x) e ∙ ap (λ l. lead s l x) (reverse-append older (c ∷ []))

pub lead_none : (s : Slots) (pending : List Change) (x : List ℕ) → length pending ≡ 0 → lead s (reverse pending) x ≡ s x
lead_none s [] x e = refl
lead_none s (c ∷ cs) x e = absurd (omega (arith, e))

-- one change more
pub lead_more : (s mid : Slots) (pending older : List Change) (c : Change) → pending ≡ older ++ c ∷ [] → ((x : List ℕ) → mid x ≡ lead s (reverse older) x) → (x : List ℕ) → after_change c mid x ≡ lead s (reverse pending) x
lead_more s mid pending older c e h x = (λ i. after_change c (λ y. h y i) x) ∙ sym (lead_last s pending older c x e)
