-- Walks over a run's deeds.
use Rattle.std.proofs.Common.{◌≡◌, ◌↔◌, ◌++◌, List, [], ◌∷◌, refl, sym, ◌∙◌, ap, subst, append_assoc, append-nil}
use Rattle.folder_files.specs.Deeds.{Deed, Everywhere}
use Rattle.folder_files.specs.Walks.{Walks}

walks_each : (S : List Deed → Deed → List Deed → Type 0) (before rest newer older : List Deed) (d : Deed) → Walks S before rest → rest ≡ newer ++ d ∷ older → S (before ++ newer) d older
unfolding Walks
walks_each S before [] [] older d w e = absurd (cc (e))
walks_each S before [] (x ∷ newer) older d w e = absurd (cc (e))
walks_each S before (y ∷ rest) [] older d w e = rw (append-nil before, sym (head e), sym (tail e)) w.0
  where
    head : y ∷ rest ≡ d ∷ older → y ≡ d
    head h = cc (h)

    tail : y ∷ rest ≡ d ∷ older → rest ≡ older
    tail h = cc (h)
walks_each S before (y ∷ rest) (x ∷ newer) older d w e =
    subst (λ l. S l d older) (append_assoc before (y ∷ []) newer ∙ ap (λ z. before ++ z ∷ newer) (head e)) (walks_each S (before ++ y ∷ []) rest newer older d w.1 (tail e))
  where
    head : y ∷ rest ≡ x ∷ (newer ++ d ∷ older) → y ≡ x
    head h = cc (h)

    tail : y ∷ rest ≡ x ∷ (newer ++ d ∷ older) → rest ≡ newer ++ d ∷ older
    tail h = cc (h)

each_walks : (S : List Deed → Deed → List Deed → Type 0) (before rest : List Deed) → ((newer : List Deed) (d : Deed) (older : List Deed) → rest ≡ newer ++ d ∷ older → S (before ++ newer) d older) → Walks S before rest
unfolding Walks
each_walks S before [] h = tt
each_walks S before (d ∷ older) h =
    (subst (λ l. S l d older) (append-nil before) (h [] d older refl), each_walks S (before ++ d ∷ []) older (λ newer g rest e. subst (λ l. S l g rest) (sym (append_assoc before (d ∷ []) newer)) (h (d ∷ newer) g rest (ap (λ l. d ∷ l) e))))

-- a walk over all deeds sees each
pub everywhere : (S : List Deed → Deed → List Deed → Type 0) (own : List Deed) → Walks S [] own ↔ Everywhere S own
everywhere S own = (λ w newer d older e. walks_each S [] own newer older d w e, λ h. each_walks S [] own h)
