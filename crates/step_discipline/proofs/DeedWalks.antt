-- Walks over a run's deeds, as the code's lists show them.
use Rattle.std.proofs.Common.{◌≡◌, ◌↔◌, ◌++◌, ◌+◌, ℕ, zero, suc, List, [], ◌∷◌, length, take, drop, refl, sym, ◌∙◌, ap, subst, arith, add-one}
use Rattle.std.proofs.lemmas.List.{map-append}
use Rattle.folder_files.specs.Deeds.{Deed}
use Rattle.folder_files.specs.Walks.{Walks}
use Rattle.step_discipline.specs.Seen.{seen, seen_all}
use Rattle.step_discipline.specs.declared.deed.DeedRef.{DeedRef}

taken : {A : Type 0} (at : ℕ) (own older : List A) (d : A) → drop at own ≡ d ∷ older → take (suc at) own ≡ take at own ++ d ∷ []
taken zero own older d e = ap (take 1) e
taken (suc at) [] older d e = absurd (cc (e))
taken (suc at) (x ∷ own) older d e = ap (λ l. x ∷ l) (taken at own older d e)

dropped : {A : Type 0} (at : ℕ) (own older : List A) (d : A) → drop at own ≡ d ∷ older → drop (suc at) own ≡ older
dropped zero own older d e = ap (drop 1) e
dropped (suc at) [] older d e = absurd (cc (e))
dropped (suc at) (x ∷ own) older d e = dropped at own older d e

-- one deed further
pub newer_more : (at : ℕ) (own older : List DeedRef) (d : DeedRef) → drop at own ≡ d ∷ older → seen_all (take (at + 1) own) ≡ seen_all (take at own) ++ seen d ∷ []
newer_more at own older d e = ap (λ n. seen_all (take n own)) (add-one at) ∙ ap seen_all (taken at own older d e) ∙ map-append seen (take at own) (d ∷ [])

pub older_less : (at : ℕ) (own older : List DeedRef) (d : DeedRef) → drop at own ≡ d ∷ older → seen_all (drop (at + 1) own) ≡ seen_all older
older_less at own older d e = ap (λ n. seen_all (drop n own)) (add-one at) ∙ ap seen_all (dropped at own older d e)

-- the rule holds at the deed that was reached, and then on
pub walk_on : (S : List Deed → Deed → List Deed → Type 0) (own newer rest older : List DeedRef) (d : DeedRef) (at : ℕ) (T : Type 0) → newer ≡ take at own → rest ≡ drop at own → rest ≡ d ∷ older
    → S (seen_all newer) (seen d) (seen_all older) → T ↔ Walks S (seen_all (take (at + 1) own)) (seen_all (drop (at + 1) own)) → T ↔ Walks S (seen_all (take at own)) (seen_all (drop at own))
unfolding Walks
walk_on S own newer rest older d at T n r e s w =
    let left : drop at own ≡ d ∷ older = sym r ∙ e in
    let more : Walks S (seen_all (take (at + 1) own)) (seen_all (drop (at + 1) own)) ≡ Walks S (seen_all (take at own) ++ seen d ∷ []) (seen_all older) =
    λ i. Walks S (newer_more at own older d left i) (older_less at own older d left i) in
    let here : Walks S (seen_all (take at own)) (seen_all (drop at own)) ≡ Walks S (seen_all (take at own)) (seen d ∷ seen_all older) = λ i. Walks S (seen_all (take at own)) (seen_all (left i)) in
    let rule : S (seen_all (take at own)) (seen d) (seen_all older) = subst (λ l. S (seen_all l) (seen d) (seen_all older)) n s in
    (λ t. subst (λ X. X) (sym here) (rule, subst (λ X. X) more (w.0 t)), λ all. w.1 (subst (λ X. X) (sym more) ((subst (λ X. X) here all).1)))

-- it doesn't hold there
pub walk_off : (S : List Deed → Deed → List Deed → Type 0) (own newer rest older : List DeedRef) (d : DeedRef) (at : ℕ) (T : Type 0) → newer ≡ take at own → rest ≡ drop at own → rest ≡ d ∷ older
    → (S (seen_all newer) (seen d) (seen_all older) → ⊥) → (T → ⊥) → T ↔ Walks S (seen_all (take at own)) (seen_all (drop at own))
unfolding Walks
walk_off S own newer rest older d at T n r e s f =
    let here : Walks S (seen_all (take at own)) (seen_all (drop at own)) ≡ Walks S (seen_all (take at own)) (seen d ∷ seen_all older) = λ i. Walks S (seen_all (take at own)) (seen_all ((sym r ∙ e) i)) in
    (λ t. absurd (f t), λ all. absurd (s (subst (λ l. S (seen_all l) (seen d) (seen_all older)) (sym n) ((subst (λ X. X) here all).0))))

pub nothing : (rest : List DeedRef) → length rest ≡ 0 → rest ≡ []
nothing [] e = refl
nothing (d ∷ rest) e = absurd (omega (arith, e))

-- no deed is left
pub walk_end : (S : List Deed → Deed → List Deed → Type 0) (own rest : List DeedRef) (at : ℕ) (T : Type 0) → rest ≡ drop at own → length rest ≡ 0 → T → T ↔ Walks S (seen_all (take at own)) (seen_all (drop at own))
unfolding Walks
walk_end S own rest at T r e t =
    let here : Walks S (seen_all (take at own)) (seen_all (drop at own)) ≡ Walks S (seen_all (take at own)) [] = λ i. Walks S (seen_all (take at own)) (seen_all ((sym r ∙ nothing rest e) i)) in
    (λ u. subst (λ X. X) (sym here) tt, λ all. t)
