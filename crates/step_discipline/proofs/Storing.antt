-- Messages that were stored one after another, deed by deed.
use Rattle.std.proofs.Common.{◌≡◌, ◌↔◌, ◌⊎◌, inl, inr, ◌++◌, ◌+◌, ℕ, List, [], ◌∷◌, length, take, drop, map, reverse, refl, sym, ◌∙◌, ap, subst, Bor, arith}
use Rattle.std.proofs.lemmas.List.{map-append, reverse-append}
use Rattle.folder_files.specs.Careful.{IsFirstPut, IsNoFirst, HasStored, all, put, on}
use Rattle.folder_files.specs.Deeds.{Deed, WasDone}
use Rattle.step_discipline.specs.Seen.{seen, seen_all}
use Rattle.step_discipline.specs.declared.deed.DeedRef.{DeedRef}
use Rattle.folder_files.specs.declared.place.Place.{Place}
use Rattle.folder_files.specs.declared.place.FilePath.{FilePath}
use Rattle.folder_files.specs.declared.step.Step.TheVariants as step
use Rattle.step_discipline.proofs.DeedWalks.{newer_more, older_less, nothing}

-- the newest deed stored this message
abbrev pub StoresAt : ℕ → List ℕ → List Deed → Deed → List Deed → Type 0
StoresAt run m newer d own = (q : Place) × IsFirstPut run q m d own × WasDone (step.SyncFolder q) newer

abbrev pub Putting : ℕ → FilePath → List ℕ → List (List ℕ) → List Deed → Deed → List Deed → Type 0
Putting run f m ms newer d own = StoresAt run m newer d own × HasStored run f (newer ++ d ∷ []) ms own

abbrev pub Passing : ℕ → FilePath → List (List ℕ) → List Deed → Deed → List Deed → Type 0
Passing run f ms newer d own = IsNoFirst f d × HasStored run f (newer ++ d ∷ []) ms own

cases : (run : ℕ) (f : FilePath) (m : List ℕ) (ms : List (List ℕ)) (newer : List Deed) (d : Deed) (own : List Deed) → HasStored run f newer (m ∷ ms) (d ∷ own)
    → Putting run f m ms newer d own ⊎ Passing run f (m ∷ ms) newer d own
cases run f m ms newer d own (put q p s h) = inl ((q, p, s), h)
cases run f m ms newer d own (on n h) = inr (n, h)

none_left : (run : ℕ) (f : FilePath) (m : List ℕ) (ms : List (List ℕ)) (newer own : List Deed) → HasStored run f newer (m ∷ ms) own → own ≡ [] → ⊥
none_left run f m ms newer own (put {own = o} {d = d} q p s h) e = no_cons e
  where
    no_cons : d ∷ o ≡ [] → ⊥
    no_cons x = cc (x)
none_left run f m ms newer own (on {own = o} {d = d} n h) e = no_cons e
  where
    no_cons : d ∷ o ≡ [] → ⊥
    no_cons x = cc (x)

-- a put is no piece of a file
put_apart : (run : ℕ) (f : FilePath) (q : Place) (m : List ℕ) (d : Deed) (own : List Deed) → IsFirstPut run q m d own → IsNoFirst f d
put_apart run f q m d own p most e = differ (sym (ap (λ x. x.step) p.1.1) ∙ e)
  where
    differ : step.Link q p.0 p.1.0 ≡ step.ReadDrop f 0 most → ⊥
    differ x = cc (x)

-- one message less
fewer : (run : ℕ) (f : FilePath) (m : List ℕ) (ms : List (List ℕ)) (newer own : List Deed) → HasStored run f newer (m ∷ ms) own → HasStored run f newer ms own
fewer run f m ms newer own (put {own = o} {d = d} q p s h) = on (put_apart run f q m d o p) h
fewer run f m ms newer own (on {own = o} {d = d} n h) = on n (fewer run f m ms (newer ++ d ∷ []) o h)

taken : (run : ℕ) (f : FilePath) (m : List ℕ) (ms : List (List ℕ)) (newer : List Deed) (d : Deed) (own : List Deed) → StoresAt run m newer d own
    → HasStored run f (newer ++ d ∷ []) ms own ↔ HasStored run f newer (m ∷ ms) (d ∷ own)
taken run f m ms newer d own s = (λ h. put s.0 s.1 s.2 h, λ h. go (cases run f m ms newer d own h))
  where
    go : Putting run f m ms newer d own ⊎ Passing run f (m ∷ ms) newer d own → HasStored run f (newer ++ d ∷ []) ms own
    go (inl p) = p.1
    go (inr p) = fewer run f m ms (newer ++ d ∷ []) own p.1

passed : (run : ℕ) (f : FilePath) (m : List ℕ) (ms : List (List ℕ)) (newer : List Deed) (d : Deed) (own : List Deed) → (StoresAt run m newer d own → ⊥) → IsNoFirst f d
    → HasStored run f (newer ++ d ∷ []) (m ∷ ms) own ↔ HasStored run f newer (m ∷ ms) (d ∷ own)
passed run f m ms newer d own n o = (λ h. on o h, λ h. go (cases run f m ms newer d own h))
  where
    go : Putting run f m ms newer d own ⊎ Passing run f (m ∷ ms) newer d own → HasStored run f (newer ++ d ∷ []) (m ∷ ms) own
    go (inl p) = absurd (n p.0)
    go (inr p) = p.1

stopped : (run : ℕ) (f : FilePath) (m : List ℕ) (ms : List (List ℕ)) (newer : List Deed) (d : Deed) (own : List Deed) → (StoresAt run m newer d own → ⊥) → (IsNoFirst f d → ⊥)
    → HasStored run f newer (m ∷ ms) (d ∷ own) → ⊥
stopped run f m ms newer d own n o h = go (cases run f m ms newer d own h)
  where
    go : Putting run f m ms newer d own ⊎ Passing run f (m ∷ ms) newer d own → ⊥
    go (inl p) = n p.0
    go (inr p) = o p.0

-- messages in their order, as lists of them, the last first
abbrev pub latest : List (Bor (List ℕ)) → List (List ℕ)
latest messages = reverse (map (λ m. m.now) messages)

latest_of : (messages before : List (Bor (List ℕ))) (m : Bor (List ℕ)) → messages ≡ before ++ m ∷ [] → latest messages ≡ m.now ∷ latest before
latest_of messages before m e = ap latest e ∙ ap reverse (map-append (λ x. x.now) before (m ∷ [])) ∙ reverse-append (map (λ x. x.now) before) (m.now ∷ [])

no_messages : (messages : List (Bor (List ℕ))) → length messages ≡ 0 → messages ≡ []
no_messages [] e = refl
no_messages (m ∷ ms) e = absurd (omega (arith, e))

-- no message is left to be found
pub stored_all : (run : ℕ) (f : FilePath) (messages : List (Bor (List ℕ))) (newer own : List Deed) (T : Type 0) → length messages ≡ 0 → T → T ↔ HasStored run f newer (latest messages) own
stored_all run f messages newer own T e t = rw (no_messages messages e) (λ x. all, λ h. t)

-- no deed is left
pub stored_none : (run : ℕ) (f : FilePath) (messages before : List (Bor (List ℕ))) (m : Bor (List ℕ)) (own rest : List DeedRef) (at : ℕ) (T : Type 0) → messages ≡ before ++ m ∷ [] → rest ≡ drop at own → length rest ≡ 0 → (T → ⊥)
    → T ↔ HasStored run f (seen_all (take at own)) (latest messages) (seen_all (drop at own))
stored_none run f messages before m own rest at T e r z n =
    rw (latest_of messages before m e) (λ t. absurd (n t), λ h. absurd (none_left run f m.now (latest before) (seen_all (take at own)) (seen_all (drop at own)) h (ap seen_all (sym r ∙ nothing rest z))))

-- the deed that was reached stored the last message
pub stored_here : (run : ℕ) (f : FilePath) (messages before : List (Bor (List ℕ))) (m : Bor (List ℕ)) (own newer rest older : List DeedRef) (d : DeedRef) (at : ℕ) (T : Type 0)
    → messages ≡ before ++ m ∷ [] → newer ≡ take at own → rest ≡ drop at own → rest ≡ d ∷ older → StoresAt run m.now (seen_all newer) (seen d) (seen_all older)
    → T ↔ HasStored run f (seen_all (take (at + 1) own)) (latest before) (seen_all (drop (at + 1) own))
    → T ↔ HasStored run f (seen_all (take at own)) (latest messages) (seen_all (drop at own))
stored_here run f messages before m own newer rest older d at T e n r o s h =
    let left : drop at own ≡ d ∷ older = sym r ∙ o in
    let all_of = taken run f m.now (latest before) (seen_all (take at own)) (seen d) (seen_all older) (subst (λ l. StoresAt run m.now (seen_all l) (seen d) (seen_all older)) n s) in
    let step_on : T ↔ HasStored run f (seen_all (take at own) ++ seen d ∷ []) (latest before) (seen_all older) =
    subst (λ l. T ↔ HasStored run f l (latest before) (seen_all older)) (newer_more at own older d left) (subst (λ l. T ↔ HasStored run f (seen_all (take (at + 1) own)) (latest before) l) (older_less at own older d left) h) in
    rw (latest_of messages before m e, left) (λ t. all_of.0 (step_on.0 t), λ x. step_on.1 (all_of.1 x))

-- it did not, and it read no first piece
pub stored_there : (run : ℕ) (f : FilePath) (messages before : List (Bor (List ℕ))) (m : Bor (List ℕ)) (own newer rest older : List DeedRef) (d : DeedRef) (at : ℕ) (T : Type 0)
    → messages ≡ before ++ m ∷ [] → newer ≡ take at own → rest ≡ drop at own → rest ≡ d ∷ older → (StoresAt run m.now (seen_all newer) (seen d) (seen_all older) → ⊥) → IsNoFirst f (seen d)
    → T ↔ HasStored run f (seen_all (take (at + 1) own)) (latest messages) (seen_all (drop (at + 1) own))
    → T ↔ HasStored run f (seen_all (take at own)) (latest messages) (seen_all (drop at own))
stored_there run f messages before m own newer rest older d at T e n r o s x h =
    let left : drop at own ≡ d ∷ older = sym r ∙ o in
    let all_of = passed run f m.now (latest before) (seen_all (take at own)) (seen d) (seen_all older) (λ z. s (subst (λ l. StoresAt run m.now (seen_all l) (seen d) (seen_all older)) (sym n) z)) x in
    let step_on : T ↔ HasStored run f (seen_all (take at own) ++ seen d ∷ []) (latest messages) (seen_all older) =
    subst (λ l. T ↔ HasStored run f l (latest messages) (seen_all older)) (newer_more at own older d left) (subst (λ l. T ↔ HasStored run f (seen_all (take (at + 1) own)) (latest messages) l) (older_less at own older d left) h) in
    let step_in : T ↔ HasStored run f (seen_all (take at own) ++ seen d ∷ []) (m.now ∷ latest before) (seen_all older) = subst (λ l. T ↔ HasStored run f (seen_all (take at own) ++ seen d ∷ []) l (seen_all older)) (latest_of messages before m e) step_on in
    rw (latest_of messages before m e, left) (λ t. all_of.0 (step_in.0 t), λ y. step_in.1 (all_of.1 y))

-- it did not, and it read the first piece
pub stored_before : (run : ℕ) (f : FilePath) (messages before : List (Bor (List ℕ))) (m : Bor (List ℕ)) (own newer rest older : List DeedRef) (d : DeedRef) (at : ℕ) (T : Type 0)
    → messages ≡ before ++ m ∷ [] → newer ≡ take at own → rest ≡ drop at own → rest ≡ d ∷ older → (StoresAt run m.now (seen_all newer) (seen d) (seen_all older) → ⊥)
    → ((most : ℕ) × ((seen d).step ≡ step.ReadDrop f 0 most)) → (T → ⊥) → T ↔ HasStored run f (seen_all (take at own)) (latest messages) (seen_all (drop at own))
stored_before run f messages before m own newer rest older d at T e n r o s x z =
    let left : drop at own ≡ d ∷ older = sym r ∙ o in
    rw (latest_of messages before m e, left)
    (λ t. absurd (z t), λ h. absurd (stopped run f m.now (latest before) (seen_all (take at own)) (seen d) (seen_all older) (λ y. s (subst (λ l. StoresAt run m.now (seen_all l) (seen d) (seen_all older)) (sym n) y)) (λ w. w x.0 x.1) h))
