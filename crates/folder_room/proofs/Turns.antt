-- What a script has for a call, prompt by prompt.
use Rattle.std.proofs.Common.{◌≡◌, ◌++◌, ◌==◌, ◌+◌, ◌<◌, ℕ, Bool, true, false, List, [], ◌∷◌, map, take, length, get_or, refl, sym, ◌∙◌, ap, append-nil}
use Rattle.std.proofs.lemmas.Bool.Decides.{Decides-eqb}
use Rattle.std.proofs.lemmas.List.{take_more, map-append}
use Rattle.std.specs.Prelude.{if◌then◌else◌}
use Rattle.folder_room.specs.Played.{turn_of}
use Rattle.folder_room.specs.declared.script.Happening.{Happening}
use Rattle.folder_room.specs.declared.script.Prompt.{Prompt}

turn_push : (call : ℕ) (ps : List Prompt) (p : Prompt) → turn_of call (ps ++ p ∷ []) ≡ turn_of call ps ++ (if p.at == call then p.what ∷ [] else [])
turn_push call [] p = refl
turn_push call (q ∷ ps) p = go (q.at == call) (turn_push call ps p)
  where
    go : (b : Bool) → turn_of call (ps ++ p ∷ []) ≡ turn_of call ps ++ (if p.at == call then p.what ∷ [] else [])
        → (if b then q.what ∷ turn_of call (ps ++ p ∷ []) else turn_of call (ps ++ p ∷ [])) ≡ (if b then q.what ∷ turn_of call ps else turn_of call ps) ++ (if p.at == call then p.what ∷ [] else [])
    go true e = ap (λ t. q.what ∷ t) e
    go false e = e

pub turn_more : (call : ℕ) (ps : List Prompt) (i : ℕ) (p : Prompt) (t : List Happening) → i < length ps → p ≡ get_or ps i p → t ≡ turn_of call (take i ps) → (b : Bool) → (p.at == call) ≡ b
    → t ++ (if b then p.what ∷ [] else []) ≡ turn_of call (take (i + 1) ps)
turn_more call ps i p t l e h b q =
    (λ j. h j ++ (if (sym q) j then p.what ∷ [] else [])) ∙ sym (turn_push call (take i ps) p) ∙ ap (λ r. turn_of call (take i ps ++ r ∷ [])) e ∙ ap (turn_of call) (sym (take_more ps i p l))

-- one that the script has for this call
pub turn_kept : {X : Type 0} (f : X → Happening) (call : ℕ) (ps : List Prompt) (i : ℕ) (p : Prompt) (t : List X) (x : X) → i < length ps → p ≡ get_or ps i p → map f t ≡ turn_of call (take i ps) → p.at ≡ call → f x ≡ p.what
    → map f (t ++ x ∷ []) ≡ turn_of call (take (i + 1) ps)
turn_kept f call ps i p t x l e h a w =
    map-append f t (x ∷ []) ∙ ap (λ y. map f t ++ y ∷ []) w ∙ turn_more call ps i p (map f t) l e h true ((Decides-eqb p.at call).1 a)

-- and one for another
pub turn_left : {X : Type 0} (f : X → Happening) (call : ℕ) (ps : List Prompt) (i : ℕ) (p : Prompt) (t : List X) → i < length ps → p ≡ get_or ps i p → map f t ≡ turn_of call (take i ps) → (p.at ≡ call → ⊥)
    → map f t ≡ turn_of call (take (i + 1) ps)
turn_left f call ps i p t l e h n = sym (append-nil (map f t)) ∙ turn_more call ps i p (map f t) l e h false (go (p.at == call) ((Decides-eqb p.at call).0))
  where
    go : (b : Bool) → (b ≡ true → p.at ≡ call) → b ≡ false
    go true q = absurd (n (q refl))
    go false q = refl
