-- From which number the message came that stands at a number after moves.
use Rattle.std.proofs.Common.{◌≡◌, ◌==◌, ℕ, Bool, true, false, List, [], ◌∷◌, Option, Some, None, refl}
use Rattle.std.specs.Prelude.{is_some, if◌then◌else◌}
use Rattle.folder_files.proofs.Names.{or_last, or_left}
use Rattle.held_messages.specs.Settle.{or_before}
use Rattle.message_places.specs.Places.{froms, is_in, source_of, stood_at}
use Rattle.message_places.specs.declared.moves.Move.{Move}
use Rattle.message_places.proofs.NumberLists.{in_head, in_tail}

-- it is one of the old numbers
pub source_in : (ms : List Move) (ends : List ℕ) (k n : ℕ) → source_of ms ends k ≡ Some n → is_in n (froms ms) ≡ true
source_in [] ends k n e = absurd (cc (e))
source_in (m ∷ ms) [] k n e = absurd (cc (e))
source_in (m ∷ ms) (x ∷ ends) k n e = go (source_of ms ends k) (x == k) e (source_in ms ends k n)
  where
    self : Some m.from ≡ Some n → is_in n (froms (m ∷ ms)) ≡ true
    self e = let same : m.from ≡ n = cc in rw same (in_head n (froms ms))

    go : (o : Option ℕ) (b : Bool) → or_before o (if b then Some m.from else None) ≡ Some n → (o ≡ Some n → is_in n (froms ms) ≡ true) → is_in n (froms (m ∷ ms)) ≡ true
    go (Some y) b e more = in_tail m.from n (froms ms) (more e)
    go None true e more = self e
    go None false e more = absurd (cc (e))

-- and the message stands at one of the ends
pub source_end : (ms : List Move) (ends : List ℕ) (k : ℕ) → is_some (source_of ms ends k) ≡ true → is_in k ends ≡ true
source_end [] ends k e = absurd (cc (e))
source_end (m ∷ ms) [] k e = absurd (cc (e))
source_end (m ∷ ms) (x ∷ ends) k e = go (source_of ms ends k) (x == k) refl e (source_end ms ends k)
  where
    go : (o : Option ℕ) (b : Bool) → (x == k) ≡ b → is_some (or_before o (if b then Some m.from else None)) ≡ true → (is_some o ≡ true → is_in k ends ≡ true) → is_in k (x ∷ ends) ≡ true
    go o true f e more = or_left (x == k) (is_in k ends) f
    go (Some y) false f e more = or_last (x == k) (is_in k ends) (more refl)
    go None false f e more = absurd (cc (e))

-- what stands at it counts only where it is one of the old numbers
pub stood_same : {A : Type 0} (f g : ℕ → A) (ms : List Move) (ends : List ℕ) (k : ℕ) (otherwise : A) → ((n : ℕ) → is_in n (froms ms) ≡ true → f n ≡ g n) → stood_at f (source_of ms ends k) otherwise ≡ stood_at g (source_of ms ends k) otherwise
stood_same {A = A} f g ms ends k otherwise same = go (source_of ms ends k) refl
  where
    go : (o : Option ℕ) → source_of ms ends k ≡ o → stood_at f o otherwise ≡ stood_at g o otherwise
    go None e = refl
    go (Some n) e = same n (source_in ms ends k n e)
