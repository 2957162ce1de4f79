-- A folder that is rearranged by the moves of an order has its messages in that order.
use Rattle.std.proofs.Common.{◌≡◌, inl, inr, ◌||◌, ◌==◌, ℕ, suc, Bool, true, false, List, [], ◌∷◌, None, refl, sym, ◌∙◌, ap, subst, length}
use Rattle.std.specs.Prelude.{is_some, if◌then◌else◌}
use Rattle.file_plans.specs.Mailboxes.{Folder}
use Rattle.folder_files.proofs.Names.{not_both, num_same, or_case, or_last, or_left}
use Rattle.message_places.specs.Order.{StandInOrder, moves_of}
use Rattle.message_places.specs.Places.{AreDistinct, AreMsgNums, froms, is_in, rearranged, slots, stood_at}
use Rattle.message_places.specs.declared.moves.Move.{Move}
use Rattle.message_places.proofs.NumberLists.{in_cases, in_head, in_tail, none_in}
use Rattle.message_places.proofs.Standing.{EachCame, each_came, left_free, moved_there, others_stay}

-- those that keep their number
abbrev fixed : List ℕ → List ℕ → List ℕ
fixed [] ss = []
fixed (n ∷ ns) [] = []
fixed (n ∷ ns) (s ∷ ss) = if n == s then n ∷ fixed ns ss else fixed ns ss

-- the moves with one number and one slot more
abbrev pub with_pair : Bool → ℕ → ℕ → List Move → List Move
with_pair b n s ms = if b then ms else record { from = n; slot = s } ∷ ms

in_more : (x k : ℕ) (xs ys : List ℕ) → (is_in k xs ≡ true → is_in k ys ≡ true) → is_in k (x ∷ xs) ≡ true → is_in k (x ∷ ys) ≡ true
in_more x k xs ys f e = elim (or_case (x == k) (is_in k xs) e) [ inl g ↦ or_left (x == k) (is_in k ys) g | inr g ↦ or_last (x == k) (is_in k ys) (f g) ]

-- a number that moves is one of the list, and its slot one of the slots
pub from_in : (ns ss : List ℕ) (k : ℕ) → is_in k (froms (moves_of ns ss)) ≡ true → is_in k ns ≡ true
from_in [] ss k e = absurd (cc (e))
from_in (n ∷ ns) [] k e = absurd (cc (e))
from_in (n ∷ ns) (s ∷ ss) k e = go (n == s) e (from_in ns ss k)
  where
    go : (b : Bool) → is_in k (froms (with_pair b n s (moves_of ns ss))) ≡ true → (is_in k (froms (moves_of ns ss)) ≡ true → is_in k ns ≡ true) → is_in k (n ∷ ns) ≡ true
    go true e more = in_tail n k ns (more e)
    go false e more = in_more n k (froms (moves_of ns ss)) ns more e

pub slot_in : (ns ss : List ℕ) (k : ℕ) → is_in k (slots (moves_of ns ss)) ≡ true → is_in k ss ≡ true
slot_in [] ss k e = absurd (cc (e))
slot_in (n ∷ ns) [] k e = absurd (cc (e))
slot_in (n ∷ ns) (s ∷ ss) k e = go (n == s) e (slot_in ns ss k)
  where
    go : (b : Bool) → is_in k (slots (with_pair b n s (moves_of ns ss))) ≡ true → (is_in k (slots (moves_of ns ss)) ≡ true → is_in k ss ≡ true) → is_in k (s ∷ ss) ≡ true
    go true e more = in_tail s k ss (more e)
    go false e more = in_more s k (slots (moves_of ns ss)) ss more e

pub froms_distinct : (ns ss : List ℕ) → AreDistinct ns → AreDistinct (froms (moves_of ns ss))
froms_distinct [] ss d = tt
froms_distinct (n ∷ ns) [] d = tt
froms_distinct (n ∷ ns) (s ∷ ss) d = go (n == s) (froms_distinct ns ss d.1)
  where
    go : (b : Bool) → AreDistinct (froms (moves_of ns ss)) → AreDistinct (froms (with_pair b n s (moves_of ns ss)))
    go true more = more
    go false more = (none_in (froms (moves_of ns ss)) ns n (from_in ns ss n) d.0, more)

pub slots_distinct : (ns ss : List ℕ) → AreDistinct ss → AreDistinct (slots (moves_of ns ss))
slots_distinct [] ss d = tt
slots_distinct (n ∷ ns) [] d = tt
slots_distinct (n ∷ ns) (s ∷ ss) d = go (n == s) (slots_distinct ns ss d.1)
  where
    go : (b : Bool) → AreDistinct (slots (moves_of ns ss)) → AreDistinct (slots (with_pair b n s (moves_of ns ss)))
    go true more = more
    go false more = (none_in (slots (moves_of ns ss)) ss s (slot_in ns ss s) d.0, more)

pub froms_good : (ns ss : List ℕ) → AreMsgNums ns → AreMsgNums (froms (moves_of ns ss))
froms_good [] ss ok = tt
froms_good (n ∷ ns) [] ok = tt
froms_good (n ∷ ns) (s ∷ ss) ok = go (n == s) (froms_good ns ss ok.1)
  where
    go : (b : Bool) → AreMsgNums (froms (moves_of ns ss)) → AreMsgNums (froms (with_pair b n s (moves_of ns ss)))
    go true more = more
    go false more = (ok.0, more)

pub slots_good : (ns ss : List ℕ) → AreMsgNums ss → AreMsgNums (slots (moves_of ns ss))
slots_good [] ss ok = tt
slots_good (n ∷ ns) [] ok = tt
slots_good (n ∷ ns) (s ∷ ss) ok = go (n == s) (slots_good ns ss ok.1)
  where
    go : (b : Bool) → AreMsgNums (slots (moves_of ns ss)) → AreMsgNums (slots (with_pair b n s (moves_of ns ss)))
    go true more = more
    go false more = (ok.0, more)

pub suc_same : (a b : ℕ) → suc a ≡ suc b → a ≡ b
suc_same a b e = cc

-- a number of the list moves, or keeps its place; and so the slots
from_or_fixed : (ns ss : List ℕ) → length ns ≡ length ss → (k : ℕ) → is_in k ns ≡ is_in k (froms (moves_of ns ss)) || is_in k (fixed ns ss)
from_or_fixed [] [] m k = refl
from_or_fixed [] (s ∷ ss) m k = cc
from_or_fixed (n ∷ ns) [] m k = cc
from_or_fixed (n ∷ ns) (s ∷ ss) m k = ap (λ z. (n == k) || z) (from_or_fixed ns ss (suc_same (length ns) (length ss) m) k) ∙ go (n == s) (n == k) (is_in k (froms (moves_of ns ss))) (is_in k (fixed ns ss)) refl refl refl
  where
    go : (b e f x : Bool) → (n == k) ≡ e → is_in k (froms (moves_of ns ss)) ≡ f → is_in k (fixed ns ss) ≡ x
        → (e || (f || x)) ≡ is_in k (froms (with_pair b n s (moves_of ns ss))) || is_in k (if b then n ∷ fixed ns ss else fixed ns ss)
    go true true true x h i j = rw (h, i) refl
    go true true false x h i j = rw (h, i) refl
    go true false f x h i j = rw (h, i, j) refl
    go false true f x h i j = rw h refl
    go false false f x h i j = rw (h, i, j) refl

slot_or_fixed : (ns ss : List ℕ) → length ns ≡ length ss → (k : ℕ) → is_in k ss ≡ is_in k (slots (moves_of ns ss)) || is_in k (fixed ns ss)
slot_or_fixed [] [] m k = refl
slot_or_fixed [] (s ∷ ss) m k = cc
slot_or_fixed (n ∷ ns) [] m k = cc
slot_or_fixed (n ∷ ns) (s ∷ ss) m k = ap (λ z. (s == k) || z) (slot_or_fixed ns ss (suc_same (length ns) (length ss) m) k) ∙ go (n == s) refl (s == k) (is_in k (slots (moves_of ns ss))) (is_in k (fixed ns ss)) refl refl refl
  where
    go : (b : Bool) → (n == s) ≡ b → (e f x : Bool) → (s == k) ≡ e → is_in k (slots (moves_of ns ss)) ≡ f → is_in k (fixed ns ss) ≡ x
        → (e || (f || x)) ≡ is_in k (slots (with_pair b n s (moves_of ns ss))) || is_in k (if b then n ∷ fixed ns ss else fixed ns ss)
    go true w true true x h i j = rw i refl
    go true w true false x h i j = let t : (n == k) ≡ true = ap (λ z. z == k) (num_same n s w) ∙ h in rw (t, i) refl
    go true w false f x h i j = let t : (n == k) ≡ false = ap (λ z. z == k) (num_same n s w) ∙ h in rw (t, i, j) refl
    go false w true f x h i j = rw h refl
    go false w false f x h i j = rw (h, i, j) refl

fixed_in : (ns ss : List ℕ) (k : ℕ) → is_in k (fixed ns ss) ≡ true → is_in k ns ≡ true
fixed_in [] ss k e = absurd (cc (e))
fixed_in (n ∷ ns) [] k e = absurd (cc (e))
fixed_in (n ∷ ns) (s ∷ ss) k e = go (n == s) e (fixed_in ns ss k)
  where
    go : (b : Bool) → is_in k (if b then n ∷ fixed ns ss else fixed ns ss) ≡ true → (is_in k (fixed ns ss) ≡ true → is_in k ns ≡ true) → is_in k (n ∷ ns) ≡ true
    go true e more = in_more n k (fixed ns ss) ns more e
    go false e more = in_tail n k ns (more e)

fixed_slot : (ns ss : List ℕ) (k : ℕ) → is_in k (fixed ns ss) ≡ true → is_in k ss ≡ true
fixed_slot [] ss k e = absurd (cc (e))
fixed_slot (n ∷ ns) [] k e = absurd (cc (e))
fixed_slot (n ∷ ns) (s ∷ ss) k e = go (n == s) refl e (fixed_slot ns ss k)
  where
    go : (b : Bool) → (n == s) ≡ b → is_in k (if b then n ∷ fixed ns ss else fixed ns ss) ≡ true → (is_in k (fixed ns ss) ≡ true → is_in k ss ≡ true) → is_in k (s ∷ ss) ≡ true
    go true w e more = subst (λ z. is_in k (z ∷ ss) ≡ true) (num_same n s w) (in_more n k (fixed ns ss) ss more e)
    go false w e more = in_tail s k ss (more e)

apart_in : (n k : ℕ) (ns : List ℕ) → is_in n ns ≡ false → is_in k ns ≡ true → (n == k) ≡ false
apart_in n k ns off i = go (n == k) refl
  where
    go : (b : Bool) → (n == k) ≡ b → b ≡ false
    go true e = absurd (not_both (is_in n ns) (subst (λ z. is_in z ns ≡ true) (sym (num_same n k e)) i) off)
    go false e = refl

-- what keeps its place does not move, and nothing moves there
fixed_no_from : (ns ss : List ℕ) → AreDistinct ns → (k : ℕ) → is_in k (fixed ns ss) ≡ true → is_in k (froms (moves_of ns ss)) ≡ false
fixed_no_from [] ss d k e = refl
fixed_no_from (n ∷ ns) [] d k e = refl
fixed_no_from (n ∷ ns) (s ∷ ss) d k e = go (n == s) e (fixed_no_from ns ss d.1 k)
  where
    first : is_in n (froms (moves_of ns ss)) ≡ false
    first = none_in (froms (moves_of ns ss)) ns n (from_in ns ss n) d.0

    go : (b : Bool) → is_in k (if b then n ∷ fixed ns ss else fixed ns ss) ≡ true → (is_in k (fixed ns ss) ≡ true → is_in k (froms (moves_of ns ss)) ≡ false) → is_in k (froms (with_pair b n s (moves_of ns ss))) ≡ false
    go true e more = in_cases (λ z. is_in z (froms (moves_of ns ss)) ≡ false) n k (fixed ns ss) e first more
    go false e more = rw (apart_in n k ns d.0 (fixed_in ns ss k e)) (more e)

fixed_no_slot : (ns ss : List ℕ) → AreDistinct ss → (k : ℕ) → is_in k (fixed ns ss) ≡ true → is_in k (slots (moves_of ns ss)) ≡ false
fixed_no_slot [] ss d k e = refl
fixed_no_slot (n ∷ ns) [] d k e = refl
fixed_no_slot (n ∷ ns) (s ∷ ss) d k e = go (n == s) refl e (fixed_no_slot ns ss d.1 k)
  where
    first : is_in s (slots (moves_of ns ss)) ≡ false
    first = none_in (slots (moves_of ns ss)) ss s (slot_in ns ss s) d.0

    go : (b : Bool) → (n == s) ≡ b → is_in k (if b then n ∷ fixed ns ss else fixed ns ss) ≡ true → (is_in k (fixed ns ss) ≡ true → is_in k (slots (moves_of ns ss)) ≡ false) → is_in k (slots (with_pair b n s (moves_of ns ss))) ≡ false
    go true w e more = in_cases (λ z. is_in z (slots (moves_of ns ss)) ≡ false) n k (fixed ns ss) e (subst (λ z. is_in z (slots (moves_of ns ss)) ≡ false) (sym (num_same n s w)) first) more
    go false w e more = rw (apart_in s k ss d.0 (fixed_slot ns ss k e)) (more e)

-- where the lists have the same numbers, the slots of what moves are its old numbers
pub moves_permute : (ns ss : List ℕ) → length ns ≡ length ss → AreDistinct ns → AreDistinct ss → ((k : ℕ) → is_in k ns ≡ is_in k ss) → (k : ℕ) → is_in k (slots (moves_of ns ss)) ≡ is_in k (froms (moves_of ns ss))
moves_permute ns ss m d e same k = go (is_in k (fixed ns ss)) refl
  where
    last_false : (a : Bool) → a || false ≡ a
    last_false true = refl
    last_false false = refl

    go : (b : Bool) → is_in k (fixed ns ss) ≡ b → is_in k (slots (moves_of ns ss)) ≡ is_in k (froms (moves_of ns ss))
    go true f = fixed_no_slot ns ss e k f ∙ sym (fixed_no_from ns ss d k f)
    go false f =
        sym (last_false (is_in k (slots (moves_of ns ss)))) ∙ (ap (λ z. is_in k (slots (moves_of ns ss)) || z) (sym f) ∙ (sym (slot_or_fixed ns ss m k) ∙ (sym (same k)
        ∙ (from_or_fixed ns ss m k ∙ (ap (λ z. is_in k (froms (moves_of ns ss)) || z) f ∙ last_false (is_in k (froms (moves_of ns ss))))))))

-- the message that comes k-th stands at the k-th slot
module _ (f : Folder) (all : List Move) where
  stand_all : (ns ss : List ℕ) → EachCame all (slots all) (moves_of ns ss) → ((k : ℕ) → is_in k (fixed ns ss) ≡ true → (is_in k (slots all) ≡ false) × (is_in k (froms all) ≡ false)) → StandInOrder f.messages (rearranged all (slots all) f).messages ns ss
  stand_all [] ss c g = tt
  stand_all (n ∷ ns) [] c g = tt
  stand_all (n ∷ ns) (s ∷ ss) c g = go (n == s) refl c g (stand_all ns ss)
    where
      go : (b : Bool) → (n == s) ≡ b → EachCame all (slots all) (with_pair b n s (moves_of ns ss)) → ((k : ℕ) → is_in k (if b then n ∷ fixed ns ss else fixed ns ss) ≡ true → (is_in k (slots all) ≡ false) × (is_in k (froms all) ≡ false))
          → (EachCame all (slots all) (moves_of ns ss) → ((k : ℕ) → is_in k (fixed ns ss) ≡ true → (is_in k (slots all) ≡ false) × (is_in k (froms all) ≡ false)) → StandInOrder f.messages (rearranged all (slots all) f).messages ns ss)
          → ((rearranged all (slots all) f).messages s ≡ f.messages n) × StandInOrder f.messages (rearranged all (slots all) f).messages ns ss
      go true w c g more =
          let here = g n (in_head n (fixed ns ss)) in
          (subst (λ z. (rearranged all (slots all) f).messages z ≡ f.messages n) (num_same n s w) (others_stay f all (slots all) n here.0 here.1), more c (λ k e. g k (in_tail n k (fixed ns ss) e)))
      go false w c g more = (ap (λ o. stood_at f.messages o (if is_in s (froms all) then None else f.messages s)) c.0, more c.1 g)

pub stand_in_order : (f : Folder) (ns ss : List ℕ) → AreDistinct ns → AreDistinct ss → StandInOrder f.messages (rearranged (moves_of ns ss) (slots (moves_of ns ss)) f).messages ns ss
stand_in_order f ns ss d e = stand_all f (moves_of ns ss) ns ss (each_came (moves_of ns ss) (slots_distinct ns ss e)) (λ k h. (fixed_no_slot ns ss e k h, fixed_no_from ns ss d k h))

-- a slot of a move from which nothing moves is none of the numbers
pub slot_unlisted : (ns ss : List ℕ) → length ns ≡ length ss → AreDistinct ss → (k : ℕ) → is_in k (slots (moves_of ns ss)) ≡ true → is_in k (froms (moves_of ns ss)) ≡ false → is_in k ns ≡ false
slot_unlisted ns ss m d k there off = from_or_fixed ns ss m k ∙ rw off (go (is_in k (fixed ns ss)) refl)
  where
    go : (b : Bool) → is_in k (fixed ns ss) ≡ b → b ≡ false
    go true e = absurd (not_both (is_in k (slots (moves_of ns ss))) there (fixed_no_slot ns ss d k e))
    go false e = refl

-- where all messages of the folder have a slot, just the slots have a message then
pub slots_alone : (f : Folder) (ns ss : List ℕ) → length ns ≡ length ss → AreDistinct ns → AreDistinct ss → ((k : ℕ) → is_some (f.messages k) ≡ is_in k ns) → (k : ℕ) → is_some ((rearranged (moves_of ns ss) (slots (moves_of ns ss)) f).messages k) ≡ is_in k ss
slots_alone f ns ss m d e all k = go (is_in k (slots (moves_of ns ss))) refl (is_in k (froms (moves_of ns ss))) refl
  where
    ms : List Move
    ms = moves_of ns ss

    new : Folder
    new = rearranged ms (slots ms) f

    came : is_in k (slots ms) ≡ true → is_some (new.messages k) ≡ true
    came i = moved_there f ms k i (λ n j. all n ∙ from_in ns ss n j)

    kept : is_in k (slots ms) ≡ false → is_in k (froms ms) ≡ false → is_in k ns ≡ is_in k ss
    kept off none = from_or_fixed ns ss m k ∙ (ap (λ z. z || is_in k (fixed ns ss)) (none ∙ sym off) ∙ sym (slot_or_fixed ns ss m k))

    went : is_in k (slots ms) ≡ false → is_in k (froms ms) ≡ true → is_in k ss ≡ false
    went off i = slot_or_fixed ns ss m k ∙ rw off (by (is_in k (fixed ns ss)) refl)
      where
        by : (b : Bool) → is_in k (fixed ns ss) ≡ b → b ≡ false
        by true q = absurd (not_both (is_in k (froms ms)) i (fixed_no_from ns ss d k q))
        by false q = refl

    go : (b : Bool) → is_in k (slots ms) ≡ b → (c : Bool) → is_in k (froms ms) ≡ c → is_some (new.messages k) ≡ is_in k ss
    go true i c j = came i ∙ sym (slot_in ns ss k i)
    go false off true i = ap is_some (left_free f ms (slots ms) k off i) ∙ sym (went off i)
    go false off false none = ap is_some (others_stay f ms (slots ms) k off none) ∙ (all k ∙ kept off none)

-- a case: messages of which the last is to be first
first_last : moves_of (3 ∷ (1 ∷ (2 ∷ (4 ∷ [])))) (1 ∷ (2 ∷ (3 ∷ (4 ∷ [])))) ≡ record { from = 3; slot = 1 } ∷ (record { from = 1; slot = 2 } ∷ (record { from = 2; slot = 3 } ∷ []))
first_last = refl
