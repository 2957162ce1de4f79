-- Messages that were moved by the moves of an order stand at their slots in that order.
use Rattle.std.proofs.Common.{◌≡◌, ◌==◌, ◌&&◌, ◌||◌, ℕ, Bool, true, false, List, [], ◌∷◌, None, length, refl, sym, ◌∙◌, ap, subst}
use Rattle.std.specs.Prelude.{if◌then◌else◌}
use Rattle.folder_files.proofs.Names.{num_same, or_false}
use Rattle.file_plans.specs.Mailboxes.{Folder}
use Rattle.message_places.specs.Order.{StandInOrder, moves_of}
use Rattle.message_places.specs.Places.{AreDistinct, froms, is_in, rearranged, slots}
use Rattle.message_places.proofs.InOrder.{from_in, slot_in, stand_in_order, suc_same}
use Rattle.message_places.proofs.NumberLists.{none_in}
use Rattle.message_places.proofs.Standing.{others_stay}
use Rattle.sortm_plans.specs.SortOutcome.{comes_from, in_order_at}
use Rattle.sortm_plans.proofs.Cleared.{unheld}

-- at a number that is no slot the same message stands
stays_at : (ns ss : List ℕ) (k : ℕ) → is_in k ss ≡ false → comes_from ns ss k ≡ k
stays_at [] ss k e = refl
stays_at (n ∷ ns) [] k e = refl
stays_at (n ∷ ns) (s ∷ ss) k e = let o = or_false (s == k) (is_in k ss) e in rw o.0 (stays_at ns ss k o.1)

-- at a slot that one which came there
came_at : {A : Type 0} (before after : ℕ → A) (ns ss : List ℕ) → length ns ≡ length ss → (k : ℕ) → is_in k ss ≡ true → StandInOrder before after ns ss → after k ≡ before (comes_from ns ss k)
came_at before after [] [] m k e f = absurd (cc (e))
came_at before after [] (s ∷ ss) m k e f = cc
came_at before after (n ∷ ns) [] m k e f = cc
came_at {A = A} before after (n ∷ ns) (s ∷ ss) m k e f = go (s == k) refl e (λ i. came_at before after ns ss (suc_same (length ns) (length ss) m) k i f.1)
  where
    go : (b : Bool) → (s == k) ≡ b → b || is_in k ss ≡ true → (is_in k ss ≡ true → after k ≡ before (comes_from ns ss k)) → after k ≡ before (if b then n else comes_from ns ss k)
    go true w i more = subst (λ z. after z ≡ before n) (num_same s k w) f.0
    go false w i more = more i

module _ (ns ss : List ℕ) (many : length ns ≡ length ss) (d : AreDistinct ns) (e : AreDistinct ss) (same : (k : ℕ) → is_in k ns ≡ is_in k ss) where
  pub stands_at : (f : Folder) (k : ℕ) → (rearranged (moves_of ns ss) (slots (moves_of ns ss)) f).messages k ≡ f.messages (comes_from ns ss k)
  stands_at f k = go (is_in k ss) refl
    where
      go : (b : Bool) → is_in k ss ≡ b → (rearranged (moves_of ns ss) (slots (moves_of ns ss)) f).messages k ≡ f.messages (comes_from ns ss k)
      go true i = came_at f.messages (rearranged (moves_of ns ss) (slots (moves_of ns ss)) f).messages ns ss many k i (stand_in_order f ns ss d e)
      go false i =
          others_stay f (moves_of ns ss) (slots (moves_of ns ss)) k (none_in (slots (moves_of ns ss)) ss k (slot_in ns ss k) i) (none_in (froms (moves_of ns ss)) ns k (from_in ns ss k) (same k ∙ i))
          ∙ ap f.messages (sym (stays_at ns ss k i))

  -- what the moves make of the folder, where the run holds none of them aside any more
  pub in_order_so : (run : ℕ) (f : Folder) → rearranged (moves_of ns ss) (slots (moves_of ns ss)) (unheld run (slots (moves_of ns ss)) f) ≡ in_order_at run ns ss f
  in_order_so run f = λ i. record {
    messages = λ k. stands_at (unheld run (slots (moves_of ns ss)) f) k i;
    removed = f.removed;
    held = λ r k. if (run == r) && is_in k (slots (moves_of ns ss)) then None else f.held r k;
    sequences = f.sequences;
  }
