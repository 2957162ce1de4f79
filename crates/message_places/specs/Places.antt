-- Which message stands at which number, once messages of one folder changed places. Nothing here knows of steps.
use Rattle.std.specs.Prelude.{◌≡◌, ◌==◌, ◌∷◌, [], ℕ, Bool, false, List, Option, Some, None, map, if◌then◌else◌}
use Rattle.std.specs.List.{list_any}
use Rattle.mh_base.specs.Numbers.{IsMsgNum}
use Rattle.file_plans.specs.Mailboxes.{Folder}
use Rattle.held_messages.specs.Settle.{or_before}
use Rattle.message_places.specs.declared.moves.Move.{Move}

-- the numbers that the messages have
abbrev pub froms : List Move → List ℕ
froms ms = map (λ m. m.from) ms

-- the numbers that are meant for them
abbrev pub slots : List Move → List ℕ
slots ms = map (λ m. m.slot) ms

-- the number is one of these
abbrev pub is_in : ℕ → List ℕ → Bool
is_in k ns = list_any (λ n. n == k) ns

-- each is a number that a message may have
abbrev pub AreMsgNums : List ℕ → Type 0
AreMsgNums [] = Unit {0}
AreMsgNums (n ∷ ns) = IsMsgNum n × AreMsgNums ns

-- no number stands there twice
abbrev pub AreDistinct : List ℕ → Type 0
AreDistinct [] = Unit {0}
AreDistinct (n ∷ ns) = (is_in n ns ≡ false) × AreDistinct ns

-- the old number of the message that came to this one, where each move ended at the number beside it; of those that
-- ended here, the last
abbrev pub source_of : List Move → List ℕ → ℕ → Option ℕ
source_of [] ends k = None
source_of (m ∷ ms) [] k = None
source_of (m ∷ ms) (n ∷ ends) k = or_before (source_of ms ends k) (if n == k then Some m.from else None)

-- what stood at the old number; this where there is none
abbrev pub stood_at : {A : Type 0} → (ℕ → A) → Option ℕ → A → A
stood_at f None otherwise = otherwise
stood_at f (Some n) otherwise = f n

-- The folder once each move ended at the number beside it: there stands the message of its old number; the other old
-- numbers are free; all else is as before.
abbrev pub rearranged : List Move → List ℕ → Folder → Folder
rearranged ms ends f = record {
  messages = λ k. stood_at f.messages (source_of ms ends k) (if is_in k (froms ms) then None else f.messages k);
  removed = f.removed;
  held = f.held;
  sequences = f.sequences;
}
