-- Which messages stand where in a folder that moves rearranged.
use Rattle.std.proofs.Common.{◌≡◌, ◌||◌, ◌==◌, ℕ, Bool, true, false, List, [], ◌∷◌, Option, Some, None, refl, sym, ◌∙◌, ap}
use Rattle.std.specs.Prelude.{is_some, if◌then◌else◌}
use Rattle.file_plans.specs.Mailboxes.{Folder}
use Rattle.folder_files.proofs.Names.{not_both, num_itself}
use Rattle.held_messages.specs.Settle.{or_before}
use Rattle.message_places.specs.Places.{AreDistinct, froms, is_in, rearranged, slots, source_of, stood_at}
use Rattle.message_places.specs.declared.moves.Move.{Move}
use Rattle.message_places.proofs.Sources.{source_end, source_in}

-- each of these moves ended at its slot
abbrev pub EachCame : List Move → List ℕ → List Move → Type 0
EachCame all ends [] = Unit {0}
EachCame all ends (m ∷ ms) = (source_of all ends m.slot ≡ Some m.from) × EachCame all ends ms

no_source : (ms : List Move) (ends : List ℕ) (k : ℕ) → is_in k ends ≡ false → source_of ms ends k ≡ None
no_source ms ends k e = go (source_of ms ends k) refl
  where
    go : (o : Option ℕ) → source_of ms ends k ≡ o → o ≡ None
    go None f = refl
    go (Some n) f = absurd (not_both (is_in k ends) (source_end ms ends k (ap is_some f)) e)

came_more : (m : Move) (all : List Move) (ends : List ℕ) (x : ℕ) (ms : List Move) → EachCame all ends ms → EachCame (m ∷ all) (x ∷ ends) ms
came_more m all ends x [] f = tt
came_more m all ends x (n ∷ ms) f = (ap (λ o. or_before o (if x == n.slot then Some m.from else None)) f.0, came_more m all ends x ms f.1)

pub each_came : (ms : List Move) → AreDistinct (slots ms) → EachCame ms (slots ms) ms
each_came [] d = tt
each_came (m ∷ ms) d = (
  ap (λ o. or_before o (if m.slot == m.slot then Some m.from else None)) (no_source ms (slots ms) m.slot d.0) ∙ ap (λ b. if b then Some m.from else None) (num_itself m.slot),
  came_more m ms (slots ms) m.slot ms (each_came ms d.1),
)

-- each message stands at its slot
abbrev pub EachStands : Folder → Folder → List Move → Type 0
EachStands f g [] = Unit {0}
EachStands f g (m ∷ ms) = (g.messages m.slot ≡ f.messages m.from) × EachStands f g ms

stands_by : (f : Folder) (all : List Move) (ends : List ℕ) (ms : List Move) → EachCame all ends ms → EachStands f (rearranged all ends f) ms
stands_by f all ends [] e = tt
stands_by f all ends (m ∷ ms) e = (ap (λ o. stood_at f.messages o (if is_in m.slot (froms all) then None else f.messages m.slot)) e.0, stands_by f all ends ms e.1)

pub each_stands : (f : Folder) (ms : List Move) → AreDistinct (slots ms) → EachStands f (rearranged ms (slots ms) f) ms
each_stands f ms d = stands_by f ms (slots ms) ms (each_came ms d)

-- a number at which nothing came and from which nothing went is as before
pub others_stay : (f : Folder) (ms : List Move) (ends : List ℕ) (k : ℕ) → is_in k ends ≡ false → is_in k (froms ms) ≡ false → (rearranged ms ends f).messages k ≡ f.messages k
others_stay f ms ends k e g = ap (λ o. stood_at f.messages o (if is_in k (froms ms) then None else f.messages k)) (no_source ms ends k e) ∙ ap (λ b. if b then None else f.messages k) g

-- an old number to which nothing came is free
pub left_free : (f : Folder) (ms : List Move) (ends : List ℕ) (k : ℕ) → is_in k ends ≡ false → is_in k (froms ms) ≡ true → (rearranged ms ends f).messages k ≡ None
left_free f ms ends k e g = ap (λ o. stood_at f.messages o (if is_in k (froms ms) then None else f.messages k)) (no_source ms ends k e) ∙ ap (λ b. if b then None else f.messages k) g

has_source : (ms : List Move) (k : ℕ) → is_in k (slots ms) ≡ true → is_some (source_of ms (slots ms) k) ≡ true
has_source [] k e = absurd (cc (e))
has_source (m ∷ ms) k e = go (m.slot == k) e (source_of ms (slots ms) k) (has_source ms k)
  where
    go : (b : Bool) → b || is_in k (slots ms) ≡ true → (o : Option ℕ) → (is_in k (slots ms) ≡ true → is_some o ≡ true) → is_some (or_before o (if b then Some m.from else None)) ≡ true
    go b f (Some n) more = refl
    go true f None more = refl
    go false f None more = absurd (let z : false ≡ true = more f in cc (z))

-- at each slot stands a message, where there is one at each old number
pub moved_there : (f : Folder) (ms : List Move) (k : ℕ) → is_in k (slots ms) ≡ true → ((n : ℕ) → is_in n (froms ms) ≡ true → is_some (f.messages n) ≡ true) → is_some ((rearranged ms (slots ms) f).messages k) ≡ true
moved_there f ms k i stand = stood (source_of ms (slots ms) k) refl (has_source ms k i)
  where
    stood : (o : Option ℕ) → source_of ms (slots ms) k ≡ o → is_some o ≡ true → is_some (stood_at f.messages o (if is_in k (froms ms) then None else f.messages k)) ≡ true
    stood (Some n) e some = stand n (source_in ms (slots ms) k n e)
    stood None e some = absurd (cc (some))

-- where the slots are the old numbers, just the same numbers have a message
pub same_numbers : (f : Folder) (ms : List Move) → ((k : ℕ) → is_in k (slots ms) ≡ is_in k (froms ms)) → ((k : ℕ) → is_in k (froms ms) ≡ true → is_some (f.messages k) ≡ true) → (k : ℕ) → is_some ((rearranged ms (slots ms) f).messages k) ≡ is_some (f.messages k)
same_numbers f ms same stand k = go (is_in k (slots ms)) refl
  where
    go : (b : Bool) → is_in k (slots ms) ≡ b → is_some ((rearranged ms (slots ms) f).messages k) ≡ is_some (f.messages k)
    go true e = moved_there f ms k e stand ∙ sym (stand k (sym (same k) ∙ e))
    go false e = ap is_some (others_stay f ms (slots ms) k e (sym (same k) ∙ e))
