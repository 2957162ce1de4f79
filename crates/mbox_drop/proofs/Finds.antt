-- The steps of the searches over a slice.
use Rattle.std.proofs.Common.{◌≡◌, ℕ, ◌+◌, ◌≤◌, ◌<◌, true, false, List, [], ◌∷◌, length, drop, get_or, refl, sym, ap, ◌∙◌}
use Rattle.std.proofs.lemmas.List.{drop_more, drop_all}
use Rattle.mbox_drop.specs.Places.{turn, is_inside, place_after}
use Rattle.mbox_drop.specs.Finding.{found, found_more, found_by, skipped}
use Rattle.mbox_drop.specs.declared.place.DropState.{DropState}
use Rattle.mbox_drop.specs.declared.place.Turn.{Turn}
use Rattle.mbox_drop.specs.declared.find.Found.{Found}
use Rattle.mbox_drop.specs.declared.find.Found.TheVariants.{Cut, End}

pub found-more : (base : ℕ) (f : Found) (i : ℕ) (bytes : List ℕ) → i < length bytes →
    found base f i (drop i bytes) ≡ found base (found_more base f i (get_or bytes i 0)) (i + 1) (drop (i + 1) bytes)
unfolding found
found-more base f i bytes h = ap (λ x. found base f i x) (drop_more bytes i 0 h)

pub found-cut : (base body next i : ℕ) (bytes : List ℕ) → found base (Cut body next) i bytes ≡ Cut body next
unfolding found
found-cut base body next i [] = refl
found-cut base body next i (b ∷ bs) = found-cut base body next (i + 1) bs

pub found-all : (base : ℕ) (f : Found) (i : ℕ) (bytes : List ℕ) → length bytes ≤ i → found base f i (drop i bytes) ≡ f
unfolding found
found-all base f i bytes h = ap (λ x. found base f i x) (drop_all i bytes h)

pub skipped-inside : (place : DropState) (i : ℕ) (bytes : List ℕ) → i < length bytes → is_inside place ≡ true → skipped place i (drop i bytes) ≡ record { place = place; next = i }
unfolding skipped
skipped-inside place i bytes h e = ap (λ x. skipped place i x) (drop_more bytes i 0 h) ∙ rw e refl

pub skipped-more : (place : DropState) (i : ℕ) (bytes : List ℕ) → i < length bytes → is_inside place ≡ false →
    skipped place i (drop i bytes) ≡ skipped (place_after (turn place (get_or bytes i 0))) (i + 1) (drop (i + 1) bytes)
unfolding skipped
skipped-more place i bytes h e = ap (λ x. skipped place i x) (drop_more bytes i 0 h) ∙ rw e refl

pub skipped-all : (place : DropState) (i : ℕ) (bytes : List ℕ) → length bytes ≤ i → skipped place i (drop i bytes) ≡ record { place = place; next = i }
unfolding skipped
skipped-all place i bytes h = ap (λ x. skipped place i x) (drop_all i bytes h)

-- a step of a search, where the turn of the byte is known
pub find_step : (base : ℕ) (place : DropState) (body i : ℕ) (bytes : List ℕ) (t : Turn) (f r : Found) → i < length bytes → t ≡ turn place (get_or bytes i 0) →
    found_by base body i t ≡ f → found base (End place body) i (drop i bytes) ≡ r → found base f (i + 1) (drop (i + 1) bytes) ≡ r
find_step base place body i bytes t f r h et ef e =
    ap (λ x. found base x (i + 1) (drop (i + 1) bytes)) (sym ef ∙ ap (λ x. found_by base body i x) et) ∙ sym (found-more base (End place body) i bytes h) ∙ e
