-- Moves, and what they come to, one after another.
use Rattle.std.proofs.Common.{◌≡◌, ◌≢◌, ◌<◌, ◌≤◌, ◌+◌, ◌==◌, ℕ, Bool, true, false, List, [], ◌∷◌, ◌++◌, length, drop, get_or, min, refl, sym, ap, ◌∙◌, arith, append_assoc, append-nil, ⊎_elim}
use Rattle.std.specs.Prelude.{if◌then◌else◌}
use Rattle.std.proofs.lemmas.Bool.{cases_lt}
use Rattle.std.proofs.lemmas.Bool.Decides.{nat_tests}
use Rattle.std.proofs.lemmas.List.{drop_all}
use Rattle.folder_files.specs.declared.place.Place.{Place}
use Rattle.message_places.specs.Order.{moves_of}
use Rattle.message_places.specs.declared.moves.Move.{Move}
use Rattle.opening_plans.specs.Opening.{Opened}
use Rattle.file_plans.specs.Plan.{Return}
use Rattle.std.specs.Prelude.{Ok}
use Rattle.mh_sequences.specs.Sequences.{Marked}
use Rattle.sortm_plans.specs.Moving.{marked_moved, moved_if, sequences_after}
use Rattle.step_plans.proofs.Rounds.{next}

abbrev pair_with : Bool → ℕ → ℕ → List Move → List Move
pair_with b n s ms = if b then ms else record { from = n; slot = s } ∷ ms

both : (ns ss : List ℕ) (i n s : ℕ) → i < min (length ns) (length ss) → n ≡ get_or ns i n → s ≡ get_or ss i s → moves_of (drop i ns) (drop i ss) ≡ pair_with (n == s) n s (moves_of (drop (i + 1) ns) (drop (i + 1) ss))
both ns ss i n s h en es = λ j. moves_of (next ns i n (omega (arith, h)) en j) (next ss i s (omega (arith, h)) es j)

stays : (n s : ℕ) → n ≡ s → (n == s) ≡ true
stays n s e = grind (arith, nat_tests)

goes : (n s : ℕ) → n ≢ s → (n == s) ≡ false
goes n s e = grind (arith, nat_tests)

-- a message that keeps its number
pub one_stays : (ns ss : List ℕ) (ms : List Move) (i n s : ℕ) → i < min (length ns) (length ss) → n ≡ get_or ns i n → s ≡ get_or ss i s → n ≡ s
    → ms ++ moves_of (drop i ns) (drop i ss) ≡ moves_of ns ss → ms ++ moves_of (drop (i + 1) ns) (drop (i + 1) ss) ≡ moves_of ns ss
one_stays ns ss ms i n s h en es e was = ap (λ l. ms ++ l) (sym (both ns ss i n s h en es ∙ ap (λ b. pair_with b n s (moves_of (drop (i + 1) ns) (drop (i + 1) ss))) (stays n s e))) ∙ was

-- one that gets another
pub one_goes : (ns ss : List ℕ) (ms new : List Move) (i n s : ℕ) → i < min (length ns) (length ss) → n ≡ get_or ns i n → s ≡ get_or ss i s → n ≢ s → new ≡ ms ++ record { from = n; slot = s } ∷ []
    → ms ++ moves_of (drop i ns) (drop i ss) ≡ moves_of ns ss → new ++ moves_of (drop (i + 1) ns) (drop (i + 1) ss) ≡ moves_of ns ss
one_goes ns ss ms new i n s h en es e put was =
    ap (λ l. l ++ moves_of (drop (i + 1) ns) (drop (i + 1) ss)) put ∙ append_assoc ms (record { from = n; slot = s } ∷ []) (moves_of (drop (i + 1) ns) (drop (i + 1) ss))
    ∙ ap (λ l. ms ++ l) (sym (both ns ss i n s h en es ∙ ap (λ b. pair_with b n s (moves_of (drop (i + 1) ns) (drop (i + 1) ss))) (goes n s e))) ∙ was

no_slots : (ns : List ℕ) → moves_of ns [] ≡ []
no_slots [] = refl
no_slots (n ∷ ns) = refl

none_left : (ns ss : List ℕ) (i : ℕ) → min (length ns) (length ss) ≤ i → moves_of (drop i ns) (drop i ss) ≡ []
none_left ns ss i h = ⊎_elim (λ lt. ap (moves_of (drop i ns)) (drop_all i ss (omega (arith, h, lt))) ∙ no_slots (drop i ns)) (λ ge. ap (λ l. moves_of l (drop i ss)) (drop_all i ns ge)) (cases_lt i (length ns))

pub all_gone : (ns ss : List ℕ) (ms : List Move) (i : ℕ) → min (length ns) (length ss) ≤ i → ms ++ moves_of (drop i ns) (drop i ss) ≡ moves_of ns ss → ms ≡ moves_of ns ss
all_gone ns ss ms i h was = sym (append-nil ms) ∙ ap (λ l. ms ++ l) (sym (none_left ns ss i h)) ∙ was

some : (n : ℕ) → 1 ≤ n → (n == 0) ≡ false
some n le = grind (arith, nat_tests)

-- whether there are moves
pub by_none : (run : ℕ) (mail : Place) (o : Opened) (takes : List ℕ) (ms : List Move) → (length ms == 0) ≡ true → moved_if run mail o takes ms ≡ Return (Ok [])
by_none run mail o takes [] e = refl
by_none run mail o takes (m ∷ ms) e = absurd (let no : true ≡ false = sym e ∙ some (length (m ∷ ms)) (omega arith) in cc (no))

pub by_moves : (run : ℕ) (mail : Place) (o : Opened) (takes : List ℕ) (ms : List Move) → (length ms == 0) ≡ false → moved_if run mail o takes ms ≡ marked_moved run mail o takes ms
by_moves run mail o takes [] e = cc (e)
by_moves run mail o takes (m ∷ ms) e = refl

-- the sequences then
pub none_after : (ms : List Move) (ends : List ℕ) (m : Marked) → (length ms == 0) ≡ true → sequences_after ms ends m ≡ m
none_after [] ends m e = refl
none_after (x ∷ ms) ends m e = absurd (let no : true ≡ false = sym e ∙ some (length (x ∷ ms)) (omega arith) in cc (no))
