-- A run's own deeds, event by event.
use Rattle.std.proofs.Common.{◌≡◌, ◌++◌, ℕ, List, [], ◌∷◌, map, refl, sym, ◌∙◌, ap, append_assoc, append-nil, Bor}
use Rattle.std.proofs.lemmas.List.{map-append}
use Rattle.step_discipline.specs.Seen.{seen, seen_all}
use Rattle.folder_files.specs.Histories.{own, deed_of}
use Rattle.step_discipline.specs.declared.deed.DeedRef.{DeedRef}
use Rattle.folder_files.specs.declared.event.Event.{Event}
use Rattle.folder_files.proofs.OwnDeeds.{own_one}

pub own_nil : (run : ℕ) → own run [] ≡ []
unfolding own
own_nil run = refl

pub own_append : (run : ℕ) (a b : List Event) → own run (a ++ b) ≡ own run a ++ own run b
unfolding own
own_append run [] b = refl
own_append run (e ∷ a) b = ap (λ ds. deed_of run e ++ ds) (own_append run a b) ∙ sym (append_assoc (deed_of run e) (own run a) (own run b))

own_with : (run : ℕ) (es : List (Bor Event)) (e : Bor Event) → own run (map (λ x. x.now) (es ++ e ∷ [])) ≡ own run (map (λ x. x.now) es) ++ deed_of run e.now
own_with run es e = ap (own run) (map-append (λ x. x.now) es (e ∷ [])) ∙ own_append run (map (λ x. x.now) es) (e.now ∷ []) ∙ ap (λ ds. own run (map (λ x. x.now) es) ++ ds) (own_one run e.now)

-- one event more, which is a deed of the run
pub own_more : (run : ℕ) (ds : List DeedRef) (d : DeedRef) (es : List (Bor Event)) (e : Bor Event) → seen_all ds ≡ own run (map (λ x. x.now) es) → deed_of run e.now ≡ seen d ∷ []
    → seen_all (ds ++ d ∷ []) ≡ own run (map (λ x. x.now) (es ++ e ∷ []))
own_more run ds d es e h p = map-append seen ds (d ∷ []) ∙ ap (λ xs. xs ++ seen d ∷ []) h ∙ ap (λ ys. own run (map (λ x. x.now) es) ++ ys) (sym p) ∙ sym (own_with run es e)

-- or none
pub own_same : (run : ℕ) (ds : List DeedRef) (es : List (Bor Event)) (e : Bor Event) → seen_all ds ≡ own run (map (λ x. x.now) es) → deed_of run e.now ≡ []
    → seen_all ds ≡ own run (map (λ x. x.now) (es ++ e ∷ []))
own_same run ds es e h p = h ∙ sym (append-nil (own run (map (λ x. x.now) es))) ∙ ap (λ ys. own run (map (λ x. x.now) es) ++ ys) (sym p) ∙ sym (own_with run es e)
