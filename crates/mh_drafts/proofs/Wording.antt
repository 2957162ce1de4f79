-- Words, one behind the other.
use Rattle.std.proofs.Common.{◌≡◌, ℕ, List, [], ◌∷◌, ◌++◌, map, sym, ◌∙◌, ap}
use Rattle.std.specs.Prelude.{filter}
use Rattle.std.specs.Borrow.{Bor}
use Rattle.std.proofs.lemmas.List.{map-append}
use Rattle.std.proofs.lemmas.List.Elements.{filter-append}
use Rattle.mail_text.specs.ShownBytes.{shown}
use Rattle.mh_base.specs.Characters.{is_some_text}

pub shown_more : (words : List (Bor (List ℕ))) (word : Bor (List ℕ)) (old new : List (List ℕ)) → new ≡ old ++ map shown (filter is_some_text (word.now ∷ [])) → old ≡ map shown (filter is_some_text (map (λ i. i.now) words)) → new ≡ map shown (filter is_some_text (map (λ i. i.now) (words ++ word ∷ [])))
shown_more words word old new put e =
    let texts = map (λ (i : Bor (List ℕ)). i.now) in
    put ∙ ap (λ l. l ++ map shown (filter is_some_text (word.now ∷ []))) e ∙ sym (map-append shown (filter is_some_text (texts words)) (filter is_some_text (word.now ∷ []))) ∙ ap (map shown) (sym (filter-append is_some_text (texts words) (word.now ∷ []))) ∙ ap (λ l. map shown (filter is_some_text l)) (sym (map-append (λ i. i.now) words (word ∷ [])))
