-- Words of the program's own, as characters.
use Rattle.std.proofs.Common.{◌≡◌, refl, ℕ, List, ◌++◌, ◌∷◌, [], ◌∙◌, sym, ap}
use Rattle.std.specs.Prelude.{codes, map, filter, length, Result, Ok, Err, IfOk}
use Rattle.std.specs.Borrow.{Bor}
use Rattle.std.specs.Str.{chars}
use Rattle.std.proofs.lemmas.List.{map-append}
use Rattle.std.proofs.lemmas.List.Elements.{filter-append}
use Rattle.mail_text.specs.ShownBytes.{shown}
use Rattle.command_words.specs.MessageWords.{names_or}
use Rattle.mh_base.specs.Characters.{is_some_text}

pub chars_all : chars (codes "all") ≡ codes "all"
unfolding chars
chars_all = refl

pub chars_cur : chars (codes "cur") ≡ codes "cur"
unfolding chars
chars_cur = refl

pub shown_more : (parts : List (Bor (List ℕ))) (part : Bor (List ℕ)) (old new : List (List ℕ)) → new ≡ old ++ map shown (filter is_some_text (part.now ∷ [])) → old ≡ map shown (filter is_some_text (map (λ i. i.now) parts)) → new ≡ map shown (filter is_some_text (map (λ i. i.now) (parts ++ part ∷ [])))
shown_more parts part old new put e =
    let texts = map (λ (i : Bor (List ℕ)). i.now) in
    put ∙ ap (λ l. l ++ map shown (filter is_some_text (part.now ∷ []))) e ∙ sym (map-append shown (filter is_some_text (texts parts)) (filter is_some_text (part.now ∷ []))) ∙ ap (map shown) (sym (filter-append is_some_text (texts parts) (part.now ∷ []))) ∙ ap (λ l. map shown (filter is_some_text l)) (sym (map-append (λ i. i.now) parts (part ∷ [])))

-- a text that is one of these characters
pub if_text : {E : Type 0} (r : Result (List ℕ) E) (a b : List ℕ) → a ≡ b → IfOk r (λ t. t ≡ a) → IfOk r (λ t. t ≡ b)
if_text (Ok t) a b e is = is ∙ e
if_text (Err e) a b same is = tt

pub if_names : {E : Type 0} (r : Result (List (List ℕ)) E) (a b : List (List ℕ)) → a ≡ b → IfOk r (λ t. t ≡ a) → IfOk r (λ t. t ≡ b)
if_names (Ok t) a b e is = is ∙ e
if_names (Err e) a b same is = tt

pub names_some : (d : List ℕ) (names : List (List ℕ)) → (length names ≡ 0 → ⊥) → names ≡ names_or d names
names_some d [] some = absurd (some refl)
names_some d (name ∷ names) some = refl

pub names_none : (d : List ℕ) (names : List (List ℕ)) → length names ≡ 0 → names_or d names ≡ d ∷ []
names_none d [] none = refl
names_none d (name ∷ names) none = cc
