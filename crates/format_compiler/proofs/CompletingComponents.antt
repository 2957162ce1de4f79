-- The names of components, up to where they are wrong.
use Rattle.std.proofs.Common.{◌≡◌, inl, inr, ℕ, ◌==◌, List, [], ◌∷◌, ◌++◌, Ok, Err, refl, sym, ap, ◌∙◌}
use Rattle.std.proofs.lemmas.List.{append_assoc}
use Rattle.format_compiler.specs.Calls.{closed_component_in}
use Rattle.format_compiler.specs.Components.{braced, component_in, is_name_character}
use Rattle.format_compiler.proofs.Completing.{closed_seen, either_seen, equal, Reads, Seen}
use Rattle.format_compiler.proofs.TwoParts.{by_parts, EachIs, each_more, far}

name_reads : (n : ℕ) (name : List ℕ) → EachIs is_name_character (n ∷ name) → Reads component_in ((n ∷ name) ++ 125 ∷ []) (n ∷ name)
name_reads n name each whole rest =
    let f = far is_name_character (n ∷ name) (125 ∷ rest) each refl in
    ap (component_in whole) (append_assoc (n ∷ name) (125 ∷ []) rest) ∙ (λ i. braced whole (f.taken i) (f.dropped i))

-- a name that is not closed, or empty
unnamed : (name : List ℕ) → EachIs is_name_character name → Reads component_in (name ++ 97 ∷ (125 ∷ [])) (name ++ 97 ∷ [])
unnamed [] each whole rest = name_reads 97 [] (refl, tt) whole rest
unnamed (n ∷ name) each whole rest =
    ap (λ z. component_in whole (n ∷ (z ++ rest))) (sym (append_assoc name (97 ∷ []) (125 ∷ [])))
    ∙ name_reads n (name ++ 97 ∷ []) (each_more is_name_character (n ∷ name) 97 each refl) whole rest

braced_seen : (whole name rest : List ℕ) → EachIs is_name_character name → Seen (λ left. left ≡ whole) component_in (name ++ rest) (braced whole name rest)
braced_seen whole name [] each = inl (record { front = name; parts = refl; more = 97 ∷ (125 ∷ []); value = name ++ 97 ∷ []; reads = unnamed name each })
braced_seen whole [] (c ∷ rest) each = inr refl
braced_seen whole (n ∷ name) (c ∷ rest) each =
    either_seen (λ left. left ≡ whole) component_in ((n ∷ name) ++ c ∷ rest) (c == 125) (Ok (n ∷ name, rest)) (Err whole)
    (λ is. record {
      front = (n ∷ name) ++ 125 ∷ [];
      parts = append_assoc (n ∷ name) (125 ∷ []) rest ∙ ap (λ z. (n ∷ name) ++ z ∷ rest) (sym (equal c 125 is));
      reads = name_reads n name each;
    })
    (λ other. inr refl)

pub component_seen : (whole text : List ℕ) → Seen (λ left. left ≡ whole) component_in text (component_in whole text)
component_seen whole text =
    by_parts is_name_character (λ t name rest. Seen (λ left. left ≡ whole) component_in t (braced whole name rest)) text
    (λ name rest each stops. braced_seen whole name rest each)

pub closed_component_seen : (whole text : List ℕ) → Seen (λ left. left ≡ whole) closed_component_in text (closed_component_in whole text)
closed_component_seen whole text =
    closed_seen (λ name. name) component_in (λ left. left ≡ whole) (λ left. left ≡ whole) text (λ left b. inr b) (component_in whole text) (component_seen whole text)
