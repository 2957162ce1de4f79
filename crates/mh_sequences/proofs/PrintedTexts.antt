-- Texts written one sequence after another.
use Rattle.std.proofs.Common.{◌≡◌, ℕ, Bool, true, false, List, [], ◌∷◌, ◌++◌, map, filter, refl, sym, ◌∙◌, ap, append_assoc}
use Rattle.std.specs.Prelude.{cond}
use Rattle.std.proofs.lemmas.Grind.{flat_map-append}
use Rattle.mh_profile.specs.declared.named_value.NamedValue.{NamedValue}
use Rattle.mh_profile.specs.Printing.{printed_entry, printed}
use Rattle.mh_sequences.specs.Printing.{is_shown, is_private, entry_of, private_entry, private_entries}
use Rattle.mh_sequences.specs.Sequences.{Sequence}

chosen : (p : Sequence → Bool) (f : Sequence → NamedValue) (s : Sequence) (ss : List Sequence) → map f (filter p (s ∷ [])) ++ map f (filter p ss) ≡ map f (filter p (s ∷ ss))
chosen p f s ss = by (p s)
  where
    by : (b : Bool) → map f (cond b (s ∷ []) []) ++ map f (filter p ss) ≡ map f (cond b (s ∷ filter p ss) (filter p ss))
    by true = refl
    by false = refl

pub line_more : (before : Bool) (whole old now : List ℕ) (s : Sequence) (ss : List Sequence) → now ≡ old ++ printed (map entry_of (filter (is_shown before) (s ∷ []))) → old ++ printed (map entry_of (filter (is_shown before) (s ∷ ss))) ≡ whole → now ++ printed (map entry_of (filter (is_shown before) ss)) ≡ whole
line_more before whole old now s ss step was =
    ap (λ t. t ++ printed (map entry_of (filter (is_shown before) ss))) step
    ∙ append_assoc old (printed (map entry_of (filter (is_shown before) (s ∷ [])))) (printed (map entry_of (filter (is_shown before) ss)))
    ∙ ap (λ t. old ++ t) (sym (flat_map-append printed_entry (map entry_of (filter (is_shown before) (s ∷ []))) (map entry_of (filter (is_shown before) ss))))
    ∙ ap (λ es. old ++ printed es) (chosen (is_shown before) entry_of s ss)
    ∙ was

pub private_more : (ending : List ℕ) (whole old now : List NamedValue) (s : Sequence) (ss : List Sequence) → now ≡ old ++ private_entries ending (s ∷ []) → old ++ private_entries ending (s ∷ ss) ≡ whole → now ++ private_entries ending ss ≡ whole
private_more ending whole old now s ss step was =
    ap (λ t. t ++ private_entries ending ss) step
    ∙ append_assoc old (private_entries ending (s ∷ [])) (private_entries ending ss)
    ∙ ap (λ es. old ++ es) (chosen is_private (private_entry ending) s ss)
    ∙ was
