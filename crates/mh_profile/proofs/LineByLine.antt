-- One line after another.
use Rattle.std.proofs.Common.{◌≡◌, ℕ, suc, ◌<◌, true, false, Option, Some, None, List, [], ◌∷◌, length, take, drop, map, sym, ◌∙◌, ap, arith, length-drop}
use Rattle.std.specs.Prelude.{◌==◌}
use Rattle.std.specs.List.{cons_option, filter_map}
use Rattle.std.proofs.lemmas.Bool.{eqb-false, eqb-true}
use Rattle.mail_headers.specs.Fields.{FieldText, field_in, first_field}
use Rattle.mail_headers.specs.Lines.{folded_len}
use Rattle.mh_profile.specs.declared.named_value.NamedValue.{NamedValue}
use Rattle.mh_profile.specs.Lines.{folded_lines}
use Rattle.mh_profile.specs.Reading.{entry_of, listed, IsEntryOf}
use Rattle.mh_profile.specs.Changes.{noted}
use Rattle.mh_profile.proofs.FoldedLines.{cut_line, lone_field, no_lines}
use Rattle.mail_headers.proofs.Folding.{folded_len-some}
use Rattle.mh_profile.proofs.EntryLists.{more_of, more_of-noted, more_of-end}

pub some_left : (n : ℕ) → n == 0 ≡ false → 0 < n
some_left n e = let other = eqb-false n 0 e in omega arith

pub shorter : (rest : List ℕ) (n : ℕ) → n ≡ folded_len rest → 0 < length rest → length (drop n rest) < length rest
shorter [] n is some = absurd (omega arith)
shorter (b ∷ bs) n is some = let taken = folded_len-some (b ∷ bs) (omega arith) in omega (arith, length-drop n (b ∷ bs))

listed_line : (line : List ℕ) (o : Option FieldText) (ls : List (List ℕ)) → field_in line ≡ o → listed (line ∷ ls) ≡ map entry_of (cons_option o (filter_map field_in ls))
listed_line line o ls e = ap (λ f. map entry_of (cons_option f (filter_map field_in ls))) e

module _ (rest line behind : List ℕ) (n : ℕ) (is : n ≡ folded_len rest) (front : line ≡ take n rest) (back : behind ≡ drop n rest) (some : 0 < length rest) where
  pub fewer : length behind < length rest
  fewer = rw back (shorter rest n is some)

  lines : folded_lines rest ≡ line ∷ folded_lines behind
  lines = cut_line rest some ∙ ap (λ k. take k rest ∷ folded_lines (drop k rest)) (sym is) ∙ (λ i. sym front i ∷ folded_lines (sym back i))

  field_is : field_in line ≡ first_field line
  field_is = ap field_in (front ∙ ap (λ k. take k rest) is) ∙ sym (lone_field rest) ∙ ap first_field (sym (front ∙ ap (λ k. take k rest) is))

  -- the line is an entry
  pub step_some : (kept now all : List NamedValue) (e : NamedValue) → IsEntryOf line (Some e) → now ≡ noted kept e → more_of kept (listed (folded_lines rest)) ≡ all → more_of now (listed (folded_lines behind)) ≡ all
  step_some kept now all e found then h =
      ap (λ es. more_of es (listed (folded_lines behind))) then
      ∙ sym (more_of-noted kept e (listed (folded_lines behind)))
      ∙ ap (λ x. more_of kept (x ∷ listed (folded_lines behind))) found.2
      ∙ ap (more_of kept) (sym (ap listed lines ∙ listed_line line (Some found.0) (folded_lines behind) (field_is ∙ found.1)))
      ∙ h

  -- or none
  pub step_none : (kept all : List NamedValue) → IsEntryOf line None → more_of kept (listed (folded_lines rest)) ≡ all → more_of kept (listed (folded_lines behind)) ≡ all
  step_none kept all none h =
      ap (more_of kept) (sym (ap listed lines ∙ listed_line line None (folded_lines behind) (field_is ∙ none)))
      ∙ h

pub ended : (rest : List ℕ) (kept all : List NamedValue) → length rest == 0 ≡ true → more_of kept (listed (folded_lines rest)) ≡ all → kept ≡ all
ended [] kept all e h = sym (more_of-end kept) ∙ ap (λ ls. more_of kept (listed ls)) (sym no_lines) ∙ h
ended (b ∷ bs) kept all e h = absurd (apart (length bs) e)
  where
    apart : (n : ℕ) → suc n == 0 ≡ true → ⊥
    apart n e = let z = eqb-true (suc n) 0 e in omega arith
