-- Fields are entries.
use Rattle.std.proofs.Common.{◌≡◌, ℕ, suc, ◌+◌, Bool, true, false, Option, Some, None, List, [], ◌∷◌, length, take, ⊎_elim, refl, sym, ◌∙◌, ap, subst, arith}
use Rattle.std.specs.Prelude.{◌==◌, if◌then◌else◌}
use Rattle.std.specs.List.{list_all, prefix_len}
use Rattle.std.proofs.lemmas.Bool.{and_from, cases_Bool}
use Rattle.mail_headers.specs.Fields.{FieldText, field_in, field_by, first_field, name_in, after_colon, from_colon}
use Rattle.mail_headers.specs.Lines.{is_name_byte, folded_len}
use Rattle.mh_profile.specs.Names.{IsFieldName}
use Rattle.mh_profile.specs.Reading.{entry_of}
use Rattle.mh_profile.specs.Validity.{IsEntry}
use Rattle.mh_profile.proofs.OneLineValues.{IsUnfolded-unfolded}

prefix_passes : (p : ℕ → Bool) (xs : List ℕ) → list_all p (take (prefix_len p xs) xs) ≡ true
prefix_passes p [] = refl
prefix_passes p (x ∷ xs) = ⊎_elim
    (λ e. let on : 1 + prefix_len p xs ≡ suc (prefix_len p xs) = omega arith in rw e (rw on (and_from (p x) (list_all p (take (prefix_len p xs) xs)) e (prefix_passes p xs))))
    (λ e. rw e refl)
    (cases_Bool (p x))

some_name : (name : List ℕ) → length name == 0 ≡ false → list_all is_name_byte name ≡ true → IsFieldName name
some_name [] e clean = cc
some_name (b ∷ bs) e clean = record { some = omega arith; clean = clean }

named : (name : List ℕ) (o : Option (List ℕ)) (f : FieldText) → field_by name o ≡ Some f → name ≡ f.name
named name None f e = cc
named name (Some v) f e = let g : record { name = name; value = Rattle.mail_headers.specs.Lines.without_end v } ≡ f = cc in ap (λ x. x.name) g

-- the name of a field is a field's name
pub field_valid : (text : List ℕ) (f : FieldText) → field_in text ≡ Some f → IsFieldName f.name
unfolding field_in
field_valid text f e = ⊎_elim
    (λ t. let h : None ≡ Some f = sym (ap (λ b. if b then None else field_by (name_in text) (after_colon (from_colon text))) t) ∙ e in cc)
    (λ t. let h : field_by (name_in text) (after_colon (from_colon text)) ≡ Some f = sym (ap (λ b. if b then None else field_by (name_in text) (after_colon (from_colon text))) t) ∙ e in
    subst IsFieldName (named (name_in text) (after_colon (from_colon text)) f h) (some_name (name_in text) t (prefix_passes is_name_byte text)))
    (cases_Bool (length (name_in text) == 0))

-- a field with its value on one line is an entry
pub entry_valid : (bytes : List ℕ) (f : FieldText) → first_field bytes ≡ Some f → IsEntry (entry_of f)
entry_valid bytes f e = record { name = field_valid (take (folded_len bytes) bytes) f e; value = IsUnfolded-unfolded f.value }
