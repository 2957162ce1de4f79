-- Lines with the lines that continue them.
use Rattle.std.proofs.Common.{◌≡◌, ℕ, zero, suc, ◌+◌, ◌<◌, ◌≤◌, true, false, Option, Some, None, List, [], ◌∷◌, length, take, drop, ⊎_elim, refl, sym, ◌∙◌, ap, arith}
use Rattle.std.specs.Prelude.{◌&&◌, ◌==◌, not, MatchOption}
use Rattle.std.specs.List.{onto_first}
use Rattle.std.proofs.lemmas.Bool.{cases_Bool}
use Rattle.std.proofs.lemmas.List.{take_all}
use Rattle.mail_headers.specs.declared.field.Field.{Field}
use Rattle.mail_headers.specs.Fields.{FieldText, field_in, first_field, with_first, fields_of}
use Rattle.mail_headers.specs.Lines.{folded_len, continues}
use Rattle.mail_headers.specs.View.{field_text}
use Rattle.mail_headers.proofs.Folding.{folded_len-some, at_end, inside}
use Rattle.mh_profile.specs.Lines.{folded_lines}

longer : (b : ℕ) (bs : List ℕ) → b == 10 && not (continues bs) ≡ false → folded_len (b ∷ bs) ≡ suc (folded_len bs)
longer b bs e = let one : 1 + folded_len bs ≡ suc (folded_len bs) = omega arith in inside b bs e ∙ one

pub lines_end : (b : ℕ) (bs : List ℕ) → b == 10 && not (continues bs) ≡ true → folded_lines (b ∷ bs) ≡ (b ∷ []) ∷ folded_lines bs
unfolding folded_lines
lines_end b bs e = rw e refl

pub lines_inside : (b : ℕ) (bs : List ℕ) → b == 10 && not (continues bs) ≡ false → folded_lines (b ∷ bs) ≡ onto_first b (folded_lines bs)
unfolding folded_lines
lines_inside b bs e = rw e refl

-- no bytes have no lines
pub no_lines : folded_lines [] ≡ []
unfolding folded_lines
no_lines = refl

none_long : folded_len [] ≡ 0
unfolding folded_len
none_long = refl

-- a text is its first line, and the lines behind it
Cut : List ℕ → Type 0
Cut bytes = folded_lines bytes ≡ take (folded_len bytes) bytes ∷ folded_lines (drop (folded_len bytes) bytes)

cut_end : (b : ℕ) (bs : List ℕ) → b == 10 && not (continues bs) ≡ true → Cut (b ∷ bs)
unfolding Cut
cut_end b bs e = lines_end b bs e ∙ sym (ap (λ n. take n (b ∷ bs) ∷ folded_lines (drop n (b ∷ bs))) (at_end b bs e))

cut_more : (b : ℕ) (bs : List ℕ) → b == 10 && not (continues bs) ≡ false → Cut bs → Cut (b ∷ bs)
unfolding Cut
cut_more b bs e rest =
    lines_inside b bs e ∙ ap (onto_first b) rest ∙ sym (ap (λ n. take n (b ∷ bs) ∷ folded_lines (drop n (b ∷ bs))) (longer b bs e))

cut_last : (b : ℕ) → b == 10 && not (continues []) ≡ false → Cut (b ∷ [])
unfolding Cut
cut_last b e =
    lines_inside b [] e ∙ ap (onto_first b) no_lines
    ∙ sym (ap (λ n. take n (b ∷ []) ∷ folded_lines (drop n (b ∷ []))) (longer b [] e ∙ ap suc none_long) ∙ ap (λ ls. (b ∷ []) ∷ ls) no_lines)

cut : (b : ℕ) (bs : List ℕ) → Cut (b ∷ bs)
cut b [] = ⊎_elim (cut_end b []) (cut_last b) (cases_Bool (b == 10 && not (continues [])))
cut b (c ∷ cs) = ⊎_elim (cut_end b (c ∷ cs)) (λ e. cut_more b (c ∷ cs) e (cut c cs)) (cases_Bool (b == 10 && not (continues (c ∷ cs))))

pub cut_line : (bytes : List ℕ) → 0 < length bytes → folded_lines bytes ≡ take (folded_len bytes) bytes ∷ folded_lines (drop (folded_len bytes) bytes)
unfolding Cut
cut_line [] some = absurd (omega arith)
cut_line (b ∷ bs) some = cut b bs

head_kept : (n c : ℕ) (cs : List ℕ) → 1 ≤ n → continues (take n (c ∷ cs)) ≡ continues (c ∷ cs)
head_kept zero c cs some = absurd (omega arith)
head_kept (suc n) c cs some = refl

continues_kept : (bs : List ℕ) → continues (take (folded_len bs) bs) ≡ continues bs
continues_kept [] = ap (λ n. continues (take n [])) none_long
continues_kept (c ∷ cs) = head_kept (folded_len (c ∷ cs)) c cs (folded_len-some (c ∷ cs) (omega arith))

alone : (b : ℕ) → folded_len (b ∷ []) ≡ 1
alone b = ⊎_elim (at_end b []) (λ e. longer b [] e ∙ ap suc none_long) (cases_Bool (b == 10 && not (continues [])))

lone_end : (b : ℕ) (bs : List ℕ) → b == 10 && not (continues bs) ≡ true → folded_len (take (folded_len (b ∷ bs)) (b ∷ bs)) ≡ length (take (folded_len (b ∷ bs)) (b ∷ bs))
lone_end b bs e = rw (at_end b bs e) (alone b)

lone_more : (b : ℕ) (bs : List ℕ) → b == 10 && not (continues bs) ≡ false → folded_len (take (folded_len bs) bs) ≡ length (take (folded_len bs) bs) → folded_len (take (folded_len (b ∷ bs)) (b ∷ bs)) ≡ length (take (folded_len (b ∷ bs)) (b ∷ bs))
lone_more b bs e rest =
    let goes : b == 10 && not (continues (take (folded_len bs) bs)) ≡ false = ap (λ t. b == 10 && not t) (continues_kept bs) ∙ e in
    rw (longer b bs e) (longer b (take (folded_len bs) bs) goes ∙ ap suc rest)

-- a line with its continuations has no second one in it
lone : (bytes : List ℕ) → folded_len (take (folded_len bytes) bytes) ≡ length (take (folded_len bytes) bytes)
lone [] = rw none_long none_long
lone (b ∷ bs) = ⊎_elim (lone_end b bs) (λ e. lone_more b bs e (lone bs)) (cases_Bool (b == 10 && not (continues bs)))

-- so the field with which it begins is the field that it is
pub lone_field : (bytes : List ℕ) → first_field (take (folded_len bytes) bytes) ≡ field_in (take (folded_len bytes) bytes)
lone_field bytes =
    let line : List ℕ = take (folded_len bytes) bytes in
    ap field_in (ap (λ n. take n (take (folded_len bytes) bytes)) (lone bytes) ∙ take_all (length (take (folded_len bytes) bytes)) (take (folded_len bytes) bytes) (omega arith))

none_first : (o : Option FieldText) (fs : List FieldText) → with_first o fs ≡ [] → o ≡ None
none_first None fs e = refl
none_first (Some f) fs e = cc

some_first : (o : Option FieldText) (f : FieldText) (fs rest : List FieldText) → with_first o fs ≡ f ∷ rest → o ≡ Some f
some_first None f fs rest e = cc
some_first (Some g) f fs rest e = cc

no_field : first_field [] ≡ None
unfolding field_in folded_len
no_field = refl

first_none : (line : List ℕ) → fields_of line ≡ [] → first_field line ≡ None
unfolding fields_of
first_none [] e = no_field
first_none (b ∷ bs) e = none_first (first_field (b ∷ bs)) _ e

first_some : (line : List ℕ) (f : FieldText) (rest : List FieldText) → fields_of line ≡ f ∷ rest → first_field line ≡ Some f
unfolding fields_of
first_some [] f rest e = cc
first_some (b ∷ bs) f rest e = some_first (first_field (b ∷ bs)) f _ rest e

-- the first of the fields of a line
pub first_of : (line : List ℕ) (all rest : List FieldText) (r : Option Field) → all ≡ fields_of line → MatchOption r ((all ≡ []) × (rest ≡ [])) (λ f. all ≡ field_text f ∷ rest) → MatchOption r (first_field line ≡ None) (λ f. first_field line ≡ Some (field_text f))
first_of line all rest None is m = first_none line (sym is ∙ m.0)
first_of line all rest (Some f) is m = first_some line (field_text f) rest (sym is ∙ m)
