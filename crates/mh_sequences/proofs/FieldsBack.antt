-- Printed entries are fields again.
use Rattle.std.proofs.Common.{◌≡◌, ℕ, ◌≤◌, true, false, Some, List, [], ◌∷◌, ◌++◌, length, map, take, drop, refl, sym, ◌∙◌, ap, arith, append_assoc}
use Rattle.std.specs.Prelude.{bytes_eq, ◌&&◌, ◌||◌, ◌==◌, not, nat_le}
use Rattle.std.specs.List.{list_all, list_any}
use Rattle.std.specs.Char.{is_ascii_alphanumeric}
use Rattle.std.proofs.lemmas.Bool.{and_parts, and_from, and_left, not-true, le-leb, ne_eqb, both_ways}
use Rattle.std.proofs.lemmas.List.{take_at, drop_at}
use Rattle.mail_headers.specs.Fields.{FieldText, field_in, fields_of, with_first}
use Rattle.mail_headers.specs.Lines.{is_name_byte, continues, folded_len, without_end}
use Rattle.mail_headers.proofs.Folding.{at_end, inside}
use Rattle.mail_headers.proofs.Walking.{fields_of-step, fields_none, none_in}
use Rattle.mh_profile.specs.declared.named_value.NamedValue.{NamedValue}
use Rattle.mh_profile.specs.Names.{IsFieldName}
use Rattle.mh_profile.specs.Values.{is_no_feed}
use Rattle.mh_profile.specs.Validity.{IsEntry}
use Rattle.mh_profile.specs.Printing.{printed_entry, printed}
use Rattle.mh_profile.proofs.PrintedBack.{field_here, line_is, starts, body_clean}
use Rattle.mh_profile.proofs.OneLineValues.{value_read}
use Rattle.mh_sequences.specs.Names.{is_seq_name, begins_with_letter}
use Rattle.mh_sequences.specs.Lists.{lists}
use Rattle.mh_sequences.specs.Reading.{lists_public, has_field}
use Rattle.mh_sequences.proofs.AsciiNames.{name_bytes, name_starts, low}

-- each has a field's name and a value on one line
abbrev pub AllEntries : List NamedValue → Type 0
AllEntries [] = Unit {0}
AllEntries (e ∷ es) = IsEntry e × AllEntries es

-- the field that an entry's line is
abbrev pub shown : NamedValue → FieldText
shown e = record { name = e.name; value = without_end (32 ∷ e.value ++ (10 ∷ [])) }

line_len : (l rest : List ℕ) → list_all is_no_feed l ≡ true → continues rest ≡ false → folded_len ((l ++ (10 ∷ [])) ++ rest) ≡ length (l ++ (10 ∷ []))
line_len [] rest h stops = at_end 10 rest (ap not stops)
line_len (c ∷ cs) rest h stops =
    let parts = and_parts (is_no_feed c) (list_all is_no_feed cs) h in
    let goes : c == 10 && not (continues ((cs ++ (10 ∷ [])) ++ rest)) ≡ false = and_left (c == 10) (not (continues ((cs ++ (10 ∷ [])) ++ rest))) (not-true (c == 10) parts.0) in
    let rest_len = line_len cs rest parts.1 stops in
    inside c ((cs ++ (10 ∷ [])) ++ rest) goes ∙ omega arith

no_blank_first : (es : List NamedValue) → AllEntries es → continues (printed es) ≡ false
no_blank_first [] h = refl
no_blank_first (e ∷ es) h = ap (λ l. continues (l ++ printed es)) (line_is e) ∙ ap continues (append_assoc e.name (58 ∷ (32 ∷ e.value ++ (10 ∷ []))) (printed es)) ∙ starts e.name (58 ∷ (32 ∷ e.value ++ (10 ∷ [])) ++ printed es) h.0.name

line_field : (e : NamedValue) → IsEntry e → field_in (printed_entry e) ≡ Some (shown e)
line_field e is = ap field_in (line_is e) ∙ field_here e.name (32 ∷ e.value ++ (10 ∷ [])) is.name

pub fields_printed : (es : List NamedValue) → AllEntries es → fields_of (printed es) ≡ map shown es
fields_printed [] h = fields_none [] none_in
fields_printed (e ∷ es) h =
    let n = line_len (e.name ++ (58 ∷ 32 ∷ []) ++ e.value) (printed es) (body_clean e h.0) (no_blank_first es h.1) in
    let bytes : List ℕ = printed_entry e ++ printed es in
    fields_of-step bytes
    ∙ ap (λ k. with_first (field_in (take k bytes)) (fields_of (drop k bytes))) n
    ∙ (λ i. with_first (field_in (take_at (printed_entry e) (printed es) (length (printed_entry e)) refl i)) (fields_of (drop_at (printed_entry e) (printed es) (length (printed_entry e)) refl i)))
    ∙ (λ i. with_first (line_field e h.0 i) (fields_printed es h.1 i))

-- what they list is what the entries list
pub lists_shown : (es : List NamedValue) → AllEntries es → (name : List ℕ) (n : ℕ) → lists_public (map shown es) name n ≡ list_any (λ e. bytes_eq e.name name && lists e.value n) es
lists_shown [] h name n = refl
lists_shown (e ∷ es) h name n = λ i. (bytes_eq e.name name && lists (value_read e.value h.0.value i) n) || lists_shown es h.1 name n i

pub names_shown : (es : List NamedValue) (name : List ℕ) → has_field (map shown es) name ≡ list_any (λ e. bytes_eq e.name name) es
names_shown [] name = refl
names_shown (e ∷ es) name = ap (λ b. bytes_eq e.name name || b) (names_shown es name)

name_byte : (b : ℕ) → is_ascii_alphanumeric b ≡ true → is_name_byte b ≡ true
name_byte b h =
    let r = low b h in
    and_from (nat_le 33 b && nat_le b 126) (not (b == 58)) (and_from (nat_le 33 b) (nat_le b 126) (le-leb 33 b (omega arith)) (le-leb b 126 (omega arith))) (ap not (ne_eqb b 58 (λ e. both_ways (is_ascii_alphanumeric 58) refl (ap is_ascii_alphanumeric (sym e) ∙ h))))

bytes_named : (xs : List ℕ) → list_all is_ascii_alphanumeric xs ≡ true → list_all is_name_byte xs ≡ true
bytes_named [] h = refl
bytes_named (x ∷ xs) h = let parts = and_parts (is_ascii_alphanumeric x) (list_all is_ascii_alphanumeric xs) h in and_from (is_name_byte x) (list_all is_name_byte xs) (name_byte x parts.0) (bytes_named xs parts.1)

not_empty : (xs : List ℕ) → begins_with_letter xs ≡ true → 1 ≤ length xs
not_empty [] h = cc
not_empty (x ∷ xs) h = omega arith

-- a sequence's name is a field's
pub field_name : (name : List ℕ) → is_seq_name name ≡ true → IsFieldName name
field_name name h = record { some = not_empty name (name_starts name h); clean = bytes_named name (name_bytes name h) }
