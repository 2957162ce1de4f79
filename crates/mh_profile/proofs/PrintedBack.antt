-- What is printed reads back.
use Rattle.std.proofs.Common.{◌≡◌, ℕ, suc, ◌+◌, ◌≤◌, Bool, true, false, Some, None, List, [], ◌∷◌, ◌++◌, length, take, drop, refl, ◌∙◌, ap, arith, append_assoc}
use Rattle.std.specs.Prelude.{◌&&◌, ◌==◌, not, nat_le, if◌then◌else◌}
use Rattle.std.specs.List.{list_all, onto_first, prefix_len}
use Rattle.std.proofs.lemmas.Bool.{and_parts, and_from, and_left, not-true, leb-true, ne_eqb}
use Rattle.std.proofs.lemmas.List.{take_at, drop_at}
use Rattle.mail_headers.specs.Fields.{field_in, field_by, name_in, after_name, from_colon, after_colon}
use Rattle.mail_headers.specs.Lines.{is_name_byte, continues, without_end}
use Rattle.mh_profile.specs.declared.named_value.NamedValue.{NamedValue}
use Rattle.mh_profile.specs.Lines.{folded_lines}
use Rattle.mh_profile.specs.Names.{IsFieldName}
use Rattle.mh_profile.specs.Values.{is_no_feed}
use Rattle.mh_profile.specs.Validity.{AreEntries, IsEntry}
use Rattle.mh_profile.specs.Printing.{printed_entry, printed}
use Rattle.mh_profile.specs.Reading.{entry_of, listed, first_of_each, entries_in}
use Rattle.mh_profile.proofs.FoldedLines.{lines_end, lines_inside, no_lines}
use Rattle.mh_profile.proofs.OneLineValues.{value_clean, value_read}
use Rattle.mh_profile.proofs.EntryLists.{first_of_each-same}
use Rattle.mh_base.specs.Characters.{is_blank}

is_printable : (b : ℕ) → is_name_byte b ≡ true → 33 ≤ b
is_printable b h = leb-true 33 b (and_parts (nat_le 33 b) (nat_le b 126) (and_parts (nat_le 33 b && nat_le b 126) (not (b == 58)) h).0).0

name_no_feed : (b : ℕ) → is_name_byte b ≡ true → is_no_feed b ≡ true
name_no_feed b h = let big = is_printable b h in ap not (ne_eqb b 10 (λ e. omega arith))

name_no_blank : (b : ℕ) → is_name_byte b ≡ true → is_blank b ≡ false
name_no_blank b h = let big = is_printable b h in rw (ne_eqb b 32 (λ e. omega arith), ne_eqb b 9 (λ e. omega arith)) refl

all_weaker : (p q : ℕ → Bool) → ((b : ℕ) → p b ≡ true → q b ≡ true) → (xs : List ℕ) → list_all p xs ≡ true → list_all q xs ≡ true
all_weaker p q on [] h = refl
all_weaker p q on (x ∷ xs) h = let parts = and_parts (p x) (list_all p xs) h in and_from (q x) (list_all q xs) (on x parts.0) (all_weaker p q on xs parts.1)

pub all_append : (p : ℕ → Bool) (xs ys : List ℕ) → list_all p xs ≡ true → list_all p ys ≡ true → list_all p (xs ++ ys) ≡ true
all_append p [] ys h k = k
all_append p (x ∷ xs) ys h k = let parts = and_parts (p x) (list_all p xs) h in and_from (p x) (list_all p (xs ++ ys)) parts.0 (all_append p xs ys parts.1 k)

-- a line that holds no line feed but at its end, before no blank
line_first : (l rest : List ℕ) → list_all is_no_feed l ≡ true → continues rest ≡ false → folded_lines (l ++ 10 ∷ [] ++ rest) ≡ (l ++ 10 ∷ []) ∷ folded_lines rest
line_first [] rest h stops = lines_end 10 rest (ap not stops)
line_first (c ∷ cs) rest h stops =
    let parts = and_parts (is_no_feed c) (list_all is_no_feed cs) h in
    let goes : c == 10 && not (continues (cs ++ 10 ∷ [] ++ rest)) ≡ false = and_left (c == 10) (not (continues (cs ++ 10 ∷ [] ++ rest))) (not-true (c == 10) parts.0) in
    lines_inside c (cs ++ 10 ∷ [] ++ rest) goes ∙ ap (onto_first c) (line_first cs rest parts.1 stops)

name_long : (name r : List ℕ) → list_all is_name_byte name ≡ true → prefix_len is_name_byte (name ++ 58 ∷ r) ≡ length name
name_long [] r h = refl
name_long (c ∷ cs) r h =
    let parts = and_parts (is_name_byte c) (list_all is_name_byte cs) h in
    let rest : 1 + prefix_len is_name_byte (cs ++ 58 ∷ r) ≡ suc (length cs) = omega (arith, name_long cs r parts.1) in
    rw parts.0 rest

some_name : (name : List ℕ) → 1 ≤ length name → length name == 0 ≡ false
some_name name some = ne_eqb (length name) 0 (λ e. omega arith)

-- the field that a name, a colon and a text are
pub field_here : (name r : List ℕ) → IsFieldName name → field_in (name ++ 58 ∷ r) ≡ Some (record { name = name; value = without_end r })
unfolding field_in
field_here name r is =
    let long = name_long name r is.clean in
    let front : name_in (name ++ 58 ∷ r) ≡ name = ap (λ n. take n (name ++ 58 ∷ r)) long ∙ take_at name (58 ∷ r) (length name) refl in
    let behind : after_name (name ++ 58 ∷ r) ≡ 58 ∷ r = ap (λ n. drop n (name ++ 58 ∷ r)) long ∙ drop_at name (58 ∷ r) (length name) refl in
    ap (λ n. if length n == 0 then None else field_by n (after_colon (from_colon (name ++ 58 ∷ r)))) front
    ∙ ap (λ b. if b then None else field_by name (after_colon (from_colon (name ++ 58 ∷ r)))) (some_name name is.some)
    ∙ ap (λ t. field_by name (after_colon (drop (prefix_len is_blank t) t))) behind

-- the line of an entry, as a name, a colon and a text
pub line_is : (e : NamedValue) → printed_entry e ≡ e.name ++ 58 ∷ (32 ∷ e.value ++ 10 ∷ [])
line_is e = append_assoc (e.name ++ 58 ∷ 32 ∷ []) e.value (10 ∷ []) ∙ append_assoc e.name (58 ∷ 32 ∷ []) (e.value ++ 10 ∷ [])

entry_here : (e : NamedValue) → IsEntry e → (ls : List (List ℕ)) → listed (printed_entry e ∷ ls) ≡ e ∷ listed ls
entry_here e is ls =
    ap (λ l. listed (l ∷ ls)) (line_is e)
    ∙ ap (λ f. Rattle.std.proofs.Common.map entry_of (Rattle.std.specs.List.cons_option f (Rattle.std.specs.List.filter_map field_in ls))) (field_here e.name (32 ∷ e.value ++ 10 ∷ []) is.name)
    ∙ ap (λ v. record { name = e.name; value = v } ∷ listed ls) (value_read e.value is.value)

pub starts : (name r : List ℕ) → IsFieldName name → continues (name ++ r) ≡ false
starts [] r is = absurd (omega (arith, is.some))
starts (c ∷ cs) r is = name_no_blank c (and_parts (is_name_byte c) (list_all is_name_byte cs) is.clean).0

-- a printed text begins with no blank
printed_starts : (es : List NamedValue) → AreEntries es → continues (printed es) ≡ false
printed_starts [] h = refl
printed_starts (e ∷ es) h = ap (λ l. continues (l ++ printed es)) (line_is e) ∙ ap continues (append_assoc e.name (58 ∷ (32 ∷ e.value ++ 10 ∷ [])) (printed es)) ∙ starts e.name (58 ∷ (32 ∷ e.value ++ 10 ∷ []) ++ printed es) h.0.name

pub body_clean : (e : NamedValue) → IsEntry e → list_all is_no_feed (e.name ++ (58 ∷ 32 ∷ []) ++ e.value) ≡ true
body_clean e is =
    all_append is_no_feed (e.name ++ 58 ∷ 32 ∷ []) e.value
    (all_append is_no_feed e.name (58 ∷ 32 ∷ []) (all_weaker is_name_byte is_no_feed name_no_feed e.name is.name.clean) refl)
    (value_clean e.value is.value)

-- each printed line is one
printed_lines : (es : List NamedValue) → AreEntries es → listed (folded_lines (printed es)) ≡ es
printed_lines [] h = ap listed no_lines
printed_lines (e ∷ es) h =
    ap listed (line_first (e.name ++ (58 ∷ 32 ∷ []) ++ e.value) (printed es) (body_clean e h.0) (printed_starts es h.2))
    ∙ entry_here e h.0 (folded_lines (printed es))
    ∙ ap (λ l. e ∷ l) (printed_lines es h.2)

-- entries, printed and read, are themselves
pub reads_back : (es : List NamedValue) → AreEntries es → entries_in (printed es) ≡ es
unfolding entries_in
reads_back es h = ap first_of_each (printed_lines es h) ∙ first_of_each-same es h
