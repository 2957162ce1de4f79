-- The lines annotate a message.
use Rattle.std.proofs.Common.{◌≡◌, ℕ, ◌+◌, ◌<◌, ◌==◌, ◌&&◌, not, true, false, List, [], ◌∷◌, ◌++◌, length, take, Option, None, Some, IfSome, refl, sym, ap, ◌∙◌, arith, codes, bytes_eq}
use Rattle.std.proofs.Math.Bool.{and-true}
use Rattle.std.proofs.Math.Seq.{take-append_seam, get_or-append_seam}
use Rattle.std.specs.List.{All, list_all, slice_split, prefix_len}
use Rattle.std.proofs.lemmas.Bool.{and_parts, and_from, cond-true, cond-false, false≢true, ne_eqb}
use Rattle.std.proofs.lemmas.Bool.Decides.{nat_tests}
use Rattle.std.proofs.lemmas.List.{append-nil, append_assoc, take_at, drop_at}
use Rattle.std.proofs.lemmas.List.Elements.{All-append, All-cons, All-nil, All-weaker}
use Rattle.std.proofs.lemmas.List.Splits.{slice_split_none, slice_split_at}
use Rattle.std.proofs.lemmas.List.Sums.{AllPass-from_list_all}
use Rattle.mail_dates.specs.declared.mail_date.MailDate.{MailDate}
use Rattle.mail_dates.specs.Shown.{tws_of}
use Rattle.mail_headers.specs.Lines.{is_name_byte}
use Rattle.mail_headers.specs.Fields.{name_in, after_name}
use Rattle.folder_files.specs.Annotations.{is_annotation, are_annotations}
use Rattle.folder_files.proofs.Noting.{last_place, some}
use Rattle.annotation_lines.specs.Lines.{line_of, annotation_lines, is_component, is_line_byte, is_on_a_line}
use Rattle.annotation_lines.proofs.Showing.{no_ends}

-- no byte of the text is a line feed
abbrev HasNoFeed : List ℕ → Type 0
HasNoFeed text = All (λ b. (b == 10) ≡ false) text

-- a line without its feed
abbrev line_without : List ℕ → List ℕ → List ℕ
line_without component text = component ++ codes ": " ++ text

-- a text that ends in a line feed is annotation lines where all lines before it are such
fed : (rest : List ℕ) → are_annotations (rest ++ 10 ∷ []) ≡ list_all is_annotation (slice_split (λ b. b == 10) rest)
fed rest = rw (some rest 10, last_place rest 10, get_or-append_seam rest 10 [] 0, take-append_seam rest (10 ∷ [])) refl

-- a name ends where a byte stands that no name has
name_len : (name rest : List ℕ) (b : ℕ) → list_all is_name_byte name ≡ true → is_name_byte b ≡ false → prefix_len is_name_byte (name ++ b ∷ rest) ≡ length name
name_len [] rest b all ends = cond-false (is_name_byte b) (1 + prefix_len is_name_byte rest) 0 ends
name_len (x ∷ name) rest b all ends =
    let parts = and_parts (is_name_byte x) (list_all is_name_byte name) all in
    let behind = name_len name rest b parts.1 ends in
    cond-true (is_name_byte x) (1 + prefix_len is_name_byte (name ++ b ∷ rest)) 0 parts.0 ∙ omega arith

-- what stands before the colon is the name
name_is : (name rest : List ℕ) → list_all is_name_byte name ≡ true → name_in (name ++ 58 ∷ rest) ≡ name
name_is name rest all = take_at name (58 ∷ rest) (prefix_len is_name_byte (name ++ 58 ∷ rest)) (sym (name_len name rest 58 all refl))

after_is : (name rest : List ℕ) → list_all is_name_byte name ≡ true → after_name (name ++ 58 ∷ rest) ≡ 58 ∷ rest
after_is name rest all = drop_at name (58 ∷ rest) (prefix_len is_name_byte (name ++ 58 ∷ rest)) (sym (name_len name rest 58 all refl))

named : (name text : List ℕ) → list_all is_name_byte name ≡ true → is_annotation (line_without name text) ≡ not (bytes_eq name [])
named name text all =
    ap is_annotation (append_assoc name (codes ": ") text)
    ∙ (λ k. not (bytes_eq (name_is name (32 ∷ text) all k) []) && bytes_eq (take 2 (after_is name (32 ∷ text) all k)) (codes ": "))
    ∙ and-true (not (bytes_eq name []))

-- a line under the name of a field annotates a message
annotated : (component text : List ℕ) → is_component component ≡ true → is_annotation (line_without component text) ≡ true
annotated [] text name = absurd (false≢true name)
annotated (b ∷ component) text name = named (b ∷ component) text name

no_feed_in_name : (b : ℕ) → is_name_byte b ≡ true → (b == 10) ≡ false
no_feed_in_name b name = grind (arith, nat_tests)

no_feed_on_a_line : (b : ℕ) → is_line_byte b ≡ true → (b == 10) ≡ false
no_feed_on_a_line b line = grind (arith, nat_tests)

name_has_none : (component : List ℕ) → is_component component ≡ true → HasNoFeed component
name_has_none [] name = absurd (false≢true name)
name_has_none (b ∷ component) name =
    All-weaker (λ x. is_name_byte x ≡ true) (λ x. (x == 10) ≡ false) no_feed_in_name (b ∷ component) (AllPass-from_list_all is_name_byte (b ∷ component) name)

line_has_none : (component text : List ℕ) → is_component component ≡ true → HasNoFeed text → HasNoFeed (line_without component text)
line_has_none component text name none =
    let P = λ (b : ℕ). (b == 10) ≡ false in
    let colon : HasNoFeed (codes ": ") = All-cons P 58 (32 ∷ []) refl (All-cons P 32 [] refl (All-nil P)) in
    All-append P (component ++ codes ": ") text (All-append P component (codes ": ") (name_has_none component name) colon) none

one_line : (component text : List ℕ) → is_component component ≡ true → HasNoFeed text → are_annotations (line_of component text) ≡ true
one_line component text name none =
    let line = line_without component text in
    fed line ∙ ap (list_all is_annotation) (slice_split_none (λ b. b == 10) line (line_has_none component text name none))
    ∙ and_from (is_annotation line) true (annotated component text name) refl

two_lines : (component first text : List ℕ) → is_component component ≡ true → HasNoFeed first → HasNoFeed text → are_annotations (line_of component first ++ line_of component text) ≡ true
two_lines component first text name free none =
    let a = line_without component first in
    let b = line_without component text in
    let parts : slice_split (λ x. x == 10) (a ++ 10 ∷ [] ++ b) ≡ a ∷ b ∷ [] =
    ap (slice_split (λ x. x == 10)) (append_assoc a (10 ∷ []) b) ∙ slice_split_at (λ x. x == 10) a 10 b (line_has_none component first name free) refl
    ∙ ap (λ rest. a ∷ rest) (slice_split_none (λ x. x == 10) b (line_has_none component text name none)) in
    ap are_annotations (sym (append_assoc (a ++ 10 ∷ []) b (10 ∷ []))) ∙ fed (a ++ 10 ∷ [] ++ b) ∙ ap (list_all is_annotation) parts
    ∙ and_from (is_annotation a) (is_annotation b && true) (annotated component first name) (and_from (is_annotation b) true (annotated component text name) refl)

date_has_none : (date : MailDate) → HasNoFeed (tws_of date)
date_has_none date = All-weaker (λ b. 31 < b) (λ b. (b == 10) ≡ false) (λ b h. ne_eqb b 10 (λ e. omega arith)) (tws_of date) (no_ends date)

text_has_none : (text : List ℕ) → is_on_a_line text ≡ true → HasNoFeed text
text_has_none text line = All-weaker (λ b. is_line_byte b ≡ true) (λ b. (b == 10) ≡ false) no_feed_on_a_line text (AllPass-from_list_all is_line_byte text line)

-- under the name of a field, with a text on one line, the lines are ones that annotate a message
pub lines_annotate : (component : List ℕ) (date : Option MailDate) (text : Option (List ℕ)) → is_component component ≡ true → IfSome text (λ t. is_on_a_line t ≡ true) →
    are_annotations (annotation_lines component date text) ≡ true
lines_annotate component None None name line = refl
lines_annotate component None (Some text) name line = one_line component text name (text_has_none text line)
lines_annotate component (Some date) None name line =
    ap are_annotations (append-nil (line_of component (tws_of date))) ∙ one_line component (tws_of date) name (date_has_none date)
lines_annotate component (Some date) (Some text) name line = two_lines component (tws_of date) text name (date_has_none date) (text_has_none text line)
