-- What a value's parts show is what its marks show.
use Rattle.std.proofs.Common.{◌≡◌, ℕ, suc, ◌+◌, eqb, Bool, true, false, List, [], ◌∷◌, ◌++◌, map, take, drop, filter, refl, sym, ap, subst, ◌∙◌, arith, append_assoc, append-nil}
use Rattle.std.proofs.lemmas.Bool.{and_parts}
use Rattle.std.proofs.lemmas.Bool.Decides.{nat_tests}
use Rattle.std.specs.Prelude.{◌==◌, ◌&&◌, if◌then◌else◌}
use Rattle.std.specs.List.{flat_map, list_all, list_any, position_or_len, before_first, after_first}
use Rattle.mail_text.specs.declared.address.Shown.{Shown}
use Rattle.mail_text.specs.declared.marks.Inside.TheVariants.{Nothing, Quotes, ProtectedInQuotes, Comments, ProtectedInComments, Brackets}
use Rattle.mail_text.specs.declared.marks.Mark.{Mark}
use Rattle.mail_text.specs.declared.marks.Surrounding.{Surrounding}
use Rattle.mail_text.specs.declared.marks.Surrounding.TheVariants.{Outside, InQuotes, Comment as InComment, WithinComment, Elsewhere}
use Rattle.mail_text.specs.Marks.{place_of, is_outside, is_in_comment, is_in_one_comment}
use Rattle.mail_text.specs.Addresses.{is_bracket, opens_comment, closes_comment, is_of_name, is_plain as is_plain_mark, closes_bracket, characters_in, trimmed, first_address, note_of, pers_of, addr_of, mbox_in, host_in}
use Rattle.mail_text.specs.ShownAddress.{shown_address}
use Rattle.mail_text.specs.AddressParts.{Part, QuotedItem, CommentText, UnclosedText, Stop, is_quoted, is_bracketed, item_text, stop_text, comment_text, unclosed_text, is_unclosed, UnclosedIsLast, AreParts, is_comma, comment_in, address_in, without_comment, name_in, in_first, has_brackets, note_in, pers_in, addr_in, shown_by}
use Rattle.mail_text.specs.AddressParts.QuotedItem.{Character, Protected}
use Rattle.mail_text.specs.AddressParts.CommentText.{Ends, HasCharacter, HasProtected, HasComment}
use Rattle.mail_text.specs.AddressParts.Stop.{AtItem, AtBackslash}
use Rattle.mail_text.specs.AddressParts.UnclosedText.{Stops, StopsInComment}
use Rattle.mail_text.specs.AddressParts.Part.{Plain, Quoted, UnclosedQuoted, Comment, UnclosedComment, Bracketed, UnclosedBracketed}
use Rattle.mail_text.proofs.PartMarks.{at, item_marks, stop_marks, comment_marks, unclosed_marks, sign, more_marks, part_marks, none_of_two, none_of_three, not_true, parts_read}

-- lists of marks

-- no mark is so
abbrev Never : (Mark → Bool) → List Mark → Type 0
Never q [] = Unit {0}
Never q (m ∷ ms) = (q m ≡ false) × Never q ms

never_both : (q : Mark → Bool) (a b : List Mark) → Never q a → Never q b → Never q (a ++ b)
never_both q [] b na nb = nb
never_both q (m ∷ a) b na nb = (na.0, never_both q a b na.1 nb)

before_stop : {X : Type 0} (q : X → Bool) (m : X) (ms : List X) → q m ≡ true → before_first q (m ∷ ms) ≡ []
before_stop q m ms e = rw e refl

before_pass : {X : Type 0} (q : X → Bool) (m : X) (ms : List X) → q m ≡ false → before_first q (m ∷ ms) ≡ m ∷ before_first q ms
before_pass q m ms e =
    let one : position_or_len q (m ∷ ms) ≡ suc (position_or_len q ms) = rw e (omega arith) in
    ap (λ n. take n (m ∷ ms)) one

after_stop : (q : Mark → Bool) (m : Mark) (ms : List Mark) → q m ≡ true → after_first q (m ∷ ms) ≡ ms
after_stop q m ms e = rw e refl

after_pass : (q : Mark → Bool) (m : Mark) (ms : List Mark) → q m ≡ false → after_first q (m ∷ ms) ≡ after_first q ms
after_pass q m ms e =
    let one : position_or_len q (m ∷ ms) + 1 ≡ suc (position_or_len q ms + 1) = rw e (omega arith) in
    ap (λ n. drop n (m ∷ ms)) one

any_stop : {X : Type 0} (q : X → Bool) (m : X) (ms : List X) → q m ≡ true → list_any q (m ∷ ms) ≡ true
any_stop q m ms e = rw e refl

any_pass : {X : Type 0} (q : X → Bool) (m : X) (ms : List X) → q m ≡ false → list_any q (m ∷ ms) ≡ list_any q ms
any_pass q m ms e = rw e refl

before_skip : (q : Mark → Bool) (ms rest : List Mark) → Never q ms → before_first q (ms ++ rest) ≡ ms ++ before_first q rest
before_skip q [] rest none = refl
before_skip q (m ∷ ms) rest none = before_pass q m (ms ++ rest) none.0 ∙ ap (λ x. m ∷ x) (before_skip q ms rest none.1)

after_skip : (q : Mark → Bool) (ms rest : List Mark) → Never q ms → after_first q (ms ++ rest) ≡ after_first q rest
after_skip q [] rest none = refl
after_skip q (m ∷ ms) rest none = after_pass q m (ms ++ rest) none.0 ∙ after_skip q ms rest none.1

any_skip : (q : Mark → Bool) (ms rest : List Mark) → Never q ms → list_any q (ms ++ rest) ≡ list_any q rest
any_skip q [] rest none = refl
any_skip q (m ∷ ms) rest none = any_pass q m (ms ++ rest) none.0 ∙ any_skip q ms rest none.1

before_none : (q : Mark → Bool) (ms : List Mark) → Never q ms → before_first q ms ≡ ms
before_none q ms none = ap (before_first q) (sym (append-nil ms)) ∙ before_skip q ms [] none ∙ append-nil ms

characters_both : (a b : List Mark) → characters_in (a ++ b) ≡ characters_in a ++ characters_in b
characters_both [] b = refl
characters_both (m ∷ a) b = ap (λ x. m.c ∷ x) (characters_both a b)

-- the characters of the marks that are so
abbrev kept : (Mark → Bool) → List Mark → List ℕ
kept q ms = characters_in (filter q ms)

kept_one : (q : Mark → Bool) (m : Mark) (ms : List Mark) → q m ≡ true → kept q (m ∷ ms) ≡ m.c ∷ kept q ms
kept_one q m ms e = rw e refl

left_out : (q : Mark → Bool) (m : Mark) (ms : List Mark) → q m ≡ false → kept q (m ∷ ms) ≡ kept q ms
left_out q m ms e = rw e refl

kept_by : (q : Mark → Bool) (t : Bool) (m : Mark) (a b : List Mark) → q m ≡ t → kept q (a ++ b) ≡ kept q a ++ kept q b → kept q (m ∷ (a ++ b)) ≡ kept q (m ∷ a) ++ kept q b
kept_by q true m a b e more = kept_one q m (a ++ b) e ∙ ap (λ x. m.c ∷ x) more ∙ ap (λ x. x ++ kept q b) (sym (kept_one q m a e))
kept_by q false m a b e more = left_out q m (a ++ b) e ∙ more ∙ ap (λ x. x ++ kept q b) (sym (left_out q m a e))

kept_both : (q : Mark → Bool) (a b : List Mark) → kept q (a ++ b) ≡ kept q a ++ kept q b
kept_both q [] b = refl
kept_both q (m ∷ a) b = kept_by q (q m) m a b refl (kept_both q a b)

none_kept : (q : Mark → Bool) (ms : List Mark) → Never q ms → kept q ms ≡ []
none_kept q [] none = refl
none_kept q (m ∷ ms) none = left_out q m ms none.0 ∙ none_kept q ms none.1

-- signs outside quotes, comments and brackets

abbrev outside : ℕ → Mark → Bool
outside k m = is_outside m.place && m.c == k

in_comments : (d : ℕ) → is_in_comment (place_of (Comments d)) ≡ true
in_comments d = either (d == 0)
  where
    either : (t : Bool) → is_in_comment (if t then InComment else WithinComment) ≡ true
    either true = refl
    either false = refl

comment_never : (q : Mark → Bool) → ((m : Mark) → is_in_comment m.place ≡ true → q m ≡ false) → (d : ℕ) (inside : CommentText) → Never q (comment_marks d inside)
comment_never q is d Ends = tt
comment_never q is d (HasCharacter c free more) = (is (at (Comments d) c) (in_comments d), comment_never q is d more)
comment_never q is d (HasProtected c more) = (is (at (Comments d) 92) (in_comments d), (is (at (ProtectedInComments d) c) refl, comment_never q is d more))
comment_never q is d (HasComment inner more) = (
  is (at (Comments d) 40) (in_comments d),
  never_both q (comment_marks (d + 1) inner) (at (Comments (d + 1)) 41 ∷ comment_marks d more) (comment_never q is (d + 1) inner)
      (is (at (Comments (d + 1)) 41) (in_comments (d + 1)), comment_never q is d more),
)

stop_never : (q : Mark → Bool) (d : ℕ) (stop : Stop) → q (at (Comments d) 92) ≡ false → Never q (stop_marks (Comments d) stop)
stop_never q d AtItem e = tt
stop_never q d AtBackslash e = (e, tt)

unclosed_never : (q : Mark → Bool) → ((m : Mark) → is_in_comment m.place ≡ true → q m ≡ false) → (d : ℕ) (inside : UnclosedText) → Never q (unclosed_marks d inside)
unclosed_never q is d (Stops front stop) =
    never_both q (comment_marks d front) (stop_marks (Comments d) stop) (comment_never q is d front) (stop_never q d stop (is (at (Comments d) 92) (in_comments d)))
unclosed_never q is d (StopsInComment front inner) =
    never_both q (comment_marks d front) (at (Comments d) 40 ∷ unclosed_marks (d + 1) inner) (comment_never q is d front)
    (is (at (Comments d) 40) (in_comments d), unclosed_never q is (d + 1) inner)

by_place : (place : Surrounding) → is_in_comment place ≡ true → is_outside place ≡ false
by_place Outside e = cc e
by_place InQuotes e = refl
by_place InComment e = refl
by_place WithinComment e = refl
by_place Elsewhere e = refl

not_outside : (k : ℕ) (m : Mark) → is_in_comment m.place ≡ true → outside k m ≡ false
not_outside k m e = rw (by_place m.place e) refl

quoted_never : (k : ℕ) (items : List QuotedItem) → Never (outside k) (flat_map item_marks items)
quoted_never k [] = tt
quoted_never k (Character c free ∷ items) = (refl, quoted_never k items)
quoted_never k (Protected c ∷ items) = (refl, (refl, quoted_never k items))

quoted_stop_never : (k : ℕ) (stop : Stop) → Never (outside k) (stop_marks Quotes stop)
quoted_stop_never k AtItem = tt
quoted_stop_never k AtBackslash = (refl, tt)

brackets_never : (k : ℕ) (address : List ℕ) → Never (outside k) (map (at Brackets) address)
brackets_never k [] = tt
brackets_never k (c ∷ address) = (refl, brackets_never k address)

more_never : (k : ℕ) (p : Part) → Never (outside k) (more_marks p)
more_never k (Plain c free) = tt
more_never k (Quoted items) = never_both (outside k) (flat_map item_marks items) (at Quotes 34 ∷ []) (quoted_never k items) (refl, tt)
more_never k (UnclosedQuoted items stop) = never_both (outside k) (flat_map item_marks items) (stop_marks Quotes stop) (quoted_never k items) (quoted_stop_never k stop)
more_never k (Comment inside) =
    never_both (outside k) (comment_marks 0 inside) (at (Comments 0) 41 ∷ []) (comment_never (outside k) (not_outside k) 0 inside) (refl, tt)
more_never k (UnclosedComment inside) = unclosed_never (outside k) (not_outside k) 0 inside
more_never k (Bracketed address free) = never_both (outside k) (map (at Brackets) address) (at Brackets 62 ∷ []) (brackets_never k address) (refl, tt)
more_never k (UnclosedBracketed address free) = brackets_never k address

-- such a sign is the sign of a part

abbrev has_sign : ℕ → Part → Bool
has_sign k p = sign p == k

before_by : (t : Bool) (k : ℕ) (p : Part) (ps : List Part) → has_sign k p ≡ t → before_first (outside k) (flat_map part_marks ps) ≡ flat_map part_marks (before_first (has_sign k) ps) →
    before_first (outside k) (part_marks p ++ flat_map part_marks ps) ≡ flat_map part_marks (before_first (has_sign k) (p ∷ ps))
before_by true k p ps e more =
    before_stop (outside k) (at Nothing (sign p)) (more_marks p ++ flat_map part_marks ps) e ∙ ap (flat_map part_marks) (sym (before_stop (has_sign k) p ps e))
before_by false k p ps e more =
    before_pass (outside k) (at Nothing (sign p)) (more_marks p ++ flat_map part_marks ps) e
    ∙ ap (λ x. at Nothing (sign p) ∷ x) (before_skip (outside k) (more_marks p) (flat_map part_marks ps) (more_never k p) ∙ ap (λ x. more_marks p ++ x) more)
    ∙ ap (flat_map part_marks) (sym (before_pass (has_sign k) p ps e))

before_sign : (k : ℕ) (ps : List Part) → before_first (outside k) (flat_map part_marks ps) ≡ flat_map part_marks (before_first (has_sign k) ps)
before_sign k [] = refl
before_sign k (p ∷ ps) = before_by (has_sign k p) k p ps refl (before_sign k ps)

any_by : (t : Bool) (k : ℕ) (p : Part) (ps : List Part) → has_sign k p ≡ t → list_any (outside k) (flat_map part_marks ps) ≡ list_any (has_sign k) ps →
    list_any (outside k) (part_marks p ++ flat_map part_marks ps) ≡ list_any (has_sign k) (p ∷ ps)
any_by true k p ps e more =
    any_stop (outside k) (at Nothing (sign p)) (more_marks p ++ flat_map part_marks ps) e ∙ sym (any_stop (has_sign k) p ps e)
any_by false k p ps e more =
    any_pass (outside k) (at Nothing (sign p)) (more_marks p ++ flat_map part_marks ps) e ∙ any_skip (outside k) (more_marks p) (flat_map part_marks ps) (more_never k p) ∙ more
    ∙ sym (any_pass (has_sign k) p ps e)

any_sign : (k : ℕ) (ps : List Part) → list_any (outside k) (flat_map part_marks ps) ≡ list_any (has_sign k) ps
any_sign k [] = refl
any_sign k (p ∷ ps) = any_by (has_sign k p) k p ps refl (any_sign k ps)

-- the comma and the bracket

comma_sign : (p : Part) → has_sign 44 p ≡ is_comma p
comma_sign (Plain c free) = refl
comma_sign (Quoted items) = refl
comma_sign (UnclosedQuoted items stop) = refl
comma_sign (Comment inside) = refl
comma_sign (UnclosedComment inside) = refl
comma_sign (Bracketed address free) = refl
comma_sign (UnclosedBracketed address free) = refl

bracket_sign : (p : Part) → has_sign 60 p ≡ has_brackets p
bracket_sign (Plain c free) = let t = none_of_three (eqb c 34) (eqb c 40) (eqb c 60) free in t.2
bracket_sign (Quoted items) = refl
bracket_sign (UnclosedQuoted items stop) = refl
bracket_sign (Comment inside) = refl
bracket_sign (UnclosedComment inside) = refl
bracket_sign (Bracketed address free) = refl
bracket_sign (UnclosedBracketed address free) = refl

before_agree : (p q : Part → Bool) → ((x : Part) → p x ≡ q x) → (ps : List Part) → before_first p ps ≡ before_first q ps
before_agree p q same ps = ap (λ f. before_first f ps) (λ i x. same x i)

any_agree : (p q : Part → Bool) → ((x : Part) → p x ≡ q x) → (ps : List Part) → list_any p ps ≡ list_any q ps
any_agree p q same ps = ap (λ f. list_any f ps) (λ i x. same x i)

before_comma : (ps : List Part) → before_first (outside 44) (flat_map part_marks ps) ≡ flat_map part_marks (before_first is_comma ps)
before_comma ps = before_sign 44 ps ∙ ap (flat_map part_marks) (before_agree (has_sign 44) is_comma comma_sign ps)

before_bracket : (ps : List Part) → before_first is_bracket (flat_map part_marks ps) ≡ flat_map part_marks (before_first has_brackets ps)
before_bracket ps = before_sign 60 ps ∙ ap (flat_map part_marks) (before_agree (has_sign 60) has_brackets bracket_sign ps)

any_bracket : (ps : List Part) → list_any is_bracket (flat_map part_marks ps) ≡ list_any has_brackets ps
any_bracket ps = any_sign 60 ps ∙ any_agree (has_sign 60) has_brackets bracket_sign ps

-- the inside of a comment

and_no : (a : Bool) → (a && false) ≡ false
and_no true = refl
and_no false = refl

not_closing : (m : Mark) → eqb m.c 41 ≡ false → closes_comment m ≡ false
not_closing m e = rw e (and_no (is_in_one_comment m.place))

inner_closing : (d : ℕ) → closes_comment (at (Comments (d + 1)) 41) ≡ false
inner_closing d = let some : eqb (d + 1) 0 ≡ false = grind (arith, nat_tests) in rw some refl

no_closing : (d : ℕ) (inside : CommentText) → Never closes_comment (comment_marks d inside)
no_closing d Ends = tt
no_closing d (HasCharacter c free more) =
    let t = none_of_three (eqb c 40) (eqb c 41) (eqb c 92) free in
    (not_closing (at (Comments d) c) t.1, no_closing d more)
no_closing d (HasProtected c more) = (not_closing (at (Comments d) 92) refl, (refl, no_closing d more))
no_closing d (HasComment inner more) = (
  not_closing (at (Comments d) 40) refl,
  never_both closes_comment (comment_marks (d + 1) inner) (at (Comments (d + 1)) 41 ∷ comment_marks d more) (no_closing (d + 1) inner) (inner_closing d, no_closing d more),
)

no_unclosed_closing : (d : ℕ) (inside : UnclosedText) → Never closes_comment (unclosed_marks d inside)
no_unclosed_closing d (Stops front stop) =
    never_both closes_comment (comment_marks d front) (stop_marks (Comments d) stop) (no_closing d front) (stop_never closes_comment d stop (not_closing (at (Comments d) 92) refl))
no_unclosed_closing d (StopsInComment front inner) =
    never_both closes_comment (comment_marks d front) (at (Comments d) 40 ∷ unclosed_marks (d + 1) inner) (no_closing d front)
    (not_closing (at (Comments d) 40) refl, no_unclosed_closing (d + 1) inner)

comment_characters : (d : ℕ) (inside : CommentText) → characters_in (comment_marks d inside) ≡ comment_text inside
comment_characters d Ends = refl
comment_characters d (HasCharacter c free more) = ap (λ x. c ∷ x) (comment_characters d more)
comment_characters d (HasProtected c more) = ap (λ x. 92 ∷ c ∷ x) (comment_characters d more)
comment_characters d (HasComment inner more) =
    ap (λ x. 40 ∷ x)
    (characters_both (comment_marks (d + 1) inner) (at (Comments (d + 1)) 41 ∷ comment_marks d more) ∙ ap (λ x. x ++ 41 ∷ characters_in (comment_marks d more)) (comment_characters (d + 1) inner)
    ∙ ap (λ x. comment_text inner ++ 41 ∷ x) (comment_characters d more))

stop_characters : (d : ℕ) (stop : Stop) → characters_in (stop_marks (Comments d) stop) ≡ stop_text stop
stop_characters d AtItem = refl
stop_characters d AtBackslash = refl

unclosed_characters : (d : ℕ) (inside : UnclosedText) → characters_in (unclosed_marks d inside) ≡ unclosed_text inside
unclosed_characters d (Stops front stop) =
    characters_both (comment_marks d front) (stop_marks (Comments d) stop) ∙ ap (λ x. x ++ characters_in (stop_marks (Comments d) stop)) (comment_characters d front)
    ∙ ap (λ x. comment_text front ++ x) (stop_characters d stop)
unclosed_characters d (StopsInComment front inner) =
    characters_both (comment_marks d front) (at (Comments d) 40 ∷ unclosed_marks (d + 1) inner) ∙ ap (λ x. x ++ 40 ∷ characters_in (unclosed_marks (d + 1) inner)) (comment_characters d front)
    ∙ ap (λ x. comment_text front ++ 40 ∷ x) (unclosed_characters (d + 1) inner)

before_end : (q : Mark → Bool) (ms : List Mark) (m : Mark) (rest : List Mark) → Never q ms → q m ≡ true → before_first q ((ms ++ m ∷ []) ++ rest) ≡ ms
before_end q ms m rest none e =
    ap (before_first q) (append_assoc ms (m ∷ []) rest) ∙ before_skip q ms (m ∷ rest) none ∙ ap (λ x. ms ++ x) (before_stop q m rest e) ∙ append-nil ms

part_passed : (k : ℕ) (p : Part) (rest : List Mark) → has_sign k p ≡ false → after_first (outside k) (part_marks p ++ rest) ≡ after_first (outside k) rest
part_passed k p rest e = after_pass (outside k) (at Nothing (sign p)) (more_marks p ++ rest) e ∙ after_skip (outside k) (more_marks p) rest (more_never k p)

part_entered : (k : ℕ) (p : Part) (rest : List Mark) → has_sign k p ≡ true → after_first (outside k) (part_marks p ++ rest) ≡ more_marks p ++ rest
part_entered k p rest e = after_stop (outside k) (at Nothing (sign p)) (more_marks p ++ rest) e

abbrev up_to : (Mark → Bool) → List Mark → List ℕ
up_to q ms = characters_in (before_first q ms)

comment_shown : (ps : List Part) → UnclosedIsLast ps → up_to closes_comment (after_first opens_comment (flat_map part_marks ps)) ≡ in_first comment_in ps
comment_shown [] last = refl
comment_shown (Plain c free ∷ ps) last =
    let t = none_of_three (eqb c 34) (eqb c 40) (eqb c 60) free in
    ap (up_to closes_comment) (part_passed 40 (Plain c free) (flat_map part_marks ps) t.1) ∙ comment_shown ps last.1
comment_shown (Quoted items ∷ ps) last = ap (up_to closes_comment) (part_passed 40 (Quoted items) (flat_map part_marks ps) refl) ∙ comment_shown ps last.1
comment_shown (UnclosedQuoted items stop ∷ ps) last =
    ap (up_to closes_comment) (part_passed 40 (UnclosedQuoted items stop) (flat_map part_marks ps) refl) ∙ comment_shown ps last.1
comment_shown (Comment inside ∷ ps) last =
    ap (up_to closes_comment) (part_entered 40 (Comment inside) (flat_map part_marks ps) refl)
    ∙ ap characters_in (before_end closes_comment (comment_marks 0 inside) (at (Comments 0) 41) (flat_map part_marks ps) (no_closing 0 inside) refl) ∙ comment_characters 0 inside
comment_shown (UnclosedComment inside ∷ ps) last =
    ap (up_to closes_comment)
    (part_entered 40 (UnclosedComment inside) (flat_map part_marks ps) refl ∙ ap (λ x. unclosed_marks 0 inside ++ flat_map part_marks x) (last.0 refl) ∙ append-nil (unclosed_marks 0 inside))
    ∙ ap characters_in (before_none closes_comment (unclosed_marks 0 inside) (no_unclosed_closing 0 inside)) ∙ unclosed_characters 0 inside
comment_shown (Bracketed address free ∷ ps) last =
    ap (up_to closes_comment) (part_passed 40 (Bracketed address free) (flat_map part_marks ps) refl) ∙ comment_shown ps last.1
comment_shown (UnclosedBracketed address free ∷ ps) last =
    ap (up_to closes_comment) (part_passed 40 (UnclosedBracketed address free) (flat_map part_marks ps) refl) ∙ comment_shown ps last.1

-- the inside of brackets

no_bracket : (address : List ℕ) → list_all is_bracketed address ≡ true → Never closes_bracket (map (at Brackets) address)
no_bracket [] free = tt
no_bracket (c ∷ address) free =
    let both = and_parts (is_bracketed c) (list_all is_bracketed address) free in
    (not_true (eqb c 62) both.0, no_bracket address both.1)

bracket_characters : (address : List ℕ) → characters_in (map (at Brackets) address) ≡ address
bracket_characters [] = refl
bracket_characters (c ∷ address) = ap (λ x. c ∷ x) (bracket_characters address)

address_shown : (ps : List Part) → UnclosedIsLast ps → up_to closes_bracket (after_first is_bracket (flat_map part_marks ps)) ≡ in_first address_in ps
address_shown [] last = refl
address_shown (Plain c free ∷ ps) last =
    let t = none_of_three (eqb c 34) (eqb c 40) (eqb c 60) free in
    ap (up_to closes_bracket) (part_passed 60 (Plain c free) (flat_map part_marks ps) t.2) ∙ address_shown ps last.1
address_shown (Quoted items ∷ ps) last = ap (up_to closes_bracket) (part_passed 60 (Quoted items) (flat_map part_marks ps) refl) ∙ address_shown ps last.1
address_shown (UnclosedQuoted items stop ∷ ps) last =
    ap (up_to closes_bracket) (part_passed 60 (UnclosedQuoted items stop) (flat_map part_marks ps) refl) ∙ address_shown ps last.1
address_shown (Comment inside ∷ ps) last = ap (up_to closes_bracket) (part_passed 60 (Comment inside) (flat_map part_marks ps) refl) ∙ address_shown ps last.1
address_shown (UnclosedComment inside ∷ ps) last =
    ap (up_to closes_bracket) (part_passed 60 (UnclosedComment inside) (flat_map part_marks ps) refl) ∙ address_shown ps last.1
address_shown (Bracketed address free ∷ ps) last =
    ap (up_to closes_bracket) (part_entered 60 (Bracketed address free) (flat_map part_marks ps) refl)
    ∙ ap characters_in (before_end closes_bracket (map (at Brackets) address) (at Brackets 62) (flat_map part_marks ps) (no_bracket address free) refl) ∙ bracket_characters address
address_shown (UnclosedBracketed address free ∷ ps) last =
    ap (up_to closes_bracket)
    (part_entered 60 (UnclosedBracketed address free) (flat_map part_marks ps) refl ∙ ap (λ x. map (at Brackets) address ++ flat_map part_marks x) (last.0 refl)
    ∙ append-nil (map (at Brackets) address))
    ∙ ap characters_in (before_none closes_bracket (map (at Brackets) address) (no_bracket address free)) ∙ bracket_characters address

-- names, and what is no comment

quoted_kept : (q : Mark → Bool) → ((c : ℕ) → is_quoted c ≡ true → q (at Quotes c) ≡ true) → q (at Quotes 92) ≡ true → ((c : ℕ) → q (at ProtectedInQuotes c) ≡ true) →
    (items : List QuotedItem) → kept q (flat_map item_marks items) ≡ flat_map item_text items
quoted_kept q free back protected [] = refl
quoted_kept q free back protected (Character c is ∷ items) =
    kept_one q (at Quotes c) (flat_map item_marks items) (free c is) ∙ ap (λ x. c ∷ x) (quoted_kept q free back protected items)
quoted_kept q free back protected (Protected c ∷ items) =
    kept_one q (at Quotes 92) (at ProtectedInQuotes c ∷ flat_map item_marks items) back
    ∙ ap (λ x. 92 ∷ x) (kept_one q (at ProtectedInQuotes c) (flat_map item_marks items) (protected c) ∙ ap (λ x. c ∷ x) (quoted_kept q free back protected items))

stop_kept : (q : Mark → Bool) → q (at Quotes 92) ≡ true → (stop : Stop) → kept q (stop_marks Quotes stop) ≡ stop_text stop
stop_kept q back AtItem = refl
stop_kept q back AtBackslash = kept_one q (at Quotes 92) [] back

brackets_kept : (q : Mark → Bool) → ((c : ℕ) → q (at Brackets c) ≡ true) → (address : List ℕ) → kept q (map (at Brackets) address) ≡ address
brackets_kept q is [] = refl
brackets_kept q is (c ∷ address) = kept_one q (at Brackets c) (map (at Brackets) address) (is c) ∙ ap (λ x. c ∷ x) (brackets_kept q is address)

comment_kept : (q : Mark → Bool) → ((m : Mark) → is_in_comment m.place ≡ true → q m ≡ false) → q (at Nothing 40) ≡ false → (inside : CommentText) → kept q (part_marks (Comment inside)) ≡ []
comment_kept q is opens inside =
    left_out q (at Nothing 40) (comment_marks 0 inside ++ at (Comments 0) 41 ∷ []) opens
    ∙ none_kept q (comment_marks 0 inside ++ at (Comments 0) 41 ∷ [])
    (never_both q (comment_marks 0 inside) (at (Comments 0) 41 ∷ []) (comment_never q is 0 inside) (is (at (Comments 0) 41) refl, tt))

unclosed_kept : (q : Mark → Bool) → ((m : Mark) → is_in_comment m.place ≡ true → q m ≡ false) → q (at Nothing 40) ≡ false → (inside : UnclosedText) → kept q (part_marks (UnclosedComment inside)) ≡ []
unclosed_kept q is opens inside =
    left_out q (at Nothing 40) (unclosed_marks 0 inside) opens ∙ none_kept q (unclosed_marks 0 inside) (unclosed_never q is 0 inside)

no_name : (m : Mark) → is_in_comment m.place ≡ true → is_of_name m ≡ false
no_name m e = rw e refl

not_plain : (m : Mark) → is_in_comment m.place ≡ true → is_plain_mark m ≡ false
not_plain m e = rw e refl

named : (c : ℕ) → is_quoted c ≡ true → is_of_name (at Quotes c) ≡ true
named c free = let t = none_of_two (eqb c 34) (eqb c 92) free in rw t.0 refl

name_kept : (p : Part) → kept is_of_name (part_marks p) ≡ name_in p
name_kept (Plain c free) = let t = none_of_three (eqb c 34) (eqb c 40) (eqb c 60) free in kept_one is_of_name (at Nothing c) [] (rw (t.0, t.1) refl)
name_kept (Quoted items) =
    kept_both is_of_name (flat_map item_marks items) (at Quotes 34 ∷ []) ∙ append-nil (kept is_of_name (flat_map item_marks items)) ∙ quoted_kept is_of_name named refl (λ c. refl) items
name_kept (UnclosedQuoted items stop) =
    kept_both is_of_name (flat_map item_marks items) (stop_marks Quotes stop) ∙ ap (λ x. x ++ kept is_of_name (stop_marks Quotes stop)) (quoted_kept is_of_name named refl (λ c. refl) items)
    ∙ ap (λ x. flat_map item_text items ++ x) (stop_kept is_of_name refl stop)
name_kept (Comment inside) = comment_kept is_of_name no_name refl inside
name_kept (UnclosedComment inside) = unclosed_kept is_of_name no_name refl inside
name_kept (Bracketed address free) =
    ap (λ x. 60 ∷ x) (kept_both is_of_name (map (at Brackets) address) (at Brackets 62 ∷ []) ∙ ap (λ x. x ++ 62 ∷ []) (brackets_kept is_of_name (λ c. refl) address))
name_kept (UnclosedBracketed address free) = ap (λ x. 60 ∷ x) (brackets_kept is_of_name (λ c. refl) address)

plain_kept : (p : Part) → kept is_plain_mark (part_marks p) ≡ without_comment p
plain_kept (Plain c free) = let t = none_of_three (eqb c 34) (eqb c 40) (eqb c 60) free in kept_one is_plain_mark (at Nothing c) [] (rw t.1 refl)
plain_kept (Quoted items) =
    ap (λ x. 34 ∷ x)
    (kept_both is_plain_mark (flat_map item_marks items) (at Quotes 34 ∷ []) ∙ ap (λ x. x ++ 34 ∷ []) (quoted_kept is_plain_mark (λ c free. refl) refl (λ c. refl) items))
plain_kept (UnclosedQuoted items stop) =
    ap (λ x. 34 ∷ x)
    (kept_both is_plain_mark (flat_map item_marks items) (stop_marks Quotes stop)
    ∙ ap (λ x. x ++ kept is_plain_mark (stop_marks Quotes stop)) (quoted_kept is_plain_mark (λ c free. refl) refl (λ c. refl) items)
    ∙ ap (λ x. flat_map item_text items ++ x) (stop_kept is_plain_mark refl stop))
plain_kept (Comment inside) = comment_kept is_plain_mark not_plain refl inside
plain_kept (UnclosedComment inside) = unclosed_kept is_plain_mark not_plain refl inside
plain_kept (Bracketed address free) =
    ap (λ x. 60 ∷ x) (kept_both is_plain_mark (map (at Brackets) address) (at Brackets 62 ∷ []) ∙ ap (λ x. x ++ 62 ∷ []) (brackets_kept is_plain_mark (λ c. refl) address))
plain_kept (UnclosedBracketed address free) = ap (λ x. 60 ∷ x) (brackets_kept is_plain_mark (λ c. refl) address)

parts_kept : (q : Mark → Bool) (given : Part → List ℕ) → ((p : Part) → kept q (part_marks p) ≡ given p) → (ps : List Part) → kept q (flat_map part_marks ps) ≡ flat_map given ps
parts_kept q given is [] = refl
parts_kept q given is (p ∷ ps) =
    kept_both q (part_marks p) (flat_map part_marks ps) ∙ ap (λ x. x ++ kept q (flat_map part_marks ps)) (is p) ∙ ap (λ x. given p ++ x) (parts_kept q given is ps)

-- all that is shown

note_shown : (ps : List Part) → UnclosedIsLast ps → note_of (flat_map part_marks ps) ≡ note_in ps
note_shown ps last = ap trimmed (comment_shown ps last)

pers_shown : (ps : List Part) → pers_of (flat_map part_marks ps) ≡ pers_in ps
pers_shown ps =
    let name : kept is_of_name (before_first is_bracket (flat_map part_marks ps)) ≡ flat_map name_in (before_first has_brackets ps) =
    ap (kept is_of_name) (before_bracket ps) ∙ parts_kept is_of_name name_in name_kept (before_first has_brackets ps) in
    λ i. if any_bracket ps i then trimmed (name i) else []

addr_shown : (ps : List Part) → UnclosedIsLast ps → addr_of (flat_map part_marks ps) ≡ addr_in ps
addr_shown ps last =
    let address = address_shown ps last in
    let plain : kept is_plain_mark (flat_map part_marks ps) ≡ flat_map without_comment ps = parts_kept is_plain_mark without_comment plain_kept ps in
    λ i. if any_bracket ps i then address i else trimmed (plain i)

last_by : (t : Bool) (q : Part → Bool) (p : Part) (ps : List Part) → q p ≡ t → (is_unclosed p ≡ true → ps ≡ []) → UnclosedIsLast (before_first q ps) → UnclosedIsLast (before_first q (p ∷ ps))
last_by true q p ps e last more = subst UnclosedIsLast (sym (before_stop q p ps e)) tt
last_by false q p ps e last more = subst UnclosedIsLast (sym (before_pass q p ps e)) (λ unclosed. ap (before_first q) (last unclosed), more)

front_last : (q : Part → Bool) (ps : List Part) → UnclosedIsLast ps → UnclosedIsLast (before_first q ps)
front_last q [] last = tt
front_last q (p ∷ ps) last = last_by (q p) q p ps refl last.0 (front_last q ps last.1)

abbrev marks_show : List Mark → Shown
marks_show ms = record { pers = pers_of ms; mbox = mbox_in (addr_of ms); host = host_in (addr_of ms); note = note_of ms }

pub parts_show : (ps : List Part) (text : List ℕ) → AreParts ps text → shown_by ps ≡ shown_address text
parts_show ps text are =
    let first = before_first is_comma ps in
    let last = front_last is_comma ps are.1 in
    let same : first_address text ≡ flat_map part_marks first = ap (λ x. first_address x) are.0 ∙ ap (before_first (outside 44)) (parts_read ps are.1) ∙ before_comma ps in
    let pers = pers_shown first in
    let addr = addr_shown first last in
    let note = note_shown first last in
    let shown : marks_show (flat_map part_marks first) ≡ shown_by ps = λ i. record { pers = pers i; mbox = mbox_in (addr i); host = host_in (addr i); note = note i } in
    sym (ap marks_show same ∙ shown)
