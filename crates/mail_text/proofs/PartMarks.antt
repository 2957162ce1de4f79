-- The marks of a value's parts.
use Rattle.std.proofs.Common.{◌≡◌, ℕ, ◌+◌, ◌-◌, eqb, Bool, true, false, List, [], ◌∷◌, ◌++◌, map, refl, sym, ap, subst, ◌∙◌, arith, append_assoc, append-nil}
use Rattle.std.specs.Prelude.{not, ◌||◌}
use Rattle.std.specs.List.{flat_map, list_all}
use Rattle.std.proofs.lemmas.Bool.{and_parts}
use Rattle.std.proofs.lemmas.Bool.Decides.{nat_tests}
use Rattle.mail_text.specs.declared.marks.Inside.{Inside}
use Rattle.mail_text.specs.declared.marks.Inside.TheVariants.{Nothing, Quotes, ProtectedInQuotes, Comments, ProtectedInComments, Brackets}
use Rattle.mail_text.specs.declared.marks.Mark.{Mark}
use Rattle.mail_text.specs.Marks.{inside_behind, place_of, marks_from}
use Rattle.mail_text.specs.AddressParts.{Part, QuotedItem, CommentText, UnclosedText, Stop, is_plain, is_quoted, is_commented, is_bracketed, item_text, stop_text, comment_text, unclosed_text, spelled, is_unclosed, UnclosedIsLast}
use Rattle.mail_text.specs.AddressParts.QuotedItem.{Character, Protected}
use Rattle.mail_text.specs.AddressParts.CommentText.{Ends, HasCharacter, HasProtected, HasComment}
use Rattle.mail_text.specs.AddressParts.Stop.{AtItem, AtBackslash}
use Rattle.mail_text.specs.AddressParts.UnclosedText.{Stops, StopsInComment}
use Rattle.mail_text.specs.AddressParts.Part.{Plain, Quoted, UnclosedQuoted, Comment, UnclosedComment, Bracketed, UnclosedBracketed}

-- the marks of each

abbrev pub at : Inside → ℕ → Mark
at inside c = record { place = place_of inside; c = c }

abbrev pub item_marks : QuotedItem → List Mark
item_marks (Character c free) = at Quotes c ∷ []
item_marks (Protected c) = at Quotes 92 ∷ at ProtectedInQuotes c ∷ []

abbrev pub stop_marks : Inside → Stop → List Mark
stop_marks inside AtItem = []
stop_marks inside AtBackslash = at inside 92 ∷ []

abbrev pub comment_marks : ℕ → CommentText → List Mark
comment_marks d Ends = []
comment_marks d (HasCharacter c free more) = at (Comments d) c ∷ comment_marks d more
comment_marks d (HasProtected c more) = at (Comments d) 92 ∷ at (ProtectedInComments d) c ∷ comment_marks d more
comment_marks d (HasComment inner more) = at (Comments d) 40 ∷ comment_marks (d + 1) inner ++ at (Comments (d + 1)) 41 ∷ comment_marks d more

abbrev pub unclosed_marks : ℕ → UnclosedText → List Mark
unclosed_marks d (Stops front stop) = comment_marks d front ++ stop_marks (Comments d) stop
unclosed_marks d (StopsInComment front inner) = comment_marks d front ++ at (Comments d) 40 ∷ unclosed_marks (d + 1) inner

-- the first character of a part
abbrev pub sign : Part → ℕ
sign (Plain c free) = c
sign (Quoted items) = 34
sign (UnclosedQuoted items stop) = 34
sign (Comment inside) = 40
sign (UnclosedComment inside) = 40
sign (Bracketed address free) = 60
sign (UnclosedBracketed address free) = 60

-- the marks behind the first
abbrev pub more_marks : Part → List Mark
more_marks (Plain c free) = []
more_marks (Quoted items) = flat_map item_marks items ++ at Quotes 34 ∷ []
more_marks (UnclosedQuoted items stop) = flat_map item_marks items ++ stop_marks Quotes stop
more_marks (Comment inside) = comment_marks 0 inside ++ at (Comments 0) 41 ∷ []
more_marks (UnclosedComment inside) = unclosed_marks 0 inside
more_marks (Bracketed address free) = map (at Brackets) address ++ at Brackets 62 ∷ []
more_marks (UnclosedBracketed address free) = map (at Brackets) address

abbrev pub part_marks : Part → List Mark
part_marks p = at Nothing (sign p) ∷ more_marks p

-- they are the marks of what is spelled so

pub none_of_two : (a b : Bool) → not (a || b) ≡ true → (a ≡ false) × (b ≡ false)
none_of_two true b e = cc e
none_of_two false true e = cc e
none_of_two false false e = (refl, refl)

pub none_of_three : (a b c : Bool) → not (a || b || c) ≡ true → (a ≡ false) × (b ≡ false) × (c ≡ false)
none_of_three true b c e = cc e
none_of_three false true c e = cc e
none_of_three false false true e = cc e
none_of_three false false false e = (refl, refl, refl)

step : (inside next : Inside) (c : ℕ) (rest : List ℕ) → inside_behind inside c ≡ next → marks_from inside (c ∷ rest) ≡ at inside c ∷ marks_from next rest
unfolding marks_from
step inside next c rest e = ap (λ n. at inside c ∷ marks_from n rest) e

none_left : (inside : Inside) → marks_from inside [] ≡ []
unfolding marks_from
none_left inside = refl

quotes_stay : (c : ℕ) → is_quoted c ≡ true → inside_behind Quotes c ≡ Quotes
quotes_stay c free = let t = none_of_two (eqb c 34) (eqb c 92) free in rw (t.0, t.1) refl

comments_stay : (d c : ℕ) → is_commented c ≡ true → inside_behind (Comments d) c ≡ Comments d
comments_stay d c free = let t = none_of_three (eqb c 40) (eqb c 41) (eqb c 92) free in rw (t.0, t.1, t.2) refl

comment_closes : (d : ℕ) → inside_behind (Comments (d + 1)) 41 ≡ Comments d
comment_closes d =
    let some : eqb (d + 1) 0 ≡ false = grind (arith, nat_tests) in
    let same : d + 1 - 1 ≡ d = omega arith in
    rw (some, same) refl

pub not_true : (a : Bool) → not a ≡ true → a ≡ false
not_true true e = cc e
not_true false e = refl

brackets_stay : (c : ℕ) → is_bracketed c ≡ true → inside_behind Brackets c ≡ Brackets
brackets_stay c free = let t = not_true (eqb c 62) free in rw t refl

plain_stays : (c : ℕ) → is_plain c ≡ true → inside_behind Nothing c ≡ Nothing
plain_stays c free = let t = none_of_three (eqb c 34) (eqb c 40) (eqb c 60) free in rw (t.0, t.1, t.2) refl

stop_read : (inside : Inside) (stop : Stop) → marks_from inside (stop_text stop) ≡ stop_marks inside stop
unfolding marks_from
stop_read inside AtItem = refl
stop_read inside AtBackslash = refl

quoted_read : (items : List QuotedItem) (rest : List ℕ) → marks_from Quotes (flat_map item_text items ++ rest) ≡ flat_map item_marks items ++ marks_from Quotes rest
quoted_read [] rest = refl
quoted_read (Character c free ∷ items) rest =
    step Quotes Quotes c (flat_map item_text items ++ rest) (quotes_stay c free) ∙ ap (λ x. at Quotes c ∷ x) (quoted_read items rest)
quoted_read (Protected c ∷ items) rest =
    step Quotes ProtectedInQuotes 92 (c ∷ flat_map item_text items ++ rest) refl
    ∙ ap (λ x. at Quotes 92 ∷ x) (step ProtectedInQuotes Quotes c (flat_map item_text items ++ rest) refl ∙ ap (λ x. at ProtectedInQuotes c ∷ x) (quoted_read items rest))

comment_read : (d : ℕ) (inside : CommentText) (rest : List ℕ) → marks_from (Comments d) (comment_text inside ++ rest) ≡ comment_marks d inside ++ marks_from (Comments d) rest
comment_read d Ends rest = refl
comment_read d (HasCharacter c free more) rest =
    step (Comments d) (Comments d) c (comment_text more ++ rest) (comments_stay d c free) ∙ ap (λ x. at (Comments d) c ∷ x) (comment_read d more rest)
comment_read d (HasProtected c more) rest =
    step (Comments d) (ProtectedInComments d) 92 (c ∷ comment_text more ++ rest) refl
    ∙ ap (λ x. at (Comments d) 92 ∷ x) (step (ProtectedInComments d) (Comments d) c (comment_text more ++ rest) refl ∙ ap (λ x. at (ProtectedInComments d) c ∷ x) (comment_read d more rest))
comment_read d (HasComment inner more) rest =
    step (Comments d) (Comments (d + 1)) 40 ((comment_text inner ++ 41 ∷ comment_text more) ++ rest) refl
    ∙ ap (λ x. at (Comments d) 40 ∷ x)
    (ap (marks_from (Comments (d + 1))) (append_assoc (comment_text inner) (41 ∷ comment_text more) rest)
    ∙ comment_read (d + 1) inner (41 ∷ comment_text more ++ rest)
    ∙ ap (λ x. comment_marks (d + 1) inner ++ x)
    (step (Comments (d + 1)) (Comments d) 41 (comment_text more ++ rest) (comment_closes d) ∙ ap (λ x. at (Comments (d + 1)) 41 ∷ x) (comment_read d more rest))
    ∙ sym (append_assoc (comment_marks (d + 1) inner) (at (Comments (d + 1)) 41 ∷ comment_marks d more) (marks_from (Comments d) rest)))

unclosed_read : (d : ℕ) (inside : UnclosedText) → marks_from (Comments d) (unclosed_text inside) ≡ unclosed_marks d inside
unclosed_read d (Stops front stop) = comment_read d front (stop_text stop) ∙ ap (λ x. comment_marks d front ++ x) (stop_read (Comments d) stop)
unclosed_read d (StopsInComment front inner) =
    comment_read d front (40 ∷ unclosed_text inner)
    ∙ ap (λ x. comment_marks d front ++ x) (step (Comments d) (Comments (d + 1)) 40 (unclosed_text inner) refl ∙ ap (λ x. at (Comments d) 40 ∷ x) (unclosed_read (d + 1) inner))

brackets_read : (address rest : List ℕ) → list_all is_bracketed address ≡ true → marks_from Brackets (address ++ rest) ≡ map (at Brackets) address ++ marks_from Brackets rest
brackets_read [] rest free = refl
brackets_read (c ∷ address) rest free =
    let both = and_parts (is_bracketed c) (list_all is_bracketed address) free in
    step Brackets Brackets c (address ++ rest) (brackets_stay c both.0) ∙ ap (λ x. at Brackets c ∷ x) (brackets_read address rest both.1)

closed_read : (p : Part) (rest : List ℕ) → is_unclosed p ≡ false → marks_from Nothing (spelled p ++ rest) ≡ part_marks p ++ marks_from Nothing rest
closed_read (Plain c free) rest e = step Nothing Nothing c rest (plain_stays c free)
closed_read (Quoted items) rest e =
    step Nothing Quotes 34 ((flat_map item_text items ++ 34 ∷ []) ++ rest) refl
    ∙ ap (λ x. at Nothing 34 ∷ x)
    (ap (marks_from Quotes) (append_assoc (flat_map item_text items) (34 ∷ []) rest) ∙ quoted_read items (34 ∷ rest)
    ∙ ap (λ x. flat_map item_marks items ++ x) (step Quotes Nothing 34 rest refl) ∙ sym (append_assoc (flat_map item_marks items) (at Quotes 34 ∷ []) (marks_from Nothing rest)))
closed_read (UnclosedQuoted items stop) rest e = cc e
closed_read (Comment inside) rest e =
    step Nothing (Comments 0) 40 ((comment_text inside ++ 41 ∷ []) ++ rest) refl
    ∙ ap (λ x. at Nothing 40 ∷ x)
    (ap (marks_from (Comments 0)) (append_assoc (comment_text inside) (41 ∷ []) rest) ∙ comment_read 0 inside (41 ∷ rest)
    ∙ ap (λ x. comment_marks 0 inside ++ x) (step (Comments 0) Nothing 41 rest refl) ∙ sym (append_assoc (comment_marks 0 inside) (at (Comments 0) 41 ∷ []) (marks_from Nothing rest)))
closed_read (UnclosedComment inside) rest e = cc e
closed_read (Bracketed address free) rest e =
    step Nothing Brackets 60 ((address ++ 62 ∷ []) ++ rest) refl
    ∙ ap (λ x. at Nothing 60 ∷ x)
    (ap (marks_from Brackets) (append_assoc address (62 ∷ []) rest) ∙ brackets_read address (62 ∷ rest) free
    ∙ ap (λ x. map (at Brackets) address ++ x) (step Brackets Nothing 62 rest refl) ∙ sym (append_assoc (map (at Brackets) address) (at Brackets 62 ∷ []) (marks_from Nothing rest)))
closed_read (UnclosedBracketed address free) rest e = cc e

unclosed_part_read : (p : Part) → is_unclosed p ≡ true → marks_from Nothing (spelled p) ≡ part_marks p
unclosed_part_read (Plain c free) e = cc e
unclosed_part_read (Quoted items) e = cc e
unclosed_part_read (UnclosedQuoted items stop) e =
    step Nothing Quotes 34 (flat_map item_text items ++ stop_text stop) refl
    ∙ ap (λ x. at Nothing 34 ∷ x) (quoted_read items (stop_text stop) ∙ ap (λ x. flat_map item_marks items ++ x) (stop_read Quotes stop))
unclosed_part_read (Comment inside) e = cc e
unclosed_part_read (UnclosedComment inside) e = step Nothing (Comments 0) 40 (unclosed_text inside) refl ∙ ap (λ x. at Nothing 40 ∷ x) (unclosed_read 0 inside)
unclosed_part_read (Bracketed address free) e = cc e
unclosed_part_read (UnclosedBracketed address free) e =
    step Nothing Brackets 60 address refl
    ∙ ap (λ x. at Nothing 60 ∷ x)
    (ap (marks_from Brackets) (sym (append-nil address)) ∙ brackets_read address [] free ∙ ap (λ x. map (at Brackets) address ++ x) (none_left Brackets) ∙ append-nil (map (at Brackets) address))

read_by : (t : Bool) (p : Part) (ps : List Part) → is_unclosed p ≡ t → (is_unclosed p ≡ true → ps ≡ []) → marks_from Nothing (flat_map spelled ps) ≡ flat_map part_marks ps →
    marks_from Nothing (spelled p ++ flat_map spelled ps) ≡ part_marks p ++ flat_map part_marks ps
read_by true p ps e last more =
    subst (λ x. marks_from Nothing (spelled p ++ flat_map spelled x) ≡ part_marks p ++ flat_map part_marks x) (sym (last e))
    (ap (marks_from Nothing) (append-nil (spelled p)) ∙ unclosed_part_read p e ∙ sym (append-nil (part_marks p)))
read_by false p ps e last more = closed_read p (flat_map spelled ps) e ∙ ap (λ x. part_marks p ++ x) more

pub parts_read : (ps : List Part) → UnclosedIsLast ps → marks_from Nothing (flat_map spelled ps) ≡ flat_map part_marks ps
parts_read [] last = none_left Nothing
parts_read (p ∷ ps) last = read_by (is_unclosed p) p ps refl last.0 (parts_read ps last.1)
