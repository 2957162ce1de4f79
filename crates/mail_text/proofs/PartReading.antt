-- Every text is made of parts, and those show what it shows.
use Rattle.std.proofs.Common.{◌≡◌, ◌⊎◌, ℕ, zero, suc, ◌≤◌, eqb, Bool, true, false, List, [], ◌∷◌, ◌++◌, length, refl, sym, ap, subst, ◌∙◌, arith, inl, inr, length-append, append_assoc, append-nil}
use Rattle.std.proofs.lemmas.Bool.{eqb-true}
use Rattle.std.specs.List.{flat_map, list_all}
use Rattle.mail_text.specs.declared.address.Shown.{Shown}
use Rattle.mail_text.specs.ShownAddress.{shown_address}
use Rattle.mail_text.specs.AddressParts.{Part, QuotedItem, CommentText, UnclosedText, Stop, is_plain, is_quoted, is_commented, is_bracketed, item_text, stop_text, comment_text, unclosed_text, spelled, is_unclosed, AreParts, Shows, ShowsNoOther}
use Rattle.mail_text.specs.AddressParts.QuotedItem.{Character, Protected}
use Rattle.mail_text.specs.AddressParts.CommentText.{Ends, HasCharacter, HasProtected, HasComment}
use Rattle.mail_text.specs.AddressParts.Stop.{AtItem, AtBackslash}
use Rattle.mail_text.specs.AddressParts.UnclosedText.{Stops, StopsInComment}
use Rattle.mail_text.specs.AddressParts.Part.{Plain, Quoted, UnclosedQuoted, Comment, UnclosedComment, Bracketed, UnclosedBracketed}
use Rattle.mail_text.proofs.PartShowing.{parts_show}

head_is : (P : List ℕ → Type 0) (c d : ℕ) (rest : List ℕ) → eqb c d ≡ true → P (d ∷ rest) → P (c ∷ rest)
head_is P c d rest e is = subst (λ x. P (x ∷ rest)) (sym (eqb-true c d e)) is

behind_len : (front behind rest : List ℕ) (c n : ℕ) → rest ≡ front ++ c ∷ behind → length rest ≤ n → length behind ≤ n
behind_len front behind rest c n e le = omega (arith, ap length e, length-append front (c ∷ behind), le)

-- behind a quote mark stand quotes, and then another quote mark or the end
abbrev QuotesEnd : List ℕ → Type 0
QuotesEnd text =
    ((items : List QuotedItem) × (behind : List ℕ) × (text ≡ flat_map item_text items ++ 34 ∷ behind))
    ⊎ ((items : List QuotedItem) × (stop : Stop) × (text ≡ flat_map item_text items ++ stop_text stop))

quotes_more : (item : QuotedItem) (text : List ℕ) → QuotesEnd text → QuotesEnd (item_text item ++ text)
quotes_more item text (inl (items, behind, e)) =
    inl (item ∷ items, behind, ap (λ x. item_text item ++ x) e ∙ sym (append_assoc (item_text item) (flat_map item_text items) (34 ∷ behind)))
quotes_more item text (inr (items, stop, e)) =
    inr (item ∷ items, stop, ap (λ x. item_text item ++ x) e ∙ sym (append_assoc (item_text item) (flat_map item_text items) (stop_text stop)))

quotes_by : (q b : Bool) (n c : ℕ) (rest : List ℕ) → eqb c 34 ≡ q → eqb c 92 ≡ b → length rest ≤ n → ((text : List ℕ) → length text ≤ n → QuotesEnd text) → QuotesEnd (c ∷ rest)
quotes_by true b n c rest eq eb le more = head_is QuotesEnd c 34 rest eq (inl ([], rest, refl))
quotes_by false true n c [] eq eb le more = head_is QuotesEnd c 92 [] eb (inr ([], AtBackslash, refl))
quotes_by false true n c (d ∷ rest) eq eb le more = head_is QuotesEnd c 92 (d ∷ rest) eb (quotes_more (Protected d) rest (more rest (omega arith)))
quotes_by false false n c rest eq eb le more =
    let free : is_quoted c ≡ true = rw (eq, eb) refl in
    quotes_more (Character c free) rest (more rest le)

quotes_end : (n : ℕ) (text : List ℕ) → length text ≤ n → QuotesEnd text
quotes_end n [] le = inr ([], AtItem, refl)
quotes_end zero (c ∷ rest) le = absurd (omega arith)
quotes_end (suc n) (c ∷ rest) le = quotes_by (eqb c 34) (eqb c 92) n c rest refl refl (omega arith) (λ text less. quotes_end n text less)

-- behind a parenthesis stands a comment, and then the other parenthesis or the end
abbrev CommentEnd : List ℕ → Type 0
CommentEnd text =
    ((inside : CommentText) × (behind : List ℕ) × (text ≡ comment_text inside ++ 41 ∷ behind)) ⊎ ((inside : UnclosedText) × (text ≡ unclosed_text inside))

comment_more : (on : CommentText → CommentText) (front : List ℕ) → ((inside : CommentText) → comment_text (on inside) ≡ front ++ comment_text inside) → (text : List ℕ) → CommentEnd text → CommentEnd (front ++ text)
comment_more on front spells text (inl (inside, behind, e)) =
    inl (on inside, behind, ap (λ x. front ++ x) e ∙ sym (append_assoc front (comment_text inside) (41 ∷ behind)) ∙ ap (λ x. x ++ 41 ∷ behind) (sym (spells inside)))
comment_more on front spells text (inr (Stops first stop, e)) =
    inr (Stops (on first) stop, ap (λ x. front ++ x) e ∙ sym (append_assoc front (comment_text first) (stop_text stop)) ∙ ap (λ x. x ++ stop_text stop) (sym (spells first)))
comment_more on front spells text (inr (StopsInComment first inner, e)) =
    inr (StopsInComment (on first) inner, ap (λ x. front ++ x) e ∙ sym (append_assoc front (comment_text first) (40 ∷ unclosed_text inner)) ∙ ap (λ x. x ++ 40 ∷ unclosed_text inner) (sym (spells first)))

comment_nested : (n : ℕ) (rest : List ℕ) → length rest ≤ n → ((text : List ℕ) → length text ≤ n → CommentEnd text) → CommentEnd rest → CommentEnd (40 ∷ rest)
comment_nested n rest le more (inl (inner, behind, e)) =
    subst CommentEnd (ap (λ x. 40 ∷ x) (append_assoc (comment_text inner) (41 ∷ []) behind ∙ sym e))
    (comment_more (HasComment inner) (40 ∷ comment_text inner ++ 41 ∷ []) (λ inside. ap (λ x. 40 ∷ x) (sym (append_assoc (comment_text inner) (41 ∷ []) (comment_text inside)))) behind
    (more behind (behind_len (comment_text inner) behind rest 41 n e le)))
comment_nested n rest le more (inr (inside, e)) = inr (StopsInComment Ends inside, ap (λ x. 40 ∷ x) e)

comment_by : (o q b : Bool) (n c : ℕ) (rest : List ℕ) → eqb c 40 ≡ o → eqb c 41 ≡ q → eqb c 92 ≡ b → length rest ≤ n → ((text : List ℕ) → length text ≤ n → CommentEnd text) → CommentEnd (c ∷ rest)
comment_by true q b n c rest eo eq eb le more = head_is CommentEnd c 40 rest eo (comment_nested n rest le more (more rest le))
comment_by false true b n c rest eo eq eb le more = head_is CommentEnd c 41 rest eq (inl (Ends, rest, refl))
comment_by false false true n c [] eo eq eb le more = head_is CommentEnd c 92 [] eb (inr (Stops Ends AtBackslash, refl))
comment_by false false true n c (d ∷ rest) eo eq eb le more =
    head_is CommentEnd c 92 (d ∷ rest) eb (comment_more (HasProtected d) (92 ∷ d ∷ []) (λ inside. refl) rest (more rest (omega arith)))
comment_by false false false n c rest eo eq eb le more =
    let free : is_commented c ≡ true = rw (eo, eq, eb) refl in
    comment_more (HasCharacter c free) (c ∷ []) (λ inside. refl) rest (more rest le)

comment_end : (n : ℕ) (text : List ℕ) → length text ≤ n → CommentEnd text
comment_end n [] le = inr (Stops Ends AtItem, refl)
comment_end zero (c ∷ rest) le = absurd (omega arith)
comment_end (suc n) (c ∷ rest) le =
    comment_by (eqb c 40) (eqb c 41) (eqb c 92) n c rest refl refl refl (omega arith) (λ text less. comment_end n text less)

-- behind an angle bracket stands an address, and then the other bracket or the end
abbrev BracketsEnd : List ℕ → Type 0
BracketsEnd text =
    ((address : List ℕ) × (behind : List ℕ) × (list_all is_bracketed address ≡ true) × (text ≡ address ++ 62 ∷ behind)) ⊎ (list_all is_bracketed text ≡ true)

brackets_more : (c : ℕ) (text : List ℕ) → is_bracketed c ≡ true → BracketsEnd text → BracketsEnd (c ∷ text)
brackets_more c text is (inl (address, behind, free, e)) = inl (c ∷ address, behind, rw (is, free) refl, ap (λ x. c ∷ x) e)
brackets_more c text is (inr free) = inr (rw (is, free) refl)

brackets_by : (q : Bool) (c : ℕ) (rest : List ℕ) → eqb c 62 ≡ q → BracketsEnd rest → BracketsEnd (c ∷ rest)
brackets_by true c rest eq more = head_is BracketsEnd c 62 rest eq (inl ([], rest, refl, refl))
brackets_by false c rest eq more = let free : is_bracketed c ≡ true = rw eq refl in brackets_more c rest free more

brackets_end : (text : List ℕ) → BracketsEnd text
brackets_end [] = inr refl
brackets_end (c ∷ rest) = brackets_by (eqb c 62) c rest refl (brackets_end rest)

-- parts

abbrev IsParted : List ℕ → Type 0
IsParted text = (parts : List Part) × AreParts parts text

closed_first : (p : Part) (behind : List ℕ) → is_unclosed p ≡ false → IsParted behind → IsParted (spelled p ++ behind)
closed_first p behind closed (ps, are) = (p ∷ ps, (ap (λ x. spelled p ++ x) are.0, (λ unclosed. absurd (cc (closed, unclosed)), are.1)))

unclosed_alone : (p : Part) → IsParted (spelled p)
unclosed_alone p = (p ∷ [], (sym (append-nil (spelled p)), (λ unclosed. refl, tt)))

quotes_first : (n : ℕ) (rest : List ℕ) → length rest ≤ n → ((text : List ℕ) → length text ≤ n → IsParted text) → QuotesEnd rest → IsParted (34 ∷ rest)
quotes_first n rest le more (inl (items, behind, e)) =
    subst IsParted (ap (λ x. 34 ∷ x) (append_assoc (flat_map item_text items) (34 ∷ []) behind ∙ sym e))
    (closed_first (Quoted items) behind refl (more behind (behind_len (flat_map item_text items) behind rest 34 n e le)))
quotes_first n rest le more (inr (items, stop, e)) = subst IsParted (ap (λ x. 34 ∷ x) (sym e)) (unclosed_alone (UnclosedQuoted items stop))

comment_first : (n : ℕ) (rest : List ℕ) → length rest ≤ n → ((text : List ℕ) → length text ≤ n → IsParted text) → CommentEnd rest → IsParted (40 ∷ rest)
comment_first n rest le more (inl (inside, behind, e)) =
    subst IsParted (ap (λ x. 40 ∷ x) (append_assoc (comment_text inside) (41 ∷ []) behind ∙ sym e))
    (closed_first (Comment inside) behind refl (more behind (behind_len (comment_text inside) behind rest 41 n e le)))
comment_first n rest le more (inr (inside, e)) = subst IsParted (ap (λ x. 40 ∷ x) (sym e)) (unclosed_alone (UnclosedComment inside))

brackets_first : (n : ℕ) (rest : List ℕ) → length rest ≤ n → ((text : List ℕ) → length text ≤ n → IsParted text) → BracketsEnd rest → IsParted (60 ∷ rest)
brackets_first n rest le more (inl (address, behind, free, e)) =
    subst IsParted (ap (λ x. 60 ∷ x) (append_assoc address (62 ∷ []) behind ∙ sym e))
    (closed_first (Bracketed address free) behind refl (more behind (behind_len address behind rest 62 n e le)))
brackets_first n rest le more (inr free) = unclosed_alone (UnclosedBracketed rest free)

parted_by : (q o b : Bool) (n c : ℕ) (rest : List ℕ) → eqb c 34 ≡ q → eqb c 40 ≡ o → eqb c 60 ≡ b → length rest ≤ n → ((text : List ℕ) → length text ≤ n → IsParted text) → IsParted (c ∷ rest)
parted_by true o b n c rest eq eo eb le more = head_is IsParted c 34 rest eq (quotes_first n rest le more (quotes_end n rest le))
parted_by false true b n c rest eq eo eb le more = head_is IsParted c 40 rest eo (comment_first n rest le more (comment_end n rest le))
parted_by false false true n c rest eq eo eb le more = head_is IsParted c 60 rest eb (brackets_first n rest le more (brackets_end rest))
parted_by false false false n c rest eq eo eb le more =
    let free : is_plain c ≡ true = rw (eq, eo, eb) refl in
    closed_first (Plain c free) rest refl (more rest le)

parted : (n : ℕ) (text : List ℕ) → length text ≤ n → IsParted text
parted n [] le = ([], (refl, tt))
parted zero (c ∷ rest) le = absurd (omega arith)
parted (suc n) (c ∷ rest) le = parted_by (eqb c 34) (eqb c 40) (eqb c 60) n c rest refl refl refl (omega arith) (λ text less. parted n text less)

-- what a text's parts show is one thing
pub address_shows : (text : List ℕ) (shown : Shown) → shown ≡ shown_address text → Shows text shown
address_shows text shown e =
    let ps = parted (length text) text (omega arith) in
    (ps.0, ps.1, e ∙ sym (parts_show ps.0 text ps.1))

pub address_alone : (text : List ℕ) (shown : Shown) → shown ≡ shown_address text → ShowsNoOther text shown
address_alone text shown e other (ps, are, is) = is ∙ parts_show ps text are ∙ sym e
