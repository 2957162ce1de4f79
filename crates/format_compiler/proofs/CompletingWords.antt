-- Words, up to where they are wrong.
use Rattle.std.proofs.Common.{◌≡◌, ◌⊎◌, inl, inr, ℕ, zero, suc, ◌==◌, Bool, true, false, List, [], ◌∷◌, ◌++◌, drop, Ok, Err, refl, sym, ap, ◌∙◌, subst, append-nil}
use Rattle.std.specs.Prelude.{if◌then◌else◌}
use Rattle.std.proofs.lemmas.List.{append_assoc}
use Rattle.format_compiler.specs.declared.one_test.Test.{Test}
use Rattle.format_compiler.specs.declared.piece.Piece.TheVariants.{Character}
use Rattle.format_compiler.specs.declared.word.Word.{Word}
use Rattle.format_compiler.specs.declared.word.Word.TheVariants.{Nothing, Print, If, ElseIf, Else, End}
use Rattle.format_compiler.specs.Reading.{Read}
use Rattle.format_compiler.specs.Unfinished.{CallEndsInNone, else_if_test, if_test, WordEndsInNone}
use Rattle.format_compiler.specs.Words.{behind_line, else_if_in, if_in, is_in_line, is_inside, mark_in, may_choose, Open, percent_in, printed_in, room_in, test_in, word_in}
use Rattle.format_compiler.proofs.Completing.{at_once, Carries, equal, made, made_same, Mends, read_at, Reads, Seen, seen_behind, Taken}
use Rattle.format_compiler.proofs.CompletingTests.{BadWord, printed_read, printed_seen, test_read, test_seen}
use Rattle.format_compiler.proofs.TwoParts.{by_parts, EachIs, far, StopsHere}
use Rattle.format_compiler.proofs.SteadyWords.{comment}

abbrev pub percent_read : Open → List ℕ → List ℕ → Read Word
percent_read o whole text = percent_in o whole text

abbrev pub word_read : Open → List ℕ → List ℕ → Read Word
word_read o whole text = word_in o text

-- what is read is a front; or all of the text, a comment that a line feed would end
abbrev pub LongSeen : (List ℕ → Type 0) → (List ℕ → List ℕ → Read Word) → List ℕ → Read Word → Type 0
LongSeen bad read text (Ok x) = Taken read text x.0 x.1 ⊎ ((x.1 ≡ []) × Reads read (text ++ 10 ∷ []) x.0)
LongSeen bad read text (Err left) = Mends read text left ⊎ bad left

long : (bad : List ℕ → Type 0) (read : List ℕ → List ℕ → Read Word) (text : List ℕ) (here : Read Word) → Seen bad read text here → LongSeen bad read text here
long bad read text (Ok x) h = inl h
long bad read text (Err left) h = h

-- the words that a percent sign begins, from the semicolon on
abbrev pub from_bar_end : Open → List ℕ → ℕ → List ℕ → Read Word
from_bar_end o whole c text = if c == 62 then mark_in (is_inside o) End whole text else printed_in (room_in o) whole (c ∷ text)

abbrev pub from_bar : Open → List ℕ → ℕ → List ℕ → Read Word
from_bar o whole c text = if c == 124 then mark_in (may_choose o) Else whole text else from_bar_end o whole c text

abbrev pub from_question : Open → List ℕ → ℕ → List ℕ → Read Word
from_question o whole c text = if c == 63 then else_if_in (may_choose o) (room_in o) whole text else from_bar o whole c text

abbrev pub from_bracket : Open → List ℕ → ℕ → List ℕ → Read Word
from_bracket o whole c text = if c == 60 then if_in (room_in o) whole text else from_question o whole c text

abbrev pub from_semicolon : Open → List ℕ → ℕ → List ℕ → Read Word
from_semicolon o whole c text = if c == 59 then Ok (Nothing, behind_line text) else from_bracket o whole c text

-- behind the character that chose it, a word is read in this way
abbrev pub ChosenBy : Open → ℕ → (List ℕ → List ℕ → Read Word) → Type 0
ChosenBy o c read = (whole text : List ℕ) → percent_in o whole (c ∷ text) ≡ read whole text

chosen_seen : (o : Open) (c : ℕ) (whole text : List ℕ) (read : List ℕ → List ℕ → Read Word) → ChosenBy o c read → Seen (BadWord whole (37 ∷ (c ∷ text))) read text (read whole text)
    → LongSeen (BadWord whole (37 ∷ (c ∷ text))) (percent_read o) (c ∷ text) (read whole text)
chosen_seen o c whole text read chosen h =
    long (BadWord whole (37 ∷ (c ∷ text))) (percent_read o) (c ∷ text) (read whole text)
    (read_at (BadWord whole (37 ∷ (c ∷ text))) (percent_read o) (c ∷ text) (made (λ x. x) (read whole text)) (read whole text) (made_same (read whole text))
    (seen_behind (λ x. x) read (percent_read o) (BadWord whole (37 ∷ (c ∷ text))) (BadWord whole (37 ∷ (c ∷ text))) (c ∷ []) text (λ w t x behind k. chosen w t ∙ k w) (λ left b. inr b) (read whole text) h))

mark_seen : (bad : List ℕ → Type 0) (can : Bool) (word : Word) (whole text : List ℕ) → ((left : List ℕ) → left ≡ whole → bad left) → Seen bad (mark_in can word) text (mark_in can word whole text)
mark_seen bad false word whole text h = inr (h whole refl)
mark_seen bad true word whole text h = record { front = []; parts = refl; reads = λ w rest. refl }

tested_seen : (bad : List ℕ → Type 0) (room : ℕ) (make : Test → Word) (text : List ℕ) → ((inner : List ℕ) → text ≡ 40 ∷ inner → CallEndsInNone true inner → bad [])
    → Seen bad (λ whole t. made make (test_in room t)) text (made make (test_in room text))
tested_seen bad room make text ends =
    seen_behind make (test_read room) (λ whole t. made make (test_in room t)) bad bad [] text (λ w t x behind h. ap (made make) (h w)) (λ left b. inr b) (test_in room text) (test_seen room bad text ends)

if_seen : (room : ℕ) (whole text : List ℕ) (c : ℕ) → c ≡ 60 → Seen (BadWord whole (37 ∷ (c ∷ text))) (if_in room) text (if_in room whole text)
if_seen zero whole text c is = inr (inl refl)
if_seen (suc room) whole text c is =
    tested_seen (BadWord whole (37 ∷ (c ∷ text))) room If text (λ inner same n. inr (refl, subst WordEndsInNone (λ i. 37 ∷ (sym is i ∷ (sym same i))) (if_test n)))

else_if_seen : (can : Bool) (room : ℕ) (whole text : List ℕ) (c : ℕ) → c ≡ 63 → Seen (BadWord whole (37 ∷ (c ∷ text))) (else_if_in can room) text (else_if_in can room whole text)
else_if_seen false room whole text c is = inr (inl refl)
else_if_seen true room whole text c is =
    tested_seen (BadWord whole (37 ∷ (c ∷ text))) room ElseIf text (λ inner same n. inr (refl, subst WordEndsInNone (λ i. 37 ∷ (sym is i ∷ (sym same i))) (else_if_test n)))

-- what is printed begins with none of these
differs : (o : Open) (whole : List ℕ) (c m : ℕ) (text : List ℕ) (x : Word × List ℕ) → printed_in (room_in o) whole (c ∷ text) ≡ Ok x → printed_in (room_in o) whole (m ∷ text) ≡ Err whole → (c == m) ≡ false
differs o whole c m text x is none = choose (c == m) refl
  where
    choose : (b : Bool) → (c == m) ≡ b → b ≡ false
    choose true e = let same = ap (λ z. printed_in (room_in o) whole (z ∷ text)) (equal c m e) in cc
    choose false e = refl

printed_alone : (o : Open) → Carries (λ x. x) (printed_read (room_in o)) (percent_read o) []
printed_alone o whole [] x behind h = let e = h whole in absurd (cc)
printed_alone o whole (c ∷ text) x behind h =
    let d : (m : ℕ) → printed_in (room_in o) whole (m ∷ text) ≡ Err whole → (c == m) ≡ false = λ m none. differs o whole c m text (x, behind) (h whole) none in
    ap (λ b. if b then Ok (Print (Character 37), text) else from_semicolon o whole c text) (d 37 refl)
    ∙ ap (λ b. if b then Ok (Nothing, behind_line text) else from_bracket o whole c text) (d 59 refl)
    ∙ ap (λ b. if b then if_in (room_in o) whole text else from_question o whole c text) (d 60 refl)
    ∙ ap (λ b. if b then else_if_in (may_choose o) (room_in o) whole text else from_bar o whole c text) (d 63 refl)
    ∙ ap (λ b. if b then mark_in (may_choose o) Else whole text else from_bar_end o whole c text) (d 124 refl)
    ∙ ap (λ b. if b then mark_in (is_inside o) End whole text else printed_in (room_in o) whole (c ∷ text)) (d 62 refl)
    ∙ h whole

line_read : (line : List ℕ) (c : ℕ) (rest : List ℕ) → EachIs is_in_line line → is_in_line c ≡ false → behind_line ((line ++ c ∷ []) ++ rest) ≡ rest
line_read line c rest each stops =
    let f = far is_in_line line (c ∷ rest) each stops in
    ap behind_line (append_assoc line (c ∷ []) rest) ∙ ap (drop 1) f.dropped

comment_seen : (o : Open) (c : ℕ) (whole text : List ℕ) → ChosenBy o c (λ w t. comment (behind_line t)) → LongSeen (BadWord whole (37 ∷ (c ∷ text))) (percent_read o) (c ∷ text) (comment (behind_line text))
comment_seen o c whole text chosen =
    by_parts is_in_line (λ t line rest. LongSeen (BadWord whole (37 ∷ (c ∷ t))) (percent_read o) (c ∷ t) (comment (drop 1 rest))) text at
  where
    at : (line rest : List ℕ) → EachIs is_in_line line → StopsHere is_in_line rest → LongSeen (BadWord whole (37 ∷ (c ∷ (line ++ rest)))) (percent_read o) (c ∷ (line ++ rest)) (comment (drop 1 rest))
    at line [] each stops =
        inr (
          refl,
          λ w rest.
              ap (λ z. percent_in o w (c ∷ ((z ++ 10 ∷ []) ++ rest))) (append-nil line) ∙ chosen w ((line ++ 10 ∷ []) ++ rest) ∙ ap comment (line_read line 10 rest each refl),
        )
    at line (d ∷ rest) each stops = inl (record {
      front = c ∷ (line ++ d ∷ []);
      parts = ap (λ z. c ∷ z) (append_assoc line (d ∷ []) rest);
      reads = λ w behind. chosen w ((line ++ d ∷ []) ++ behind) ∙ ap comment (line_read line d behind each stops);
    })

-- the word that a percent sign begins, behind the sign
pub percent_seen : (o : Open) (whole text : List ℕ) → LongSeen (BadWord whole (37 ∷ text)) (percent_read o) text (percent_in o whole text)
percent_seen o whole [] = inl (at_once (percent_read o) [] (37 ∷ []) (Print (Character 37)) (λ w rest. refl))
percent_seen o whole (c ∷ text) = sign (c == 37) refl
  where
    ended : (b : Bool) → (c == 62) ≡ b → ChosenBy o c (λ w t. from_bar_end o w c t) → LongSeen (BadWord whole (37 ∷ (c ∷ text))) (percent_read o) (c ∷ text) (if b then mark_in (is_inside o) End whole text else printed_in (room_in o) whole (c ∷ text))
    ended true e chosen =
        chosen_seen o c whole text (mark_in (is_inside o) End)
        (λ w t. chosen w t ∙ ap (λ b. if b then mark_in (is_inside o) End w t else printed_in (room_in o) w (c ∷ t)) e)
        (mark_seen (BadWord whole (37 ∷ (c ∷ text))) (is_inside o) End whole text (λ left h. inl h))
    ended false e chosen =
        let here = printed_in (room_in o) whole (c ∷ text) in
        let bad : List ℕ → Type 0 = BadWord whole (37 ∷ (c ∷ text)) in
        long bad (percent_read o) (c ∷ text) here
        (read_at bad (percent_read o) (c ∷ text) (made (λ x. x) here) here (made_same here)
        (seen_behind (λ x. x) (printed_read (room_in o)) (percent_read o) bad bad [] (c ∷ text) (printed_alone o) (λ left b. inr b) here (printed_seen (room_in o) whole (c ∷ text))))

    bar : (b : Bool) → (c == 124) ≡ b → ChosenBy o c (λ w t. from_bar o w c t) → LongSeen (BadWord whole (37 ∷ (c ∷ text))) (percent_read o) (c ∷ text) (if b then mark_in (may_choose o) Else whole text else from_bar_end o whole c text)
    bar true e chosen =
        chosen_seen o c whole text (mark_in (may_choose o) Else)
        (λ w t. chosen w t ∙ ap (λ b. if b then mark_in (may_choose o) Else w t else from_bar_end o w c t) e)
        (mark_seen (BadWord whole (37 ∷ (c ∷ text))) (may_choose o) Else whole text (λ left h. inl h))
    bar false e chosen = ended (c == 62) refl (λ w t. chosen w t ∙ ap (λ b. if b then mark_in (may_choose o) Else w t else from_bar_end o w c t) e)

    question : (b : Bool) → (c == 63) ≡ b → ChosenBy o c (λ w t. from_question o w c t)
        → LongSeen (BadWord whole (37 ∷ (c ∷ text))) (percent_read o) (c ∷ text) (if b then else_if_in (may_choose o) (room_in o) whole text else from_bar o whole c text)
    question true e chosen =
        chosen_seen o c whole text (else_if_in (may_choose o) (room_in o))
        (λ w t. chosen w t ∙ ap (λ b. if b then else_if_in (may_choose o) (room_in o) w t else from_bar o w c t) e)
        (else_if_seen (may_choose o) (room_in o) whole text c (equal c 63 e))
    question false e chosen = bar (c == 124) refl (λ w t. chosen w t ∙ ap (λ b. if b then else_if_in (may_choose o) (room_in o) w t else from_bar o w c t) e)

    bracket : (b : Bool) → (c == 60) ≡ b → ChosenBy o c (λ w t. from_bracket o w c t)
        → LongSeen (BadWord whole (37 ∷ (c ∷ text))) (percent_read o) (c ∷ text) (if b then if_in (room_in o) whole text else from_question o whole c text)
    bracket true e chosen =
        chosen_seen o c whole text (if_in (room_in o)) (λ w t. chosen w t ∙ ap (λ b. if b then if_in (room_in o) w t else from_question o w c t) e)
        (if_seen (room_in o) whole text c (equal c 60 e))
    bracket false e chosen = question (c == 63) refl (λ w t. chosen w t ∙ ap (λ b. if b then if_in (room_in o) w t else from_question o w c t) e)

    semicolon : (b : Bool) → (c == 59) ≡ b → ChosenBy o c (λ w t. from_semicolon o w c t)
        → LongSeen (BadWord whole (37 ∷ (c ∷ text))) (percent_read o) (c ∷ text) (if b then Ok (Nothing, behind_line text) else from_bracket o whole c text)
    semicolon true e chosen = comment_seen o c whole text (λ w t. chosen w t ∙ ap (λ b. if b then Ok (Nothing, behind_line t) else from_bracket o w c t) e)
    semicolon false e chosen = bracket (c == 60) refl (λ w t. chosen w t ∙ ap (λ b. if b then Ok (Nothing, behind_line t) else from_bracket o w c t) e)

    sign : (b : Bool) → (c == 37) ≡ b → LongSeen (BadWord whole (37 ∷ (c ∷ text))) (percent_read o) (c ∷ text) (if b then Ok (Print (Character 37), text) else from_semicolon o whole c text)
    sign true e = inl (record { front = c ∷ []; parts = refl; reads = λ w rest. ap (λ b. if b then Ok (Print (Character 37), rest) else from_semicolon o w c rest) e })
    sign false e = semicolon (c == 59) refl (λ w t. ap (λ b. if b then Ok (Print (Character 37), t) else from_semicolon o w c t) e)
