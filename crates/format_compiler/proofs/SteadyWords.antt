-- Words that are wrong stay wrong, whatever stands behind.
use Rattle.std.proofs.Common.{◌≡◌, ◌≢◌, ℕ, zero, suc, ◌+◌, ◌≤◌, ◌==◌, ◌||◌, Bool, true, false, List, [], ◌∷◌, ◌++◌, length, take, drop, Option, Some, None, Ok, Err, refl, sym, ap, ◌∙◌, subst, arith, cond, length-append, length-drop}
use Rattle.std.specs.Prelude.{if◌then◌else◌, is_some, nat_lt}
use Rattle.std.specs.List.{prefix_len}
use Rattle.std.proofs.Math.Seq.{take-length, take-append-add}
use Rattle.std.proofs.lemmas.List.Folds.{prefix_len-append}
use Rattle.std.proofs.lemmas.List.Sums.{prefix_len-le-length}
use Rattle.std.proofs.lemmas.Bool.Decides.{nat_tests}
use Rattle.mh_base.proofs.NumberTests.{equal_test}
use Rattle.format_compiler.specs.declared.one_test.Test.TheVariants.{Component as OfComponent, Call as OfCall}
use Rattle.format_compiler.specs.declared.piece.Piece.TheVariants.{Character, Component as PrintedComponent, Call as PrintedCall}
use Rattle.format_compiler.specs.declared.width.Width.{Width}
use Rattle.format_compiler.specs.declared.word.Word.{Word}
use Rattle.format_compiler.specs.declared.word.Word.TheVariants.{Nothing, Print, If, ElseIf, Else, End}
use Rattle.format_compiler.specs.Calls.{call_in}
use Rattle.format_compiler.specs.Components.{component_in}
use Rattle.format_compiler.specs.Formats.{AreWrongAt, Denote, IsStuck, Stand}
use Rattle.format_compiler.specs.Grammar.{Format}
use Rattle.format_compiler.specs.Reading.{Read, ◌>>=◌}
use Rattle.format_compiler.specs.Widths.{begins_width, width_of}
use Rattle.format_compiler.specs.Words.{behind_line, behind_word, call_test_in, component_test_in, else_if_in, escape_in, if_in, is_in_line, is_inside, mark_in, may_choose, Open, percent_in, printed_by, printed_call_in, printed_component_in, printed_in, room_in, sized_by, test_in, word_in}
use Rattle.format_compiler.proofs.StandingWords.{nothing_stands, wrong_none}
use Rattle.format_compiler.proofs.Steady.{call_keeps, component_keeps, either_keeps, front_keeps, Keeps, same, then_keeps, wrong_keeps}
use Rattle.mh_base.specs.Characters.{is_digit}

-- a reading and then something made of it
made_keeps : {A B : Type 0} (more : List ℕ) (make : A → B) (read longer : Read A) → Keeps more read longer → Keeps more (read >>= λ x behind. Ok (make x, behind)) (longer >>= λ x behind. Ok (make x, behind))
made_keeps more make read longer h = then_keeps same same more read longer (λ x behind. Ok (make x, behind)) (λ x behind. Ok (make x, behind)) h (λ x behind. refl)

test_keeps : (more : List ℕ) (room : ℕ) (text : List ℕ) → Keeps more (test_in room text) (test_in room (text ++ more))
test_keeps more room [] = tt
test_keeps more room (c ∷ text) =
    let whole = c ∷ text in
    let longer = c ∷ (text ++ more) in
    either_keeps same more (c == 123) (component_test_in whole text) (if c == 40 then call_test_in room whole text else Err whole)
    (component_test_in longer (text ++ more)) (if c == 40 then call_test_in room longer (text ++ more) else Err longer)
    (made_keeps more OfComponent (component_in whole text) (component_in longer (text ++ more)) (component_keeps more whole text))
    (either_keeps same more (c == 40) (call_test_in room whole text) (Err whole) (call_test_in room longer (text ++ more)) (Err longer)
    (made_keeps more OfCall (call_in room true whole text) (call_in room true longer (text ++ more)) (call_keeps more room true whole text)) refl)

if_keeps : (more : List ℕ) (room : ℕ) (whole text : List ℕ) → Keeps more (if_in room whole text) (if_in room (whole ++ more) (text ++ more))
if_keeps more zero whole text = wrong_keeps same more whole
if_keeps more (suc room) whole text = made_keeps more If (test_in room text) (test_in room (text ++ more)) (test_keeps more room text)

else_if_keeps : (more : List ℕ) (can : Bool) (room : ℕ) (whole text : List ℕ) → Keeps more (else_if_in can room whole text) (else_if_in can room (whole ++ more) (text ++ more))
else_if_keeps more false room whole text = wrong_keeps same more whole
else_if_keeps more true room whole text = made_keeps more ElseIf (test_in room text) (test_in room (text ++ more)) (test_keeps more room text)

mark_keeps : (more : List ℕ) (can : Bool) (word : Word) (whole text : List ℕ) → Keeps more (mark_in can word whole text) (mark_in can word (whole ++ more) (text ++ more))
mark_keeps more false word whole text = wrong_keeps same more whole
mark_keeps more true word whole text = refl

printed_keeps : (more : List ℕ) (room : ℕ) (whole : List ℕ) (c : ℕ) (text : List ℕ) (width : Option (Option Width)) → Keeps more (printed_by room whole c text width) (printed_by room (whole ++ more) c (text ++ more) width)
printed_keeps more room whole c text None = wrong_keeps same more whole
printed_keeps more room whole c text (Some width) =
    either_keeps same more (c == 123) (printed_component_in width whole text) (if c == 40 then printed_call_in room width whole text else Err whole)
    (printed_component_in width (whole ++ more) (text ++ more)) (if c == 40 then printed_call_in room width (whole ++ more) (text ++ more) else Err (whole ++ more))
    (made_keeps more (λ name. Print (PrintedComponent width name)) (component_in whole text) (component_in (whole ++ more) (text ++ more)) (component_keeps more whole text))
    (either_keeps same more (c == 40) (printed_call_in room width whole text) (Err whole) (printed_call_in room width (whole ++ more) (text ++ more)) (Err (whole ++ more))
    (made_keeps more (λ call. Print (PrintedCall width call)) (call_in room false whole text) (call_in room false (whole ++ more) (text ++ more)) (call_keeps more room false whole text)) (wrong_keeps same more whole))

pub left_false : (a b : Bool) → (a || b) ≡ false → a ≡ false
left_false true b h = h
left_false false b h = refl

pub none_of : {A : Type 0} (o : Option A) → is_some o ≡ false → o ≡ None
none_of None h = refl
none_of (Some x) h = cc

-- digits that are no width, nor its begin, are none with more digits
no_width : (digits more : List ℕ) → begins_width digits ≡ false → width_of (digits ++ more) ≡ None
no_width [] more h = cc
no_width (a ∷ []) more h = cc
no_width (a ∷ (b ∷ [])) more h = cc
no_width (a ∷ (b ∷ (c ∷ []))) [] h = none_of (width_of (a ∷ (b ∷ (c ∷ [])))) h
no_width (a ∷ (b ∷ (c ∷ []))) (d ∷ more) h = refl
no_width (a ∷ (b ∷ (c ∷ (d ∷ digits)))) more h = refl

long_test : (m n : ℕ) → m ≤ n → nat_lt m 3 ≡ false → nat_lt n 3 ≡ false
long_test m n le h = grind (arith, nat_tests)

begins_none : (digits more : List ℕ) → begins_width digits ≡ false → begins_width (digits ++ more) ≡ false
begins_none digits more h =
    let long = long_test (length digits) (length (digits ++ more)) (omega (arith, length-append digits more)) (left_false (nat_lt (length digits) 3) (is_some (width_of digits)) h) in
    λ i. long i || is_some (no_width digits more h i)

sized_wrong : (room : ℕ) (whole digits rest : List ℕ) → begins_width digits ≡ false → width_of digits ≡ None → sized_by room whole digits rest ≡ Err whole
sized_wrong room whole digits [] h k = ap (λ b. if b then Err [] else Err whole) h
sized_wrong room whole digits (c ∷ rest) h k = ap (printed_by room whole c rest) k

-- all of a text are such, so that with more behind it they go on
pub record AllFront (p : ℕ → Bool) (text more : List ℕ) : Type 0 where
  pub front : take (prefix_len p text) text ≡ text
  pub longer : take (prefix_len p (text ++ more)) (text ++ more) ≡ text ++ take (prefix_len p more) more

pub all_front : (p : ℕ → Bool) (text more : List ℕ) → drop (prefix_len p text) text ≡ [] → AllFront p text more
all_front p text more none =
    let dropped = length-drop (prefix_len p text) text in
    let nothing = ap length none in
    let most = prefix_len-le-length p text in
    let n : prefix_len p text ≡ length text = omega (arith, dropped, nothing, most) in
    let m : prefix_len p (text ++ more) ≡ length text + prefix_len p more = prefix_len-append p text more
    ∙ ap (λ b. cond b (length text + prefix_len p more) (prefix_len p text)) (equal_test (prefix_len p text) (length text) n) in
    record {
      front = ap (λ z. take z text) n ∙ take-length text;
      longer = ap (λ z. take z (text ++ more)) m ∙ take-append-add text more (prefix_len p more);
    }

printed_text_keeps : (more : List ℕ) (room : ℕ) (whole text : List ℕ) → Keeps more (printed_in room whole text) (printed_in room (whole ++ more) (text ++ more))
printed_text_keeps more room whole text = choose (drop (prefix_len is_digit text) text) refl
  where
    choose : (rest : List ℕ) → drop (prefix_len is_digit text) text ≡ rest → Keeps more (printed_in room whole text) (printed_in room (whole ++ more) (text ++ more))
    choose [] e = unfinished (begins_width (take (prefix_len is_digit text) text)) refl
      where
        ended : printed_in room whole text ≡ (if begins_width (take (prefix_len is_digit text) text) then Err [] else Err whole)
        ended = ap (sized_by room whole (take (prefix_len is_digit text) text)) e

        unfinished : (b : Bool) → begins_width (take (prefix_len is_digit text) text) ≡ b → Keeps more (printed_in room whole text) (printed_in room (whole ++ more) (text ++ more))
        unfinished true h =
            let is = ended ∙ ap (λ b. if b then Err [] else Err whole) h in
            subst (λ (z : Read Word). Keeps more z (printed_in room (whole ++ more) (text ++ more))) (sym is) tt
        unfinished false h =
            let is = ended ∙ ap (λ b. if b then Err [] else Err whole) h in
            let all = all_front is_digit text more e in
            let hopeless : begins_width text ≡ false = ap begins_width (sym all.front) ∙ h in
            let extra = take (prefix_len is_digit more) more in
            let wrong = sized_wrong room (whole ++ more) (take (prefix_len is_digit (text ++ more)) (text ++ more)) (drop (prefix_len is_digit (text ++ more)) (text ++ more))
            (ap begins_width all.longer ∙ begins_none text extra hopeless) (ap width_of all.longer ∙ no_width text extra hopeless) in
            subst (λ (z : Read Word). Keeps more z (printed_in room (whole ++ more) (text ++ more))) (sym is)
            (subst (λ (z : Read Word). Keeps more (Err whole) z) (sym wrong) (wrong_keeps same more whole))
    choose (c ∷ behind) e =
        let k = front_keeps is_digit text more c behind e in
        let digits = take (prefix_len is_digit text) text in
        let is : printed_in room whole text ≡ printed_by room whole c behind (width_of digits) = ap (sized_by room whole digits) e in
        let longer : printed_in room (whole ++ more) (text ++ more) ≡ printed_by room (whole ++ more) c (behind ++ more) (width_of digits) = (λ i. sized_by room (whole ++ more) (k.front i) (k.behind i)) in
        subst (λ (z : Read Word). Keeps more z (printed_in room (whole ++ more) (text ++ more))) (sym is)
        (subst (λ (z : Read Word). Keeps more (printed_by room whole c behind (width_of digits)) z) (sym longer) (printed_keeps more room whole c behind (width_of digits)))

-- something stands behind a word, so that it ends there
abbrev pub Ends : List ℕ → Type 0 → Type 0
Ends [] P = Unit {0}
Ends (c ∷ behind) P = P

-- a word that ends before the text does is read also with more behind the text, and what is wrong is wrong
abbrev pub GoesOn : List ℕ → Read Word → Read Word → Type 0
GoesOn more (Ok x) longer = Ends x.1 (longer ≡ Ok (x.0, x.1 ++ more))
GoesOn more (Err []) longer = Unit {0}
GoesOn more (Err (c ∷ left)) longer = longer ≡ Err ((c ∷ left) ++ more)

ends : (behind : List ℕ) (P : Type 0) → P → Ends behind P
ends [] P h = tt
ends (c ∷ behind) P h = h

goes_on : (more : List ℕ) (read longer : Read Word) → Keeps more read longer → GoesOn more read longer
goes_on more (Ok x) longer h = ends x.1 (longer ≡ Ok (x.0, x.1 ++ more)) h
goes_on more (Err []) longer h = tt
goes_on more (Err (c ∷ left)) longer h = h

either_goes : (more : List ℕ) (b : Bool) (x y longer other : Read Word) → GoesOn more x longer → GoesOn more y other → GoesOn more (if b then x else y) (if b then longer else other)
either_goes more true x y longer other h k = h
either_goes more false x y longer other h k = k

-- a comment, and what stands behind it
abbrev pub comment : List ℕ → Read Word
comment behind = Ok (Nothing, behind)

line_goes : (more text : List ℕ) → GoesOn more (comment (behind_line text)) (comment (behind_line (text ++ more)))
line_goes more text = choose (drop (prefix_len is_in_line text) text) refl
  where
    choose : (rest : List ℕ) → drop (prefix_len is_in_line text) text ≡ rest → GoesOn more (comment (behind_line text)) (comment (behind_line (text ++ more)))
    choose [] e = subst (λ (z : List ℕ). GoesOn more (comment (drop 1 z)) (comment (behind_line (text ++ more)))) (sym e) tt
    choose (c ∷ behind) e =
        let k = front_keeps is_in_line text more c behind e in
        let longer : behind_line (text ++ more) ≡ behind ++ more = ap (drop 1) k.behind in
        let here = subst (λ (z : List ℕ). GoesOn more (comment behind) (comment z)) (sym longer) (goes_on more (comment behind) (comment (behind ++ more)) refl) in
        subst (λ (z : List ℕ). GoesOn more (comment (drop 1 z)) (comment (behind_line (text ++ more)))) (sym e) here

escape_goes : (more text : List ℕ) → GoesOn more (escape_in text) (escape_in (text ++ more))
escape_goes more [] = tt
escape_goes more (c ∷ text) = ends text (escape_in (c ∷ (text ++ more)) ≡ escape_in (c ∷ (text ++ more))) refl

percent_goes : (more : List ℕ) (o : Open) (whole text : List ℕ) → GoesOn more (percent_in o whole text) (percent_in o (whole ++ more) (text ++ more))
percent_goes more o whole [] = tt
percent_goes more o whole (c ∷ text) =
    either_goes more (c == 37) _ _ _ _ (goes_on more (Ok (Print (Character 37), text)) (Ok (Print (Character 37), text ++ more)) refl)
    (either_goes more (c == 59) _ _ _ _ (line_goes more text)
    (either_goes more (c == 60) _ _ _ _ (goes_on more (if_in (room_in o) whole text) (if_in (room_in o) (whole ++ more) (text ++ more)) (if_keeps more (room_in o) whole text))
    (either_goes more (c == 63) _ _ _ _ (goes_on more (else_if_in (may_choose o) (room_in o) whole text) (else_if_in (may_choose o) (room_in o) (whole ++ more) (text ++ more)) (else_if_keeps more (may_choose o) (room_in o) whole text))
    (either_goes more (c == 124) _ _ _ _ (goes_on more (mark_in (may_choose o) Else whole text) (mark_in (may_choose o) Else (whole ++ more) (text ++ more)) (mark_keeps more (may_choose o) Else whole text))
    (either_goes more (c == 62) _ _ _ _ (goes_on more (mark_in (is_inside o) End whole text) (mark_in (is_inside o) End (whole ++ more) (text ++ more)) (mark_keeps more (is_inside o) End whole text))
    (goes_on more (printed_in (room_in o) whole (c ∷ text)) (printed_in (room_in o) (whole ++ more) ((c ∷ text) ++ more)) (printed_text_keeps more (room_in o) whole (c ∷ text))))))))

word_goes : (more : List ℕ) (o : Open) (text : List ℕ) → GoesOn more (word_in o text) (word_in o (text ++ more))
unfolding word_in
word_goes more o [] = tt
word_goes more o (c ∷ text) =
    either_goes more (c == 37) _ _ _ _ (percent_goes more o (c ∷ text) text)
    (either_goes more (c == 92) _ _ _ _ (escape_goes more text) (goes_on more (Ok (Print (Character c), text)) (Ok (Print (Character c), text ++ more)) refl))

-- words that stand before something stand also with more behind the text
pub stand_longer : (more : List ℕ) (words : List Word) (o : Open) (text : List ℕ) (after : Open) (c : ℕ) (left : List ℕ) → Stand words o text after (c ∷ left) → Stand words o (text ++ more) after ((c ∷ left) ++ more)
stand_longer more [] o text after c left h = (h.0, ap (λ z. z ++ more) h.1)
stand_longer more (w ∷ []) o text after c left ([], is, h) = let e = h.1 in cc
stand_longer more (w ∷ (v ∷ words)) o text after c left ([], is, (b, there, h)) = absurd (nothing_stands (behind_word w o) v [] b refl there)
stand_longer more (w ∷ words) o text after c left (d ∷ b, is, h) =
    ((d ∷ b) ++ more, subst (λ (z : Read Word). GoesOn more z (word_in o (text ++ more))) is (word_goes more o text), stand_longer more words (behind_word w o) (d ∷ b) after c left h)

stuck_longer : (more : List ℕ) (after : Open) (text : List ℕ) (c : ℕ) (left : List ℕ) → IsStuck after text (c ∷ left) → IsStuck after (text ++ more) ((c ∷ left) ++ more)
stuck_longer more after [] c left h = let e = h.1 in cc
stuck_longer more after (d ∷ text) c left h = subst (λ (z : Read Word). GoesOn more z (word_in after ((d ∷ text) ++ more))) h (word_goes more after (d ∷ text))

some_left : (after : Open) (text : List ℕ) (c : ℕ) (left : List ℕ) → IsStuck after text (c ∷ left) → text ≢ []
some_left after [] c left h e = let f = h.1 in cc
some_left after (d ∷ text) c left h e = cc

wrong_longer : (more characters : List ℕ) (c : ℕ) (left : List ℕ) → AreWrongAt characters (c ∷ left) → AreWrongAt (characters ++ more) ((c ∷ left) ++ more)
wrong_longer more characters c left wrong = begun wrong.text refl
  where
    begun : (text : List ℕ) → wrong.text ≡ text → AreWrongAt (characters ++ more) ((c ∷ left) ++ more)
    begun [] e = absurd (some_left wrong.after wrong.text c left wrong.stuck e)
    begun (d ∷ text) e = record {
      words = wrong.words;
      after = wrong.after;
      text = (d ∷ text) ++ more;
      stand = stand_longer more wrong.words [] characters wrong.after d text (subst (λ (z : List ℕ). Stand wrong.words [] characters wrong.after z) e wrong.stand);
      stuck = stuck_longer more wrong.after (d ∷ text) c left (subst (λ (z : List ℕ). IsStuck wrong.after z (c ∷ left)) e wrong.stuck);
    }

-- no characters that begin with wrong ones denote a format
pub hopeless : (characters left : List ℕ) → AreWrongAt characters left → left ≢ [] → (more : List ℕ) (f : Format) → Denote (characters ++ more) f → ⊥
hopeless characters [] wrong some more f d = some refl
hopeless characters (c ∷ left) wrong some more f (words, stand, is) = wrong_none (characters ++ more) ((c ∷ left) ++ more) words (wrong_longer more characters c left wrong) stand
