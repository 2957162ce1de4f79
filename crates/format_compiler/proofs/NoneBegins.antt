-- What ends within a name or a number that none begins with is wrong, whatever stands behind.
use Rattle.std.proofs.Common.{◌≡◌, ℕ, zero, suc, ◌+◌, ◌*◌, ◌==◌, ◌&&◌, not, Bool, true, false, List, [], ◌∷◌, ◌++◌, length, take, drop, Option, Some, None, Ok, Err, refl, sym, ap, ◌∙◌, subst, ℤ, pos, neg_ℤ}
use Rattle.std.specs.Prelude.{if◌then◌else◌, is_some, nat_le, bytes_eq}
use Rattle.std.specs.List.{prefix_len}
use Rattle.std.proofs.Math.Seq.{take-append_seam}
use Rattle.std.proofs.lemmas.List.{append_assoc}
use Rattle.std.proofs.lemmas.Slice.Eq.{bytes_eq-Decides}
use Rattle.format_compiler.specs.declared.function.ArgumentKind.TheVariants.{Number as TakesNumber}
use Rattle.format_compiler.specs.declared.function.Function.{Function}
use Rattle.format_compiler.specs.declared.width.Width.{Width}
use Rattle.format_compiler.specs.declared.piece.Piece.TheVariants.{Character}
use Rattle.format_compiler.specs.declared.word.Word.{Word}
use Rattle.format_compiler.specs.declared.word.Word.TheVariants.{Nothing, Print, Else, End}
use Rattle.format_compiler.specs.Arguments.{decimal_within, is_literal, number_by, number_of, signed_by, some_decimal_within, spaced_number_in}
use Rattle.format_compiler.specs.Calls.{Around, argument_in, call_in, fitting, Front, front_in, function_by, function_in, is_in_name, whole_by}
use Rattle.format_compiler.specs.Formats.{Denote, Stand}
use Rattle.format_compiler.specs.Functions.{every_function, function_named, has_result, kind_of, name_of, named_among}
use Rattle.format_compiler.specs.Grammar.{Format}
use Rattle.format_compiler.specs.Reading.{before, Read, ◌>>=◌, then_character}
use Rattle.format_compiler.specs.Unfinished.{begins_name, begins_name_among, begins_number, CallEndsInNone, else_if_test, if_test, in_argument, in_name, in_number, is_begun_by, IsAll, printed, WordEndsInNone}
use Rattle.format_compiler.specs.Widths.{digit_value, width_of}
use Rattle.format_compiler.specs.Words.{behind_line, else_if_in, if_in, is_inside, mark_in, may_choose, Open, percent_in, printed_by, printed_in, room_in, sized_by, test_in, word_in}
use Rattle.format_compiler.proofs.Completing.{equal}
use Rattle.format_compiler.proofs.CompletingWords.{from_bar, from_bar_end, from_bracket, from_question, from_semicolon}
use Rattle.format_compiler.proofs.TwoParts.{each, EachIs, far}
use Rattle.format_compiler.proofs.StandingWords.{rest_stands}
use Rattle.format_compiler.proofs.Steady.{front_in_keeps, function_keeps, grown, Keeps, KeepsBy}
use Rattle.format_compiler.proofs.SteadyWords.{all_front, left_false, none_of, stand_longer}
use Rattle.mh_base.specs.Characters.{is_digit}

abbrev pub IsWrong : {A : Type 0} → Read A → Type 0
IsWrong (Ok x) = ⊥
IsWrong (Err left) = Unit {0}

then_wrong : {A B : Type 0} (read : Read A) (next : A → List ℕ → Read B) → IsWrong read → IsWrong (read >>= next)
then_wrong (Ok x) next h = absurd h
then_wrong (Err left) next h = tt

wrong_at : {A : Type 0} (read other : Read A) → read ≡ other → IsWrong other → IsWrong read
wrong_at {A = A} read other is h = subst (λ (z : Read A). IsWrong z) (sym is) h

-- digits that are no number within the limit are none with more behind them
decimal_none : (limit n : ℕ) (text more : List ℕ) → decimal_within limit n text ≡ None → decimal_within limit n (text ++ more) ≡ None
decimal_none limit n [] more h = absurd (cc)
decimal_none limit n (c ∷ text) more h = choose (is_digit c && nat_le (n * 10 + digit_value c) limit) refl (decimal_none limit (n * 10 + digit_value c) text more)
  where
    choose : (b : Bool) → (is_digit c && nat_le (n * 10 + digit_value c) limit) ≡ b
        → (decimal_within limit (n * 10 + digit_value c) text ≡ None → decimal_within limit (n * 10 + digit_value c) (text ++ more) ≡ None) → decimal_within limit n (c ∷ (text ++ more)) ≡ None
    choose true is on =
        ap (λ b. if b then decimal_within limit (n * 10 + digit_value c) (text ++ more) else None) is
        ∙ on (sym (ap (λ b. if b then decimal_within limit (n * 10 + digit_value c) text else None) is) ∙ h)
    choose false is on = ap (λ b. if b then decimal_within limit (n * 10 + digit_value c) (text ++ more) else None) is

unsigned : (sign : ℕ → ℤ) (n : Option ℕ) → signed_by sign n ≡ None → n ≡ None
unsigned sign None h = refl
unsigned sign (Some n) h = absurd (cc)

minus_none : (text more : List ℕ) → begins_number (45 ∷ text) ≡ false → number_of (45 ∷ (text ++ more)) ≡ None
minus_none [] more h = absurd (cc)
minus_none (c ∷ text) more h =
    let now = none_of (number_of (45 ∷ (c ∷ text))) (left_false (is_some (number_of (45 ∷ (c ∷ text)))) (is_some (number_of ((45 ∷ (c ∷ text)) ++ 48 ∷ []))) h) in
    let none = unsigned (λ n. neg_ℤ (pos n)) (decimal_within 9223372036854775808 0 (c ∷ text)) now in
    ap (signed_by (λ n. neg_ℤ (pos n))) (decimal_none 9223372036854775808 0 (c ∷ text) more none)

plus_none : (c : ℕ) (text more : List ℕ) → (c == 45) ≡ false → number_of (c ∷ text) ≡ None → number_of (c ∷ (text ++ more)) ≡ None
plus_none c text more is now =
    let here = ap (λ b. if b then signed_by (λ n. neg_ℤ (pos n)) (some_decimal_within 9223372036854775808 text) else signed_by pos (some_decimal_within 9223372036854775807 (c ∷ text))) is in
    let none = unsigned pos (decimal_within 9223372036854775807 0 (c ∷ text)) (sym here ∙ now) in
    ap (λ b. if b then signed_by (λ n. neg_ℤ (pos n)) (some_decimal_within 9223372036854775808 (text ++ more)) else signed_by pos (some_decimal_within 9223372036854775807 (c ∷ (text ++ more)))) is
    ∙ ap (signed_by pos) (decimal_none 9223372036854775807 0 (c ∷ text) more none)

-- no number begins so
number_none : (literal more : List ℕ) → begins_number literal ≡ false → number_of (literal ++ more) ≡ None
number_none [] more h = absurd (cc)
number_none (c ∷ text) more h = choose (c == 45) refl
  where
    choose : (b : Bool) → (c == 45) ≡ b → number_of (c ∷ (text ++ more)) ≡ None
    choose true is = subst (λ (z : ℕ). begins_number (z ∷ text) ≡ false → number_of (z ∷ (text ++ more)) ≡ None) (sym (equal c 45 is)) (minus_none text more) h
    choose false is =
        plus_none c text more is
        (none_of (number_of (c ∷ text)) (left_false (is_some (number_of (c ∷ text))) (is_some (number_of ((c ∷ text) ++ 48 ∷ []))) h))

number_rest : (whole literal rest : List ℕ) → number_of literal ≡ None → IsWrong (then_character 41 literal rest >>= λ l behind. number_by whole behind (number_of l))
number_rest whole literal [] none = tt
number_rest whole literal (c ∷ rest) none = choose (c == 41)
  where
    choose : (b : Bool) → IsWrong (before literal (if b then Ok rest else Err (c ∷ rest)) >>= λ l behind. number_by whole behind (number_of l))
    choose true = wrong_at (number_by whole rest (number_of literal)) (Err whole) (ap (number_by whole rest) none) tt
    choose false = tt

number_wrong : (literal more : List ℕ) → IsAll is_literal literal → begins_number literal ≡ false → IsWrong (spaced_number_in (32 ∷ (literal ++ more)))
number_wrong literal more all none =
    let text = literal ++ more in
    let longer = all_front is_literal literal more all in
    number_rest (32 ∷ text) (take (prefix_len is_literal text) text) (drop (prefix_len is_literal text) text)
    (ap number_of longer.longer ∙ number_none literal (take (prefix_len is_literal more) more) none)

-- the function that a text names has a name that begins as the text does
named_begins : (in_test : Bool) (name more : List ℕ) (fs : List Function) (f : Function) → named_among fs (name ++ more) ≡ Some f → (in_test && not (has_result f)) ≡ false → begins_name_among in_test name fs ≡ true
named_begins in_test name more [] f found fits = absurd (cc)
named_begins in_test name more (g ∷ fs) f found fits = choose (bytes_eq (name_of g) (name ++ more)) refl (named_begins in_test name more fs f)
  where
    same : Some g ≡ Some f → g ≡ f
    same e = cc

    begun : bytes_eq (name_of g) (name ++ more) ≡ true → g ≡ f → is_begun_by in_test name g ≡ true
    begun is e =
        let named = bytes_eq-Decides (name_of g) (name ++ more) in
        let front = bytes_eq-Decides (take (length name) (name_of g)) name in
        let here = front.1 (ap (take (length name)) (named.0 is) ∙ take-append_seam name more) in
        let fit = ap (λ z. not (in_test && not (has_result z))) e ∙ ap not fits in
        (λ i. here i && fit i)

    either : (b : Bool) → begins_name_among in_test name fs ≡ true → (if b then true else begins_name_among in_test name fs) ≡ true
    either true h = refl
    either false h = h

    choose : (b : Bool) → bytes_eq (name_of g) (name ++ more) ≡ b
        → (named_among fs (name ++ more) ≡ Some f → (in_test && not (has_result f)) ≡ false → begins_name_among in_test name fs ≡ true) → begins_name_among in_test name (g ∷ fs) ≡ true
    choose true is on =
        let e = same (sym (ap (λ b. if b then Some g else named_among fs (name ++ more)) is) ∙ found) in
        ap (λ b. if b then true else begins_name_among in_test name fs) (begun is e)
    choose false is on = either (is_begun_by in_test name g) (on (sym (ap (λ b. if b then Some g else named_among fs (name ++ more)) is) ∙ found) fits)

fitting_wrong : (in_test : Bool) (text behind name more : List ℕ) → begins_name in_test name ≡ false → IsWrong (fitting in_test text behind (function_named (name ++ more)))
fitting_wrong in_test text behind name more none = choose (function_named (name ++ more)) refl
  where
    fits : (f : Function) (b : Bool) → function_named (name ++ more) ≡ Some f → (in_test && not (has_result f)) ≡ b → IsWrong (if b then Err text else Ok (f, behind))
    fits f true found is = tt
    fits f false found is = let begun = named_begins in_test name more every_function f found is in absurd (cc)

    choose : (found : Option Function) → function_named (name ++ more) ≡ found → IsWrong (fitting in_test text behind found)
    choose None is = tt
    choose (Some f) is = fits f (in_test && not (has_result f)) is refl

by_wrong : (in_test : Bool) (text name more front rest : List ℕ) → begins_name in_test name ≡ false → front ≡ name ++ more → IsWrong (function_by in_test text front rest)
by_wrong in_test text name more front [] none is = tt
by_wrong in_test text name more front (c ∷ rest) none is =
    subst (λ (z : List ℕ). IsWrong (fitting in_test text (c ∷ rest) (function_named z))) (sym is) (fitting_wrong in_test text (c ∷ rest) name more none)

name_wrong : (in_test : Bool) (name more : List ℕ) → IsAll is_in_name name → begins_name in_test name ≡ false → IsWrong (function_in in_test (name ++ more))
name_wrong in_test name more all none =
    let text = name ++ more in
    let longer = all_front is_in_name name more all in
    by_wrong in_test text name (take (prefix_len is_in_name more) more) (take (prefix_len is_in_name text) text) (drop (prefix_len is_in_name text) text) none longer.longer

call_wrong : (in_test : Bool) (text : List ℕ) → CallEndsInNone in_test text → (room : ℕ) (whole more : List ℕ) → IsWrong (call_in room in_test whole (text ++ more))
unfolding call_in
call_wrong in_test text n zero whole more = tt
call_wrong in_test text (in_name all none) (suc room) whole more =
    then_wrong (front_in in_test (text ++ more)) (whole_by (call_in room false))
    (then_wrong (function_in in_test (text ++ more)) (λ f behind. argument_in (kind_of f) f behind) (name_wrong in_test text more all none))
call_wrong in_test text (in_number {literal = literal} {f = f} is kind all none) (suc room) whole more =
    let named = subst (λ (z : Read Function). Keeps more z (function_in in_test (text ++ more))) is (function_keeps more in_test text) in
    let here = ap (λ z. z >>= λ g behind. argument_in (kind_of g) g behind) named ∙ ap (λ z. argument_in z f (32 ∷ (literal ++ more))) kind in
    then_wrong (front_in in_test (text ++ more)) (whole_by (call_in room false))
    (wrong_at (front_in in_test (text ++ more)) (argument_in TakesNumber f (32 ∷ (literal ++ more))) here
    (then_wrong (spaced_number_in (32 ∷ (literal ++ more))) _ (number_wrong literal more all none)))
call_wrong in_test text (in_argument {whole = w} {inner = inner} {f = f} is n) (suc room) whole more =
    let front = subst (λ (z : Read Front). KeepsBy (grown more) more z (front_in in_test (text ++ more))) is (front_in_keeps more in_test text) in
    wrong_at (call_in (suc room) in_test whole (text ++ more)) (whole_by (call_in room false) (Around f (w ++ more)) (inner ++ more)) (ap (λ z. z >>= whole_by (call_in room false)) front)
    (then_wrong (call_in room false (w ++ more) (inner ++ more)) _ (call_wrong false inner n room (w ++ more) more))

-- a digit begins none of the words that a sign alone chooses
digit_printed : (o : Open) (whole : List ℕ) (c : ℕ) (text : List ℕ) → is_digit c ≡ true → percent_in o whole (c ∷ text) ≡ printed_in (room_in o) whole (c ∷ text)
digit_printed o whole c text digit =
    let d : (m : ℕ) → is_digit m ≡ false → (c == m) ≡ false = λ m other. differs m other (c == m) refl in
    ap (λ b. if b then Ok (Print (Character 37), text) else from_semicolon o whole c text) (d 37 refl)
    ∙ ap (λ b. if b then Ok (Nothing, behind_line text) else from_bracket o whole c text) (d 59 refl)
    ∙ ap (λ b. if b then if_in (room_in o) whole text else from_question o whole c text) (d 60 refl)
    ∙ ap (λ b. if b then else_if_in (may_choose o) (room_in o) whole text else from_bar o whole c text) (d 63 refl)
    ∙ ap (λ b. if b then mark_in (may_choose o) Else whole text else from_bar_end o whole c text) (d 124 refl)
    ∙ ap (λ b. if b then mark_in (is_inside o) End whole text else printed_in (room_in o) whole (c ∷ text)) (d 62 refl)
  where
    differs : (m : ℕ) → is_digit m ≡ false → (b : Bool) → (c == m) ≡ b → (c == m) ≡ false
    differs m other true is = let same = ap is_digit (equal c m is) in absurd (cc)
    differs m other false is = is

-- what digits or nothing and an opening parenthesis begin
begins_printed : (o : Open) (whole digits text : List ℕ) → EachIs is_digit digits → percent_in o whole ((digits ++ 40 ∷ []) ++ text) ≡ printed_in (room_in o) whole ((digits ++ 40 ∷ []) ++ text)
begins_printed o whole [] text each = refl
begins_printed o whole (c ∷ digits) text each = digit_printed o whole c ((digits ++ 40 ∷ []) ++ text) each.0

opening_wrong : (room : ℕ) (whole inner more : List ℕ) → CallEndsInNone false inner → (width : Option (Option Width)) → IsWrong (printed_by room whole 40 (inner ++ more) width)
opening_wrong room whole inner more n None = tt
opening_wrong room whole inner more n (Some width) = then_wrong (call_in room false whole (inner ++ more)) _ (call_wrong false inner n room whole more)

printed_wrong : (room : ℕ) (whole digits inner more : List ℕ) → EachIs is_digit digits → CallEndsInNone false inner → IsWrong (printed_in room whole ((digits ++ 40 ∷ []) ++ (inner ++ more)))
printed_wrong room whole digits inner more each n =
    let f = far is_digit digits (40 ∷ (inner ++ more)) each refl in
    wrong_at (printed_in room whole ((digits ++ 40 ∷ []) ++ (inner ++ more))) (printed_by room whole 40 (inner ++ more) (width_of digits))
    (ap (printed_in room whole) (append_assoc digits (40 ∷ []) (inner ++ more)) ∙ (λ i. sized_by room whole (f.taken i) (f.dropped i)))
    (opening_wrong room whole inner more n (width_of digits))

test_wrong : (room : ℕ) (inner more : List ℕ) → CallEndsInNone true inner → IsWrong (test_in room (40 ∷ (inner ++ more)))
test_wrong room inner more n = then_wrong (call_in room true (40 ∷ (inner ++ more)) (inner ++ more)) _ (call_wrong true inner n room (40 ∷ (inner ++ more)) more)

if_wrong : (room : ℕ) (whole inner more : List ℕ) → CallEndsInNone true inner → IsWrong (if_in room whole (40 ∷ (inner ++ more)))
if_wrong zero whole inner more n = tt
if_wrong (suc room) whole inner more n = then_wrong (test_in room (40 ∷ (inner ++ more))) _ (test_wrong room inner more n)

else_if_wrong : (can : Bool) (room : ℕ) (whole inner more : List ℕ) → CallEndsInNone true inner → IsWrong (else_if_in can room whole (40 ∷ (inner ++ more)))
else_if_wrong false room whole inner more n = tt
else_if_wrong true room whole inner more n = then_wrong (test_in room (40 ∷ (inner ++ more))) _ (test_wrong room inner more n)

word_wrong : (text : List ℕ) → WordEndsInNone text → (o : Open) (more : List ℕ) → IsWrong (word_in o (text ++ more))
unfolding word_in
word_wrong text (printed digits inner all n) o more =
    let whole = 37 ∷ ((digits ++ 40 ∷ inner) ++ more) in
    let seam : (digits ++ 40 ∷ inner) ++ more ≡ (digits ++ 40 ∷ []) ++ (inner ++ more) = append_assoc digits (40 ∷ inner) more ∙ sym (append_assoc digits (40 ∷ []) (inner ++ more)) in
    wrong_at (percent_in o whole ((digits ++ 40 ∷ inner) ++ more)) (printed_in (room_in o) whole ((digits ++ 40 ∷ []) ++ (inner ++ more)))
    (ap (percent_in o whole) seam ∙ begins_printed o whole digits (inner ++ more) (each is_digit digits all))
    (printed_wrong (room_in o) whole digits inner more (each is_digit digits all) n)
word_wrong text (if_test {inner = inner} n) o more = if_wrong (room_in o) (text ++ more) inner more n
word_wrong text (else_if_test {inner = inner} n) o more = else_if_wrong (may_choose o) (room_in o) (text ++ more) inner more n

-- such a text is none behind words that stand, whatever stands behind it
pub never_format : (words : List Word) (characters : List ℕ) (after : Open) (c : ℕ) (text : List ℕ) → Stand words [] characters after (c ∷ text) → WordEndsInNone (c ∷ text)
    → (more : List ℕ) (f : Format) → Denote (characters ++ more) f → ⊥
never_format words characters after c text stand ends more f (all, whole, is) =
    let on = rest_stands words all [] (characters ++ more) after ((c ∷ text) ++ more) (stand_longer more words [] characters after c text stand) whole in
    none on.others on.stand
  where
    none : (others : List Word) → Stand others after ((c ∷ text) ++ more) [] [] → ⊥
    none [] h = let e = h.1 in cc
    none (w ∷ others) (b, read, h) = subst (λ (z : Read Word). IsWrong z) read (word_wrong (c ∷ text) ends after more)
