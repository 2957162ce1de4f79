-- Tests, and what is printed behind a width, up to where they are wrong.
use Rattle.std.proofs.Common.{◌≡◌, ◌⊎◌, inl, inr, ℕ, ◌+◌, ◌*◌, ◌≤◌, ◌==◌, ◌||◌, Bool, true, false, List, [], ◌∷◌, ◌++◌, Option, Some, None, Err, refl, sym, ap, ◌∙◌, subst, arith, length}
use Rattle.std.specs.Prelude.{if◌then◌else◌, is_some, nat_lt}
use Rattle.std.proofs.lemmas.Bool.Decides.{nat_tests}
use Rattle.std.proofs.lemmas.List.{append_assoc}
use Rattle.format_compiler.specs.declared.one_test.Test.{Test}
use Rattle.format_compiler.specs.declared.one_test.Test.TheVariants.{Component as OfComponent, Call as OfCall}
use Rattle.format_compiler.specs.declared.piece.Piece.TheVariants.{Component as PrintedComponent, Call as PrintedCall}
use Rattle.format_compiler.specs.declared.width.Width.{Width}
use Rattle.format_compiler.specs.declared.word.Word.{Word}
use Rattle.format_compiler.specs.declared.word.Word.TheVariants.{Print}
use Rattle.format_compiler.specs.Calls.{call_in}
use Rattle.format_compiler.specs.Components.{component_in}
use Rattle.format_compiler.specs.Reading.{Read}
use Rattle.format_compiler.specs.Unfinished.{CallEndsInNone, printed, WordEndsInNone}
use Rattle.format_compiler.specs.Widths.{begins_width, columns_by, digit_value, width_of}
use Rattle.format_compiler.specs.Words.{call_test_in, component_test_in, printed_by, printed_call_in, printed_component_in, printed_in, sized_by, test_in}
use Rattle.format_compiler.proofs.Completing.{at_once, equal, made, Mends, Passes, Seen, seen_at, seen_behind}
use Rattle.format_compiler.proofs.CompletingCalls.{BadCall, call_seen}
use Rattle.format_compiler.proofs.CompletingComponents.{component_seen}
use Rattle.format_compiler.proofs.TwoParts.{all, by_parts, EachIs, each_more, far, StopsHere}
use Rattle.mh_base.specs.Characters.{is_digit}

abbrev pub test_read : ℕ → List ℕ → List ℕ → Read Test
test_read room whole text = test_in room text

-- where no test is read yet
test_once : (room : ℕ) (bad : List ℕ → Type 0) (text left : List ℕ) → left ≡ text → Mends (test_read room) text left ⊎ bad left
test_once room bad text left is =
    inl (subst (λ (z : List ℕ). Mends (test_read room) text z) (sym is) (at_once (test_read room) text (123 ∷ (97 ∷ (125 ∷ []))) (OfComponent (97 ∷ [])) (λ whole rest. refl)))

pub test_seen : (room : ℕ) (bad : List ℕ → Type 0) (text : List ℕ) → ((inner : List ℕ) → text ≡ 40 ∷ inner → CallEndsInNone true inner → bad [])
    → Seen bad (test_read room) text (test_in room text)
test_seen room bad [] ends = test_once room bad [] [] refl
test_seen room bad (c ∷ text) ends = choose (c == 123) refl
  where
    passes : (c == 40) ≡ true → Passes (BadCall true (c ∷ text) text) bad (test_read room) (c ∷ text)
    passes is left (inl e) = test_once room bad (c ∷ text) left e
    passes is left (inr n) = inr (subst bad (sym n.0) (ends text (ap (λ z. z ∷ text) (equal c 40 is)) n.1))

    opening : (b : Bool) → (c == 123) ≡ false → (c == 40) ≡ b → Seen bad (test_read room) (c ∷ text) (if b then call_test_in room (c ∷ text) text else Err (c ∷ text))
    opening true other is =
        seen_behind OfCall (call_in room true) (test_read room) (BadCall true (c ∷ text) text) bad (c ∷ []) text
        (λ whole t x behind h.
        ap (λ b. if b then component_test_in (c ∷ t) t else (if c == 40 then call_test_in room (c ∷ t) t else Err (c ∷ t))) other
        ∙ ap (λ b. if b then call_test_in room (c ∷ t) t else Err (c ∷ t)) is ∙ ap (made OfCall) (h (c ∷ t)))
        (passes is) (call_in room true (c ∷ text) text) (call_seen room true (c ∷ text) text)
    opening false other is = test_once room bad (c ∷ text) (c ∷ text) refl

    choose : (b : Bool) → (c == 123) ≡ b → Seen bad (test_read room) (c ∷ text) (if b then component_test_in (c ∷ text) text else (if c == 40 then call_test_in room (c ∷ text) text else Err (c ∷ text)))
    choose true is =
        seen_behind OfComponent component_in (test_read room) (λ left. left ≡ c ∷ text) bad (c ∷ []) text
        (λ whole t x behind h.
        ap (λ b. if b then component_test_in (c ∷ t) t else (if c == 40 then call_test_in room (c ∷ t) t else Err (c ∷ t))) is ∙ ap (made OfComponent) (h (c ∷ t)))
        (test_once room bad (c ∷ text)) (component_in (c ∷ text) text) (component_seen (c ∷ text) text)
    choose false other = opening (c == 40) other refl

-- digits that with these behind them are a width
pub record WidthMore (digits : List ℕ) : Type 0 where
  pub more : List ℕ
  pub each : EachIs is_digit (digits ++ more)
  pub width : Option Width
  pub is : width_of (digits ++ more) ≡ Some width

not_zero : (n : ℕ) → (n * 10 + 1 == 0) ≡ false
not_zero n = grind (arith, nat_tests)

some_columns : (first columns : ℕ) → (columns == 0) ≡ false → columns_by first columns ≡ Some (Some (record { columns = columns; zeros = first == 48 }))
some_columns first columns is = ap (λ b. if b then None else Some (Some (record { columns = columns; zeros = first == 48 }))) is

width_found : (digits : List ℕ) → EachIs is_digit digits → (w : Option (Option Width)) → width_of (digits ++ []) ≡ w → is_some w ≡ true → WidthMore digits
width_found digits each None is some = cc
width_found digits each (Some w) is some = record { more = []; each = nothing digits each; width = w; is = is }
  where
    nothing : (text : List ℕ) → EachIs is_digit text → EachIs is_digit (text ++ [])
    nothing [] h = tt
    nothing (c ∷ text) h = (h.0, nothing text h.1)

too_long : (n : ℕ) → 4 ≤ n → nat_lt n 3 ≡ false
too_long n long = grind (arith, nat_tests)

-- digits that begin a width
width_more : (digits : List ℕ) → EachIs is_digit digits → begins_width digits ≡ true → WidthMore digits
width_more [] each is = record { more = []; each = tt; width = None; is = refl }
width_more (a ∷ []) each is = record { more = 49 ∷ []; each = each_more is_digit (a ∷ []) 49 each refl; width = _; is = some_columns a (digit_value a * 10 + 1) (not_zero (digit_value a)) }
width_more (a ∷ (b ∷ [])) each is = record {
  more = 49 ∷ [];
  each = each_more is_digit (a ∷ (b ∷ [])) 49 each refl;
  width = _;
  is = some_columns a ((digit_value a * 10 + digit_value b) * 10 + 1) (not_zero (digit_value a * 10 + digit_value b));
}
width_more (a ∷ (b ∷ (c ∷ []))) each is = width_found (a ∷ (b ∷ (c ∷ []))) each (width_of (a ∷ (b ∷ (c ∷ [])))) refl is
width_more (a ∷ (b ∷ (c ∷ (d ∷ digits)))) each is =
    let most = too_long (length (a ∷ (b ∷ (c ∷ (d ∷ digits))))) (omega arith) in
    let none = ap (λ z. z || false) most in
    absurd (cc)

abbrev pub printed_read : ℕ → List ℕ → List ℕ → Read Word
printed_read room whole text = printed_in room whole text

digits_read : (room : ℕ) (whole digits : List ℕ) (c : ℕ) (text : List ℕ) (width : Option Width) → EachIs is_digit digits → is_digit c ≡ false → width_of digits ≡ Some width
    → printed_in room whole ((digits ++ c ∷ []) ++ text) ≡ printed_by room whole c text (Some width)
digits_read room whole digits c text width each stops is =
    let f = far is_digit digits (c ∷ text) each stops in
    ap (printed_in room whole) (append_assoc digits (c ∷ []) text) ∙ (λ i. sized_by room whole (f.taken i) (f.dropped i)) ∙ ap (printed_by room whole c text) is

digits_mend : (room : ℕ) (digits : List ℕ) → WidthMore digits → Mends (printed_read room) (digits ++ []) []
digits_mend room digits w = record {
  front = digits;
  parts = refl;
  more = w.more ++ 123 ∷ (97 ∷ (125 ∷ []));
  value = Print (PrintedComponent w.width (97 ∷ []));
  reads = λ whole rest.
      ap (λ z. printed_in room whole (z ++ rest)) (sym (append_assoc digits w.more (123 ∷ (97 ∷ (125 ∷ [])))) ∙ sym (append_assoc (digits ++ w.more) (123 ∷ []) (97 ∷ (125 ∷ []))))
      ∙ ap (printed_in room whole) (append_assoc ((digits ++ w.more) ++ 123 ∷ []) (97 ∷ (125 ∷ [])) rest)
      ∙ digits_read room whole (digits ++ w.more) 123 (97 ∷ (125 ∷ rest)) w.width w.each refl w.is;
}

-- a word is wrong from where it began, or ends within a name or a number that none begins with
abbrev pub BadWord : List ℕ → List ℕ → List ℕ → Type 0
BadWord whole word left = (left ≡ whole) ⊎ ((left ≡ []) × WordEndsInNone word)

width_ends : (room : ℕ) (whole digits : List ℕ) → EachIs is_digit digits → (b : Bool) → begins_width digits ≡ b
    → Seen (BadWord whole (37 ∷ (digits ++ []))) (printed_read room) (digits ++ []) (if b then Err [] else Err whole)
width_ends room whole digits each true is = inl (digits_mend room digits (width_more digits each is))
width_ends room whole digits each false is = inr (inl refl)

width_by : (room : ℕ) (whole digits : List ℕ) (c : ℕ) (text : List ℕ) → EachIs is_digit digits → is_digit c ≡ false → (width : Option (Option Width)) → width_of digits ≡ width
    → Seen (BadWord whole (37 ∷ (digits ++ c ∷ text))) (printed_read room) (digits ++ c ∷ text) (printed_by room whole c text width)
width_by room whole digits c text each stops None is = inr (inl refl)
width_by room whole digits c text each stops (Some width) is = choose (c == 123) refl
  where
    ends : (c == 40) ≡ true → (left : List ℕ) → BadCall false whole text left → BadWord whole (37 ∷ (digits ++ c ∷ text)) left
    ends e left (inl h) = inl h
    ends e left (inr n) = inr (n.0, subst (λ (z : ℕ). WordEndsInNone (37 ∷ (digits ++ z ∷ text))) (sym (equal c 40 e)) (printed digits text (all is_digit digits each) n.1))

    opening : (b : Bool) → (c == 123) ≡ false → (c == 40) ≡ b
        → Seen (BadWord whole (37 ∷ (digits ++ c ∷ text))) (printed_read room) (digits ++ c ∷ text) (if b then printed_call_in room width whole text else Err whole)
    opening true other e =
        seen_at (BadWord whole (37 ∷ (digits ++ c ∷ text))) (printed_read room) ((digits ++ c ∷ []) ++ text) (digits ++ c ∷ text) (printed_call_in room width whole text) (append_assoc digits (c ∷ []) text)
        (seen_behind (λ call. Print (PrintedCall width call)) (call_in room false) (printed_read room) (BadCall false whole text) (BadWord whole (37 ∷ (digits ++ c ∷ text))) (digits ++ c ∷ []) text
        (λ w t x behind h.
        digits_read room w digits c t width each stops is ∙ ap (λ b. if b then printed_component_in width w t else (if c == 40 then printed_call_in room width w t else Err w)) other
        ∙ ap (λ b. if b then printed_call_in room width w t else Err w) e ∙ ap (made (λ call. Print (PrintedCall width call))) (h w))
        (λ left b. inr (ends e left b)) (call_in room false whole text) (call_seen room false whole text))
    opening false other e = inr (inl refl)

    choose : (b : Bool) → (c == 123) ≡ b
        → Seen (BadWord whole (37 ∷ (digits ++ c ∷ text))) (printed_read room) (digits ++ c ∷ text) (if b then printed_component_in width whole text else (if c == 40 then printed_call_in room width whole text else Err whole))
    choose true e =
        seen_at (BadWord whole (37 ∷ (digits ++ c ∷ text))) (printed_read room) ((digits ++ c ∷ []) ++ text) (digits ++ c ∷ text) (printed_component_in width whole text) (append_assoc digits (c ∷ []) text)
        (seen_behind (λ name. Print (PrintedComponent width name)) component_in (printed_read room) (λ left. left ≡ whole) (BadWord whole (37 ∷ (digits ++ c ∷ text))) (digits ++ c ∷ []) text
        (λ w t x behind h.
        digits_read room w digits c t width each stops is ∙ ap (λ b. if b then printed_component_in width w t else (if c == 40 then printed_call_in room width w t else Err w)) e
        ∙ ap (made (λ name. Print (PrintedComponent width name))) (h w))
        (λ left b. inr (inl b)) (component_in whole text) (component_seen whole text))
    choose false other = opening (c == 40) other refl

-- what is printed is read, or can be completed up to where it is wrong
pub printed_seen : (room : ℕ) (whole text : List ℕ) → Seen (BadWord whole (37 ∷ text)) (printed_read room) text (printed_in room whole text)
printed_seen room whole text =
    by_parts is_digit (λ t digits rest. Seen (BadWord whole (37 ∷ t)) (printed_read room) t (sized_by room whole digits rest)) text at
  where
    at : (digits rest : List ℕ) → EachIs is_digit digits → StopsHere is_digit rest → Seen (BadWord whole (37 ∷ (digits ++ rest))) (printed_read room) (digits ++ rest) (sized_by room whole digits rest)
    at digits [] each stops = width_ends room whole digits each (begins_width digits) refl
    at digits (c ∷ rest) each stops = width_by room whole digits c rest each stops (width_of digits) refl
