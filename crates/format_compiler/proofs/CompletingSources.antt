-- Arguments that are components or functions, and the other kinds, up to where they are wrong.
use Rattle.std.proofs.Common.{◌≡◌, ◌⊎◌, inl, inr, ℕ, ◌==◌, Bool, true, false, List, [], ◌∷◌, ◌++◌, Ok, Err, refl, sym, ap, ◌∙◌, subst}
use Rattle.std.specs.Prelude.{if◌then◌else◌}
use Rattle.std.proofs.lemmas.List.{append_assoc}
use Rattle.format_compiler.specs.declared.argument.Argument.TheVariants.{Nothing, Literal, Number, Component}
use Rattle.format_compiler.specs.declared.call.Call.{Call}
use Rattle.format_compiler.specs.declared.function.ArgumentKind.{ArgumentKind}
use Rattle.format_compiler.specs.declared.function.ArgumentKind.TheVariants.{Nothing as TakesNothing, Literal as TakesLiteral, LiteralOrNothing as MayTakeLiteral, Number as TakesNumber, Component as TakesComponent, Source as TakesSource, SourceOrNothing as MayTakeSource}
use Rattle.format_compiler.specs.declared.function.Function.{Function}
use Rattle.format_compiler.specs.Arguments.{spaced_literal_in, spaced_number_in}
use Rattle.format_compiler.specs.Calls.{Around, argument_in, behind_spaces, called, closed_component_in, closed_or, component_by, Front, is_space, one_call, source_by, Whole, whole_by, with_around}
use Rattle.format_compiler.specs.Reading.{before, Read, ◌>>=◌}
use Rattle.format_compiler.proofs.Completing.{carried, Carries, closed, closed_seen, equal, made, made_same, Mends, Passes, read_at, Reads, Seen, seen_at, seen_behind, Taken}
use Rattle.format_compiler.proofs.CompletingArguments.{argued, called_made, none_read, once}
use Rattle.format_compiler.proofs.CompletingComponents.{closed_component_seen}
use Rattle.format_compiler.proofs.CompletingNumbers.{BadNumber, NumberEnds, spaced_literal, spaced_literal_seen, spaced_number, spaced_number_seen}
use Rattle.format_compiler.proofs.TwoParts.{by_parts, EachIs, far, StopsHere}

-- what stands behind spaces, read in this way
abbrev pub spaced : (List ℕ → List ℕ → Read Front) → (List ℕ → List ℕ → Read Call) → List ℕ → List ℕ → Read Call
spaced by inner whole text = by text (behind_spaces text) >>= whole_by inner

behind_them : (spaces : List ℕ) (c : ℕ) (text : List ℕ) → EachIs is_space spaces → is_space c ≡ false → behind_spaces ((spaces ++ c ∷ []) ++ text) ≡ c ∷ text
behind_them spaces c text each other =
    let f = far is_space spaces (c ∷ text) each other in
    ap behind_spaces (append_assoc spaces (c ∷ []) text) ∙ f.dropped

-- where a brace stands a component is read
abbrev pub AtBrace : Function → (List ℕ → List ℕ → Read Front) → Type 0
AtBrace f by = (whole text : List ℕ) → by whole (123 ∷ text) ≡ called f Component (closed_component_in whole text)

brace_carries : (f : Function) (by : List ℕ → List ℕ → Read Front) (inner : List ℕ → List ℕ → Read Call) → AtBrace f by → (spaces : List ℕ) → EachIs is_space spaces
    → Carries (λ name. one_call f (Component name)) closed_component_in (spaced by inner) (spaces ++ 123 ∷ [])
brace_carries f by inner at spaces each whole text x behind h =
    let all = (spaces ++ 123 ∷ []) ++ text in
    ap (λ z. z >>= whole_by inner) (ap (by all) (behind_them spaces 123 text each refl) ∙ at all text ∙ ap (called f Component) (h all))

-- a component behind spaces at the end of a text
spaces_mend : (f : Function) (by : List ℕ → List ℕ → Read Front) (inner : List ℕ → List ℕ → Read Call) → AtBrace f by → (spaces : List ℕ) → EachIs is_space spaces
    → Mends (spaced by inner) (spaces ++ []) []
spaces_mend f by inner at spaces each = record {
  front = spaces;
  parts = refl;
  more = 123 ∷ (97 ∷ (125 ∷ (41 ∷ [])));
  value = one_call f (Component (97 ∷ []));
  reads = subst (λ (z : List ℕ). Reads (spaced by inner) z (one_call f (Component (97 ∷ [])))) (append_assoc spaces (123 ∷ []) (97 ∷ (125 ∷ (41 ∷ []))))
      (carried (λ name. one_call f (Component name)) closed_component_in (spaced by inner) (spaces ++ 123 ∷ []) (97 ∷ (125 ∷ (41 ∷ []))) (97 ∷ []) (brace_carries f by inner at spaces each) (λ whole rest. refl));
}

-- what is wrong at the argument's begin can be completed
abbrev pub AtOnce : (List ℕ → Type 0) → (List ℕ → List ℕ → Read Call) → List ℕ → Type 0
AtOnce bad read text = (left : List ℕ) → left ≡ text → Mends read text left ⊎ bad left

seam : (spaces : List ℕ) (c d : ℕ) (text : List ℕ) → c ≡ d → spaces ++ c ∷ text ≡ (spaces ++ d ∷ []) ++ text
seam spaces c d text is = ap (λ z. spaces ++ z ∷ text) is ∙ sym (append_assoc spaces (d ∷ []) text)

brace_seen : (f : Function) (by : List ℕ → List ℕ → Read Front) (inner : List ℕ → List ℕ → Read Call) (bad : List ℕ → Type 0) → AtBrace f by → (spaces : List ℕ) → EachIs is_space spaces
    → (c : ℕ) (text : List ℕ) → c ≡ 123 → AtOnce bad (spaced by inner) (spaces ++ c ∷ text)
    → Seen bad (spaced by inner) (spaces ++ c ∷ text) (called f Component (closed_component_in (spaces ++ c ∷ text) text) >>= whole_by inner)
brace_seen f by inner bad at spaces each c text is now =
    let all = spaces ++ c ∷ text in
    let here = closed_component_in all text in
    read_at bad (spaced by inner) all (made (λ name. one_call f (Component name)) here) (called f Component here >>= whole_by inner) (called_made f Component inner here)
    (seen_at bad (spaced by inner) ((spaces ++ 123 ∷ []) ++ text) all (made (λ name. one_call f (Component name)) here) (sym (seam spaces c 123 text is))
    (seen_behind (λ name. one_call f (Component name)) closed_component_in (spaced by inner) (λ left. left ≡ all) bad (spaces ++ 123 ∷ []) text (brace_carries f by inner at spaces each)
    (subst (λ (z : List ℕ). Passes (λ left. left ≡ all) bad (spaced by inner) z) (seam spaces c 123 text is) now) here (closed_component_seen all text)))

component_seen : (f : Function) (inner : List ℕ → List ℕ → Read Call) (bad : List ℕ → Type 0) (text : List ℕ) → Seen bad (argued TakesComponent f inner) text (argued TakesComponent f inner text text)
component_seen f inner bad text =
    by_parts is_space (λ t spaces rest. Seen bad (argued TakesComponent f inner) t (component_by t f rest >>= whole_by inner)) text at
  where
    at : (spaces rest : List ℕ) → EachIs is_space spaces → StopsHere is_space rest
        → Seen bad (argued TakesComponent f inner) (spaces ++ rest) (component_by (spaces ++ rest) f rest >>= whole_by inner)
    at spaces [] each stops = inl (spaces_mend f (λ whole rest. component_by whole f rest) inner (λ whole rest. refl) spaces each)
    at spaces (c ∷ rest) each stops = choose (c == 123) refl
      where
        choose : (b : Bool) → (c == 123) ≡ b → Seen bad (argued TakesComponent f inner) (spaces ++ c ∷ rest) ((if b then called f Component (closed_component_in (spaces ++ c ∷ rest) rest) else Err (spaces ++ c ∷ rest)) >>= whole_by inner)
        choose true is =
            brace_seen f (λ whole rest. component_by whole f rest) inner bad (λ whole rest. refl) spaces each c rest (equal c 123 is) (once TakesComponent f inner bad (spaces ++ c ∷ rest))
        choose false other = once TakesComponent f inner bad (spaces ++ c ∷ rest) (spaces ++ c ∷ rest) refl

-- how the inner call is read, which is wrong from its beginning or in this other way
abbrev pub InnerSeen : (List ℕ → List ℕ → Read Call) → (List ℕ → List ℕ → Type 0) → Type 0
InnerSeen inner worse = (whole text : List ℕ) → Seen (λ left. (left ≡ whole) ⊎ worse text left) inner text (inner whole text)

-- what is bad of a number, and of an inner call, is bad of the argument
pub record Worse (kind : ArgumentKind) (f : Function) (worse : List ℕ → List ℕ → Type 0) (bad : List ℕ → Type 0) (text : List ℕ) : Type 0 where
  pub number : (left : List ℕ) → kind ≡ TakesNumber → NumberEnds text left → bad left
  pub argument : (whole behind left : List ℕ) → argument_in kind f text ≡ Ok (Around f whole, behind) → worse behind left → bad left

opening_carries : (f : Function) (inner : List ℕ → List ℕ → Read Call) (spaces : List ℕ) → EachIs is_space spaces
    → Carries (λ call. call) (λ whole text. closed (with_around f) (inner whole text)) (argued TakesSource f inner) (spaces ++ 40 ∷ [])
opening_carries f inner spaces each whole text x behind h =
    let all = (spaces ++ 40 ∷ []) ++ text in
    ap (λ z. source_by all f z >>= whole_by inner) (behind_them spaces 40 text each refl) ∙ h all

opening_seen : (f : Function) (inner : List ℕ → List ℕ → Read Call) (worse : List ℕ → List ℕ → Type 0) (bad : List ℕ → Type 0) → InnerSeen inner worse → (spaces : List ℕ) → EachIs is_space spaces
    → (c : ℕ) (text : List ℕ) → c ≡ 40 → AtOnce bad (argued TakesSource f inner) (spaces ++ c ∷ text) → ((left : List ℕ) → worse text left → bad left)
    → Seen bad (argued TakesSource f inner) (spaces ++ c ∷ text) (closed (with_around f) (inner (spaces ++ c ∷ text) text))
opening_seen f inner worse bad seen spaces each c text is now on =
    let all = spaces ++ c ∷ text in
    let here = closed (with_around f) (inner all text) in
    let wrong : List ℕ → Type 0 = λ left. (left ≡ all) ⊎ worse text left in
    read_at bad (argued TakesSource f inner) all (made (λ call. call) here) here (made_same here)
    (seen_at bad (argued TakesSource f inner) ((spaces ++ 40 ∷ []) ++ text) all (made (λ call. call) here) (sym (seam spaces c 40 text is))
    (seen_behind (λ call. call) (λ whole text. closed (with_around f) (inner whole text)) (argued TakesSource f inner) wrong bad (spaces ++ 40 ∷ []) text (opening_carries f inner spaces each)
    (subst (λ (z : List ℕ). Passes wrong bad (argued TakesSource f inner) z) (seam spaces c 40 text is) passes)
    here (closed_seen (with_around f) inner wrong wrong text (λ left b. inr b) (inner all text) (seen all text))))
  where
    passes : Passes (λ left. (left ≡ spaces ++ c ∷ text) ⊎ worse text left) bad (argued TakesSource f inner) (spaces ++ c ∷ text)
    passes left (inl e) = now left e
    passes left (inr w) = inr (on left w)

source_seen : (f : Function) (inner : List ℕ → List ℕ → Read Call) (worse : List ℕ → List ℕ → Type 0) (bad : List ℕ → Type 0) (text : List ℕ) → InnerSeen inner worse
    → ((whole behind left : List ℕ) → argument_in TakesSource f text ≡ Ok (Around f whole, behind) → worse behind left → bad left)
    → Seen bad (argued TakesSource f inner) text (argued TakesSource f inner text text)
source_seen f inner worse bad text seen on =
    by_parts is_space (λ t spaces rest. ((whole behind left : List ℕ) → source_by t f rest ≡ Ok (Around f whole, behind) → worse behind left → bad left) → Seen bad (argued TakesSource f inner) t (source_by t f rest >>= whole_by inner)) text at on
  where
    at : (spaces rest : List ℕ) → EachIs is_space spaces → StopsHere is_space rest → ((whole behind left : List ℕ) → source_by (spaces ++ rest) f rest ≡ Ok (Around f whole, behind) → worse behind left → bad left)
        → Seen bad (argued TakesSource f inner) (spaces ++ rest) (source_by (spaces ++ rest) f rest >>= whole_by inner)
    at spaces [] each stops h = inl (spaces_mend f (λ whole rest. source_by whole f rest) inner (λ whole rest. refl) spaces each)
    at spaces (c ∷ rest) each stops h = choose (c == 123) refl
      where
        opening : (b : Bool) → (c == 123) ≡ false → (c == 40) ≡ b
            → Seen bad (argued TakesSource f inner) (spaces ++ c ∷ rest) ((if b then Ok (Around f (spaces ++ c ∷ rest), rest) else Err (spaces ++ c ∷ rest)) >>= whole_by inner)
        opening true other is =
            let here = ap (λ b. if b then called f Component (closed_component_in (spaces ++ c ∷ rest) rest) else (if c == 40 then Ok (Around f (spaces ++ c ∷ rest), rest) else Err (spaces ++ c ∷ rest))) other
            ∙ ap (λ b. if b then Ok (Around f (spaces ++ c ∷ rest), rest) else Err (spaces ++ c ∷ rest)) is in
            opening_seen f inner worse bad seen spaces each c rest (equal c 40 is) (once TakesSource f inner bad (spaces ++ c ∷ rest)) (λ left w. h (spaces ++ c ∷ rest) rest left here w)
        opening false other is = once TakesSource f inner bad (spaces ++ c ∷ rest) (spaces ++ c ∷ rest) refl

        choose : (b : Bool) → (c == 123) ≡ b
            → Seen bad (argued TakesSource f inner) (spaces ++ c ∷ rest) ((if b then called f Component (closed_component_in (spaces ++ c ∷ rest) rest) else (if c == 40 then Ok (Around f (spaces ++ c ∷ rest), rest) else Err (spaces ++ c ∷ rest))) >>= whole_by inner)
        choose true is =
            brace_seen f (λ whole rest. source_by whole f rest) inner bad (λ whole rest. refl) spaces each c rest (equal c 123 is) (once TakesSource f inner bad (spaces ++ c ∷ rest))
        choose false other = opening (c == 40) other refl

-- the argument is what is read
read_seen : {A : Type 0} (kind : ArgumentKind) (f : Function) (inner : List ℕ → List ℕ → Read Call) (make : A → Call) (read : List ℕ → List ℕ → Read A) (wrong bad : List ℕ → Type 0) (text : List ℕ)
    → ((whole t : List ℕ) → made make (read whole t) ≡ argued kind f inner whole t) → Passes wrong bad (argued kind f inner) text
    → Seen wrong read text (read text text) → Seen bad (argued kind f inner) text (argued kind f inner text text)
read_seen kind f inner make read wrong bad text is passes h =
    read_at bad (argued kind f inner) text (made make (read text text)) (argued kind f inner text text) (is text text)
    (seen_behind make read (argued kind f inner) wrong bad [] text (λ whole t x behind k. sym (is whole t) ∙ ap (made make) (k whole)) passes (read text text) h)

literal_seen : (f : Function) (inner : List ℕ → List ℕ → Read Call) (bad : List ℕ → Type 0) (text : List ℕ) → Seen bad (argued TakesLiteral f inner) text (argued TakesLiteral f inner text text)
literal_seen f inner bad text =
    read_seen TakesLiteral f inner (λ l. one_call f (Literal l)) spaced_literal (λ left. left ≡ text) bad text (λ whole t. called_made f Literal inner (spaced_literal_in t))
    (once TakesLiteral f inner bad text) (spaced_literal_seen text)

number_seen : (f : Function) (inner : List ℕ → List ℕ → Read Call) (bad : List ℕ → Type 0) (text : List ℕ) → ((left : List ℕ) → NumberEnds text left → bad left)
    → Seen bad (argued TakesNumber f inner) text (argued TakesNumber f inner text text)
number_seen f inner bad text on =
    read_seen TakesNumber f inner (λ n. one_call f (Number n)) spaced_number (BadNumber text) bad text (λ whole t. called_made f Number inner (spaced_number_in t))
    passes (spaced_number_seen text)
  where
    passes : (left : List ℕ) → BadNumber text left → Mends (argued TakesNumber f inner) text left ⊎ bad left
    passes left (inl e) = once TakesNumber f inner bad text left e
    passes left (inr n) = inr (on left n)

-- a closing parenthesis, or such an argument
abbrev pub or_closed : Call → ArgumentKind → Function → (List ℕ → List ℕ → Read Call) → List ℕ → List ℕ → Read Call
or_closed call kind f inner whole text = closed_or call (argument_in kind f text) text >>= whole_by inner

closed_at_once : (call : Call) (kind : ArgumentKind) (f : Function) (inner : List ℕ → List ℕ → Read Call) (c : ℕ) (text : List ℕ) → (c == 41) ≡ true → Taken (or_closed call kind f inner) (c ∷ text) call text
closed_at_once call kind f inner c text is = record { front = 41 ∷ []; parts = ap (λ z. z ∷ text) (sym (equal c 41 is)); reads = λ whole rest. refl }

-- an argument of this kind doesn't begin with a closing parenthesis
abbrev pub NeverClosed : ArgumentKind → Function → (List ℕ → List ℕ → Read Call) → Type 0
NeverClosed kind f inner = (whole text : List ℕ) → argued kind f inner whole (41 ∷ text) ≡ Err (41 ∷ text)

or_reads : (call : Call) (kind : ArgumentKind) (f : Function) (inner : List ℕ → List ℕ → Read Call) → NeverClosed kind f inner → Carries (λ x. x) (argued kind f inner) (or_closed call kind f inner) []
or_reads call kind f inner never whole [] x behind h = let e = h whole in let n = none_read kind f inner whole in cc
or_reads call kind f inner never whole (c ∷ text) x behind h = choose (c == 41) refl
  where
    choose : (b : Bool) → (c == 41) ≡ b → ((if b then Ok (Whole call, text) else argument_in kind f (c ∷ text)) >>= whole_by inner) ≡ Ok (x, behind)
    choose true is = let same = ap (λ z. argued kind f inner whole (z ∷ text)) (equal c 41 is) in let e = h whole in let n = never whole text in cc
    choose false other = h whole

or_seen : (call : Call) (kind : ArgumentKind) (f : Function) (inner : List ℕ → List ℕ → Read Call) (bad : List ℕ → Type 0) → NeverClosed kind f inner → (c : ℕ) (text : List ℕ)
    → ((c == 41) ≡ false → Seen bad (argued kind f inner) (c ∷ text) (argued kind f inner (c ∷ text) (c ∷ text)))
    → Seen bad (or_closed call kind f inner) (c ∷ text) (or_closed call kind f inner (c ∷ text) (c ∷ text))
or_seen call kind f inner bad never c text seen = choose (c == 41) refl
  where
    choose : (b : Bool) → (c == 41) ≡ b → Seen bad (or_closed call kind f inner) (c ∷ text) ((if b then Ok (Whole call, text) else argument_in kind f (c ∷ text)) >>= whole_by inner)
    choose true is = closed_at_once call kind f inner c text is
    choose false other =
        let here = argued kind f inner (c ∷ text) (c ∷ text) in
        read_at bad (or_closed call kind f inner) (c ∷ text) (made (λ x. x) here) here (made_same here)
        (seen_behind (λ x. x) (argued kind f inner) (or_closed call kind f inner) bad bad [] (c ∷ text) (or_reads call kind f inner never) (λ left b. inr b) here (seen other))

-- what else may stand where a parenthesis may close at once
or_else : (call : Call) (kind : ArgumentKind) (f : Function) (c : ℕ) (text : List ℕ) (read : Read Front) → (c == 41) ≡ false → argument_in kind f (c ∷ text) ≡ read
    → closed_or call (argument_in kind f (c ∷ text)) (c ∷ text) ≡ read
or_else call kind f c text read other is = ap (λ b. if b then Ok (Whole call, text) else argument_in kind f (c ∷ text)) other ∙ is

nothing_seen : (f : Function) (inner : List ℕ → List ℕ → Read Call) (bad : List ℕ → Type 0) (c : ℕ) (text : List ℕ)
    → Seen bad (argued TakesNothing f inner) (c ∷ text) (argued TakesNothing f inner (c ∷ text) (c ∷ text))
nothing_seen f inner bad c text = choose (c == 41) refl
  where
    choose : (b : Bool) → (c == 41) ≡ b → Seen bad (argued TakesNothing f inner) (c ∷ text) (before (Whole (one_call f Nothing)) (if b then Ok text else Err (c ∷ text)) >>= whole_by inner)
    choose true is = record { front = 41 ∷ []; parts = ap (λ z. z ∷ text) (sym (equal c 41 is)); reads = λ whole rest. refl }
    choose false other = once TakesNothing f inner bad (c ∷ text) (c ∷ text) refl

-- an argument is read, or can be completed up to where it is wrong, or ends within a number or an inner call that can't
pub argument_seen : (kind : ArgumentKind) (f : Function) (inner : List ℕ → List ℕ → Read Call) (worse : List ℕ → List ℕ → Type 0) (bad : List ℕ → Type 0) (c : ℕ) (text : List ℕ) → InnerSeen inner worse
    → Worse kind f worse bad (c ∷ text) → Seen bad (argued kind f inner) (c ∷ text) (argued kind f inner (c ∷ text) (c ∷ text))
argument_seen TakesNothing f inner worse bad c text seen h = nothing_seen f inner bad c text
argument_seen TakesLiteral f inner worse bad c text seen h = literal_seen f inner bad (c ∷ text)
argument_seen MayTakeLiteral f inner worse bad c text seen h =
    or_seen (one_call f (Literal [])) TakesLiteral f inner bad (λ whole t. refl) c text (λ other. literal_seen f inner bad (c ∷ text))
argument_seen TakesNumber f inner worse bad c text seen h = number_seen f inner bad (c ∷ text) (λ left n. h.number left refl n)
argument_seen TakesComponent f inner worse bad c text seen h = component_seen f inner bad (c ∷ text)
argument_seen TakesSource f inner worse bad c text seen h = source_seen f inner worse bad (c ∷ text) seen h.argument
argument_seen MayTakeSource f inner worse bad c text seen h =
    or_seen (one_call f Nothing) TakesSource f inner bad (λ whole t. refl) c text
    (λ other. source_seen f inner worse bad (c ∷ text) seen
    (λ whole behind left is w. h.argument whole behind left (or_else (one_call f Nothing) TakesSource f c text (Ok (Around f whole, behind)) other is) w))
