-- Calls of functions, up to where they are wrong.
use Rattle.std.proofs.Common.{◌≡◌, ◌⊎◌, inl, inr, ℕ, zero, suc, ◌&&◌, not, Bool, true, false, List, [], ◌∷◌, ◌++◌, Option, Some, None, Ok, Err, refl, sym, ap, ◌∙◌, subst, append-nil}
use Rattle.std.specs.Prelude.{if◌then◌else◌}
use Rattle.std.proofs.lemmas.List.{append_assoc}
use Rattle.format_compiler.specs.declared.call.Call.{Call}
use Rattle.format_compiler.specs.declared.function.Function.{Function}
use Rattle.format_compiler.specs.declared.function.Function.TheVariants.{Msg}
use Rattle.format_compiler.specs.Calls.{argument_in, call_in, fitting, function_by, function_in, is_in_name, whole_by}
use Rattle.format_compiler.specs.Functions.{every_function, function_named, has_result, kind_of, name_of}
use Rattle.format_compiler.specs.Reading.{Read, ◌>>=◌}
use Rattle.format_compiler.specs.Unfinished.{begins_name, CallEndsInNone, in_argument, in_name, in_number}
use Rattle.format_compiler.proofs.Completing.{at_once, carried, Carries, made, made_same, Mends, read_at, Reads, Seen, seen_behind}
use Rattle.format_compiler.proofs.CompletingArguments.{argued, argument_ends, none_read, some_argument, some_call, some_reads}
use Rattle.format_compiler.proofs.CompletingNames.{Begun, begun_among, name_reads, own_name_reads}
use Rattle.format_compiler.proofs.CompletingSources.{argument_seen, InnerSeen, Worse}
use Rattle.format_compiler.proofs.TwoParts.{all, by_parts, EachIs, StopsHere}

-- an argument is read behind this name, which is that of the function
abbrev pub IsReadBefore : Bool → List ℕ → Function → Type 0
IsReadBefore in_test name f = (c : ℕ) (text : List ℕ) → is_in_name c ≡ false → function_in in_test (name ++ c ∷ text) ≡ Ok (f, c ∷ text)

name_carries : (room : ℕ) (in_test : Bool) (name : List ℕ) (f : Function) → IsReadBefore in_test name f → Carries (λ x. x) (argued (kind_of f) f (call_in room false)) (call_in (suc room) in_test) name
unfolding call_in
name_carries room in_test name f reads whole [] x behind h = let e = h whole in let n = none_read (kind_of f) f (call_in room false) whole in absurd (cc)
name_carries room in_test name f reads whole (c ∷ text) x behind h =
    ap (λ z. z >>= (λ g b. argument_in (kind_of g) g b) >>= whole_by (call_in room false)) (reads c text (argument_ends (kind_of f) f (call_in room false) whole c text (x, behind) (h whole))) ∙ h whole

some_call_reads : (room : ℕ) (in_test : Bool) (f : Function) → (in_test && not (has_result f)) ≡ false → Reads (call_in (suc room) in_test) (name_of f ++ some_argument (kind_of f)) (some_call (kind_of f) f)
some_call_reads room in_test f fits =
    carried (λ x. x) (argued (kind_of f) f (call_in room false)) (call_in (suc room) in_test) (name_of f) (some_argument (kind_of f)) (some_call (kind_of f) f)
    (name_carries room in_test (name_of f) f (own_name_reads in_test f fits)) (some_reads (kind_of f) f (call_in room false))

message_fits : (in_test : Bool) → (in_test && not (has_result Msg)) ≡ false
message_fits true = refl
message_fits false = refl

-- where no name is read yet
name_at_once : (room : ℕ) (in_test : Bool) (text : List ℕ) → Mends (call_in (suc room) in_test) text text
name_at_once room in_test text =
    at_once (call_in (suc room) in_test) text (name_of Msg ++ some_argument (kind_of Msg)) (some_call (kind_of Msg) Msg) (some_call_reads room in_test Msg (message_fits in_test))

name_mends : (room : ℕ) (in_test : Bool) (name : List ℕ) → Begun in_test name → Mends (call_in (suc room) in_test) (name ++ []) []
name_mends room in_test name b = record {
  front = name;
  parts = refl;
  more = b.more ++ some_argument (kind_of b.function);
  value = some_call (kind_of b.function) b.function;
  reads = subst (λ (z : List ℕ). Reads (call_in (suc room) in_test) z (some_call (kind_of b.function) b.function))
      (ap (λ z. z ++ some_argument (kind_of b.function)) (sym b.whole) ∙ append_assoc name b.more (some_argument (kind_of b.function)))
      (some_call_reads room in_test b.function b.fits);
}

-- a call is wrong from where it began, or ends within a name or a number that none begins with
abbrev pub BadCall : Bool → List ℕ → List ℕ → List ℕ → Type 0
BadCall in_test whole text left = (left ≡ whole) ⊎ ((left ≡ []) × CallEndsInNone in_test text)

name_ends : (room : ℕ) (in_test : Bool) (whole name : List ℕ) → EachIs is_in_name name → (b : Bool) → begins_name in_test name ≡ b
    → Seen (BadCall in_test whole (name ++ [])) (call_in (suc room) in_test) (name ++ []) (Err [])
name_ends room in_test whole name each true is = inl (name_mends room in_test name (begun_among in_test name every_function is))
name_ends room in_test whole name each false none =
    inr (inr (refl, subst (λ (z : List ℕ). CallEndsInNone in_test z) (sym (append-nil name)) (in_name (all is_in_name name each) none)))

-- what ends within an argument ends within the call
ends_within : (in_test : Bool) (whole text : List ℕ) (f : Function) (behind : List ℕ) → function_in in_test text ≡ Ok (f, behind)
    → Worse (kind_of f) f (λ inner left. (left ≡ []) × CallEndsInNone false inner) (BadCall in_test whole text) behind
ends_within in_test whole text f behind is = record {
  number = λ left kind n. inr (n.at_end, in_number (is ∙ ap (λ z. Ok (f, z)) n.is) kind n.all n.none);
  argument = λ w inner left here n. inr (n.0, in_argument (ap (λ z. z >>= λ g b. argument_in (kind_of g) g b) is ∙ here) n.1);
}

abbrev pub behind_name : ℕ → Read Function → Read Call
behind_name room read = read >>= (λ f behind. argument_in (kind_of f) f behind) >>= whole_by (call_in room false)

name_seen : (room : ℕ) (in_test : Bool) (whole : List ℕ) → InnerSeen (call_in room false) (λ inner left. (left ≡ []) × CallEndsInNone false inner) → (name rest : List ℕ) → EachIs is_in_name name → StopsHere is_in_name rest
    → Seen (BadCall in_test whole (name ++ rest)) (call_in (suc room) in_test) (name ++ rest) (behind_name room (function_by in_test (name ++ rest) name rest))
name_seen room in_test whole seen name [] each stops = name_ends room in_test whole name each (begins_name in_test name) refl
name_seen room in_test whole seen name (c ∷ rest) each stops = choose (function_named name) refl
  where
    fits : (f : Function) (b : Bool) → function_named name ≡ Some f → (in_test && not (has_result f)) ≡ b
        → Seen (BadCall in_test whole (name ++ c ∷ rest)) (call_in (suc room) in_test) (name ++ c ∷ rest) (behind_name room (if b then Err (name ++ c ∷ rest) else Ok (f, c ∷ rest)))
    fits f true found is = inl (name_at_once room in_test (name ++ c ∷ rest))
    fits f false found is =
        let reads = name_reads in_test name f each found is in
        let here = argued (kind_of f) f (call_in room false) (c ∷ rest) (c ∷ rest) in
        let bad : List ℕ → Type 0 = BadCall in_test whole (name ++ c ∷ rest) in
        read_at bad (call_in (suc room) in_test) (name ++ c ∷ rest) (made (λ x. x) here) here (made_same here)
        (seen_behind (λ x. x) (argued (kind_of f) f (call_in room false)) (call_in (suc room) in_test) bad bad name (c ∷ rest) (name_carries room in_test name f reads) (λ left b. inr b) here
        (argument_seen (kind_of f) f (call_in room false) (λ inner left. (left ≡ []) × CallEndsInNone false inner) bad c rest seen
        (ends_within in_test whole (name ++ c ∷ rest) f (c ∷ rest) (reads c rest stops))))

    choose : (found : Option Function) → function_named name ≡ found
        → Seen (BadCall in_test whole (name ++ c ∷ rest)) (call_in (suc room) in_test) (name ++ c ∷ rest) (behind_name room (fitting in_test (name ++ c ∷ rest) (c ∷ rest) found))
    choose None is = inl (name_at_once room in_test (name ++ c ∷ rest))
    choose (Some f) is = fits f (in_test && not (has_result f)) is refl

pub call_seen : (room : ℕ) (in_test : Bool) (whole text : List ℕ) → Seen (BadCall in_test whole text) (call_in room in_test) text (call_in room in_test whole text)
unfolding call_in
call_seen zero in_test whole text = inr (inl refl)
call_seen (suc room) in_test whole text =
    by_parts is_in_name (λ t name rest. Seen (BadCall in_test whole t) (call_in (suc room) in_test) t (behind_name room (function_by in_test t name rest))) text
    (name_seen room in_test whole (λ w t. call_seen room false w t))
