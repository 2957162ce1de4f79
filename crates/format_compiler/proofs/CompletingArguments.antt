-- What stands behind functions' names, up to where it is wrong.
use Rattle.std.proofs.Common.{◌≡◌, ◌⊎◌, inl, ℕ, ◌+◌, ◌==◌, ◌||◌, not, Bool, true, false, List, [], ◌∷◌, drop, Ok, Err, refl, sym, ap, ◌∙◌, subst, pos, cond}
use Rattle.std.specs.Prelude.{if◌then◌else◌}
use Rattle.std.specs.List.{prefix_len}
use Rattle.format_compiler.specs.declared.argument.Argument.{Argument}
use Rattle.format_compiler.specs.declared.argument.Argument.TheVariants.{Nothing, Literal, Number, Component}
use Rattle.format_compiler.specs.declared.call.Call.{Call}
use Rattle.format_compiler.specs.declared.function.ArgumentKind.{ArgumentKind}
use Rattle.format_compiler.specs.declared.function.ArgumentKind.TheVariants.{Nothing as TakesNothing, Literal as TakesLiteral, LiteralOrNothing as MayTakeLiteral, Number as TakesNumber, Component as TakesComponent, Source as TakesSource, SourceOrNothing as MayTakeSource}
use Rattle.format_compiler.specs.declared.function.Function.{Function}
use Rattle.format_compiler.specs.Arguments.{literal_in, number_by, number_of, spaced_literal_in}
use Rattle.format_compiler.specs.Calls.{Around, argument_in, behind_spaces, called, closed_component_in, component_by, is_in_name, is_space, one_call, source_by, Whole, whole_by}
use Rattle.format_compiler.specs.Reading.{before, Read, ◌>>=◌}
use Rattle.format_compiler.proofs.Completing.{at_once, made, Mends, Reads}

-- the argument of this kind, and the call that it makes
abbrev pub argued : ArgumentKind → Function → (List ℕ → List ℕ → Read Call) → List ℕ → List ℕ → Read Call
argued kind f inner whole text = argument_in kind f text >>= whole_by inner

-- an argument of this kind
abbrev pub some_argument : ArgumentKind → List ℕ
some_argument TakesNothing = 41 ∷ []
some_argument TakesLiteral = 32 ∷ (41 ∷ [])
some_argument MayTakeLiteral = 41 ∷ []
some_argument TakesNumber = 32 ∷ (48 ∷ (41 ∷ []))
some_argument TakesComponent = 123 ∷ (97 ∷ (125 ∷ (41 ∷ [])))
some_argument TakesSource = 123 ∷ (97 ∷ (125 ∷ (41 ∷ [])))
some_argument MayTakeSource = 41 ∷ []

abbrev pub some_call : ArgumentKind → Function → Call
some_call TakesNothing f = one_call f Nothing
some_call TakesLiteral f = one_call f (Literal [])
some_call MayTakeLiteral f = one_call f (Literal [])
some_call TakesNumber f = one_call f (Number (pos 0))
some_call TakesComponent f = one_call f (Component (97 ∷ []))
some_call TakesSource f = one_call f (Component (97 ∷ []))
some_call MayTakeSource f = one_call f Nothing

pub some_reads : (kind : ArgumentKind) (f : Function) (inner : List ℕ → List ℕ → Read Call) → Reads (argued kind f inner) (some_argument kind) (some_call kind f)
some_reads TakesNothing f inner whole rest = refl
some_reads TakesLiteral f inner whole rest = refl
some_reads MayTakeLiteral f inner whole rest = refl
some_reads TakesNumber f inner whole rest = refl
some_reads TakesComponent f inner whole rest = refl
some_reads TakesSource f inner whole rest = refl
some_reads MayTakeSource f inner whole rest = refl

pub none_read : (kind : ArgumentKind) (f : Function) (inner : List ℕ → List ℕ → Read Call) (whole : List ℕ) → argued kind f inner whole [] ≡ Err []
none_read TakesNothing f inner whole = refl
none_read TakesLiteral f inner whole = refl
none_read MayTakeLiteral f inner whole = refl
none_read TakesNumber f inner whole = refl
none_read TakesComponent f inner whole = refl
none_read TakesSource f inner whole = refl
none_read MayTakeSource f inner whole = refl

-- a character that belongs to a name is none of those that end one
pub record NoEnd (c : ℕ) : Type 0 where
  pub space : (c == 32) ≡ false
  pub brace : (c == 123) ≡ false
  pub opening : (c == 40) ≡ false
  pub closing : (c == 41) ≡ false

no_end_by : (c : ℕ) (p q r s : Bool) → (c == 32) ≡ p → (c == 123) ≡ q → (c == 40) ≡ r → (c == 41) ≡ s → not (p || q || r || s) ≡ true → NoEnd c
no_end_by c true q r s e f g h is = cc
no_end_by c false true r s e f g h is = cc
no_end_by c false false true s e f g h is = cc
no_end_by c false false false true e f g h is = cc
no_end_by c false false false false e f g h is = record { space = e; brace = f; opening = g; closing = h }

no_end : (c : ℕ) → is_in_name c ≡ true → NoEnd c
no_end c is = no_end_by c (c == 32) (c == 123) (c == 40) (c == 41) refl refl refl refl is

no_spaces : (c : ℕ) (text : List ℕ) → (c == 32) ≡ false → behind_spaces (c ∷ text) ≡ c ∷ text
no_spaces c text is = ap (λ b. drop (cond b (1 + prefix_len is_space text) 0) (c ∷ text)) is

no_source : (whole text : List ℕ) (f : Function) (c : ℕ) (behind : List ℕ) → text ≡ c ∷ behind → NoEnd c → source_by whole f text ≡ Err whole
no_source whole text f c behind is n =
    ap (source_by whole f) is ∙ ap (λ b. if b then called f Component (closed_component_in whole behind) else (if c == 40 then Ok (Around f whole, behind) else Err whole)) n.brace
    ∙ ap (λ b. if b then Ok (Around f whole, behind) else Err whole) n.opening

no_component : (whole text : List ℕ) (f : Function) (c : ℕ) (behind : List ℕ) → text ≡ c ∷ behind → NoEnd c → component_by whole f text ≡ Err whole
no_component whole text f c behind is n = ap (component_by whole f) is ∙ ap (λ b. if b then called f Component (closed_component_in whole behind) else Err whole) n.brace

no_literal : (f : Function) (c : ℕ) (text : List ℕ) → NoEnd c → called f Literal (spaced_literal_in (c ∷ text)) ≡ Err (c ∷ text)
no_literal f c text n = ap (λ b. called f Literal (if b then literal_in text else Err (c ∷ text))) n.space

no_spaced_source : (f : Function) (c : ℕ) (text : List ℕ) → NoEnd c → source_by (c ∷ text) f (behind_spaces (c ∷ text)) ≡ Err (c ∷ text)
no_spaced_source f c text n = no_source (c ∷ text) (behind_spaces (c ∷ text)) f c text (no_spaces c text n.space) n

-- behind a name stands what ends it
none_argument : (kind : ArgumentKind) (f : Function) (c : ℕ) (text : List ℕ) → NoEnd c → argument_in kind f (c ∷ text) ≡ Err (c ∷ text)
none_argument TakesNothing f c text n = ap (λ b. before (Whole (one_call f Nothing)) (if b then Ok text else Err (c ∷ text))) n.closing
none_argument TakesLiteral f c text n = no_literal f c text n
none_argument MayTakeLiteral f c text n =
    ap (λ b. if b then Ok (Whole (one_call f (Literal [])), text) else called f Literal (spaced_literal_in (c ∷ text))) n.closing ∙ no_literal f c text n
none_argument TakesNumber f c text n = ap (λ b. called f Number ((if b then literal_in text else Err (c ∷ text)) >>= λ l behind. number_by (c ∷ text) behind (number_of l))) n.space
none_argument TakesComponent f c text n = no_component (c ∷ text) (behind_spaces (c ∷ text)) f c text (no_spaces c text n.space) n
none_argument TakesSource f c text n = no_spaced_source f c text n
none_argument MayTakeSource f c text n =
    ap (λ b. if b then Ok (Whole (one_call f Nothing), text) else source_by (c ∷ text) f (behind_spaces (c ∷ text))) n.closing ∙ no_spaced_source f c text n

-- an argument begins with what ends a name
pub argument_ends : (kind : ArgumentKind) (f : Function) (inner : List ℕ → List ℕ → Read Call) (whole : List ℕ) (c : ℕ) (text : List ℕ) (x : Call × List ℕ) → argued kind f inner whole (c ∷ text) ≡ Ok x
    → is_in_name c ≡ false
argument_ends kind f inner whole c text x is = choose (is_in_name c) refl
  where
    choose : (b : Bool) → is_in_name c ≡ b → is_in_name c ≡ false
    choose true e = let wrong = ap (λ z. z >>= whole_by inner) (none_argument kind f c text (no_end c e)) in cc
    choose false e = e

-- what is wrong at once can be completed
pub once : (kind : ArgumentKind) (f : Function) (inner : List ℕ → List ℕ → Read Call) (bad : List ℕ → Type 0) (text left : List ℕ) → left ≡ text → Mends (argued kind f inner) text left ⊎ bad left
once kind f inner bad text left is =
    inl (subst (λ (z : List ℕ). Mends (argued kind f inner) text z) (sym is) (at_once (argued kind f inner) text (some_argument kind) (some_call kind f) (some_reads kind f inner)))

pub called_made : {A : Type 0} (f : Function) (argument : A → Argument) (inner : List ℕ → List ℕ → Read Call) (read : Read A) → made (λ x. one_call f (argument x)) read ≡ (called f argument read >>= whole_by inner)
called_made f argument inner (Ok x) = refl
called_made f argument inner (Err left) = refl
