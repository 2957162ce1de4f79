-- Where the words of expressions may stand, and the expressions.
use Rattle.std.proofs.Common.{◌≡◌, ℕ, zero, suc, Bool, true, false, List, [], ◌∷◌, Option, Some, None, refl, ◌∙◌}
use Rattle.std.proofs.lemmas.Bool.{false≢true}
use Rattle.pick_expr.specs.declared.lexeme.Lexeme.{Lexeme}
use Rattle.pick_expr.specs.declared.lexeme.Lexeme.TheVariants.{And, Or, Not, Open, Close, Test as TestWord}
use Rattle.pick_expr.specs.declared.one_test.Test.{Test}
use Rattle.pick_expr.specs.Grammar.{Tree, Leaf, Negation, IsOperand, IsBoth, IsEither, test, negation, group, last, joined, beside, only, choice}
use Rattle.pick_expr.specs.Steps.{Spot, step, may_end, at_start}

-- the words can be passed from this spot on, and an expression may end behind them
abbrev pub then_ends : (Spot → Bool) → Option Spot → Bool
then_ends ends None = false
then_ends ends (Some s) = ends s

abbrev pub passes : List Lexeme → Spot → Bool
passes [] s = may_end s
passes (x ∷ xs) s = then_ends (passes xs) (step x s)

-- an operand is to come
abbrev pub needing : ℕ → ℕ → List ℕ → Spot
needing base room around = record { needs = true; base = base; room = room; around = around }

-- an operand has come
abbrev pub having : ℕ → List ℕ → Spot
having base around = record { needs = false; base = base; room = base; around = around }

-- behind an operand another stands as after `-and`
beside_passes : (base room : ℕ) (around : List ℕ) (words rest : List Lexeme) (e : Tree) → IsOperand base words rest e → passes words (having base around) ≡ passes words (needing base base around)
beside_passes base room around words rest e test = refl
beside_passes base room around words rest e (negation o) = refl
beside_passes base room around words rest e (group o) = refl

beside_passes_both : (base : ℕ) (around : List ℕ) (words rest : List Lexeme) (e : Tree) → IsBoth base words rest e → passes words (having base around) ≡ passes words (needing base base around)
beside_passes_both base around words rest e (last o) = beside_passes base base around _ _ _ o
beside_passes_both base around words rest e (joined o b) = beside_passes base base around _ _ _ o
beside_passes_both base around words rest e (beside o b) = beside_passes base base around _ _ _ o

-- the words of an expression are passed
mutual
  operand_passes : (room : ℕ) (words rest : List Lexeme) (e : Tree) → IsOperand room words rest e → (base : ℕ) (around : List ℕ) → passes words (needing base room around) ≡ passes rest (having base around)
  operand_passes room words rest e test base around = refl
  operand_passes room words rest e (negation o) base around = operand_passes _ _ _ _ o base around
  operand_passes room words rest e (group o) base around = either_passes _ _ _ _ o (base ∷ around)

  both_passes : (room : ℕ) (words rest : List Lexeme) (e : Tree) → IsBoth room words rest e → (around : List ℕ) → passes words (needing room room around) ≡ passes rest (having room around)
  both_passes room words rest e (last o) around = operand_passes _ _ _ _ o room around
  both_passes room words rest e (joined o b) around = operand_passes _ _ _ _ o room around ∙ both_passes _ _ _ _ b around
  both_passes room words rest e (beside o b) around = operand_passes _ _ _ _ o room around ∙ beside_passes_both room around _ _ _ b ∙ both_passes _ _ _ _ b around

  either_passes : (room : ℕ) (words rest : List Lexeme) (e : Tree) → IsEither room words rest e → (around : List ℕ) → passes words (needing room room around) ≡ passes rest (having room around)
  either_passes room words rest e (only b) around = both_passes _ _ _ _ b around
  either_passes room words rest e (choice b o) around = both_passes _ _ _ _ b around ∙ either_passes _ _ _ _ o around

-- an operand, and whatever else is joined to it
pub data IsTail : ℕ → List Lexeme → List Lexeme → Type 0 where
  no_tail : {room : ℕ} {rest : List Lexeme} → IsTail room rest rest
  tail : {room : ℕ} {words behind rest : List Lexeme} {e : Tree} → IsOperand room words behind e → IsTail room behind rest → IsTail room words rest
  tail_and : {room : ℕ} {words behind rest : List Lexeme} {e : Tree} → IsOperand room words behind e → IsTail room behind rest → IsTail room (And ∷ words) rest
  tail_or : {room : ℕ} {words behind rest : List Lexeme} {e : Tree} → IsOperand room words behind e → IsTail room behind rest → IsTail room (Or ∷ words) rest

-- some expression
pub record Some_either (room : ℕ) (words rest : List Lexeme) : Type 0 where
  pub tree : Tree
  pub is : IsEither room words rest tree

joined_to : (room : ℕ) (words behind rest : List Lexeme) (e f : Tree) → IsOperand room words (And ∷ behind) e → IsEither room behind rest f → Some_either room words rest
joined_to room words behind rest e f o (only b) = record { tree = _; is = only (joined o b) }
joined_to room words behind rest e f o (choice b c) = record { tree = _; is = choice (joined o b) c }

beside_to : (room : ℕ) (words behind rest : List Lexeme) (e f : Tree) → IsOperand room words behind e → IsEither room behind rest f → Some_either room words rest
beside_to room words behind rest e f o (only b) = record { tree = _; is = only (beside o b) }
beside_to room words behind rest e f o (choice b c) = record { tree = _; is = choice (beside o b) c }

with_tail : (room : ℕ) (words behind rest : List Lexeme) (e : Tree) → IsOperand room words behind e → IsTail room behind rest → Some_either room words rest
with_tail room words behind rest e o no_tail = record { tree = _; is = only (last o) }
with_tail room words behind rest e o (tail p t) = let more = with_tail _ _ _ _ _ p t in beside_to _ _ _ _ _ _ o more.is
with_tail room words behind rest e o (tail_and p t) = let more = with_tail _ _ _ _ _ p t in joined_to _ _ _ _ _ _ o more.is
with_tail room words behind rest e o (tail_or p t) = let more = with_tail _ _ _ _ _ p t in record { tree = _; is = choice (last o) more.is }

-- what is left behind an operand: more of the innermost braces, and what stands around them
pub data IsAround : ℕ → List ℕ → List Lexeme → Type 0 where
  ends : {base : ℕ} {words : List Lexeme} → IsTail base words [] → IsAround base [] words
  closes : {base outer : ℕ} {around : List ℕ} {words behind : List Lexeme} → IsTail base words (Close ∷ behind) → IsAround outer around behind → IsAround base (outer ∷ around) words

-- what is left where an operand is to come
pub record Needs (base room : ℕ) (around : List ℕ) (words : List Lexeme) : Type 0 where
  pub behind : List Lexeme
  pub tree : Tree
  pub operand : IsOperand room words behind tree
  pub around_it : IsAround base around behind

beside_around : (base : ℕ) (around : List ℕ) (words : List Lexeme) → Needs base base around words → IsAround base around words
beside_around base around words n = add n.around_it n.operand
  where
    add : {around : List ℕ} {behind : List Lexeme} {e : Tree} → IsAround base around behind → IsOperand base words behind e → IsAround base around words
    add (ends t) o = ends (tail o t)
    add (closes t a) o = closes (tail o t) a

and_around : (base : ℕ) (around : List ℕ) (words : List Lexeme) → Needs base base around words → IsAround base around (And ∷ words)
and_around base around words n = add n.around_it n.operand
  where
    add : {around : List ℕ} {behind : List Lexeme} {e : Tree} → IsAround base around behind → IsOperand base words behind e → IsAround base around (And ∷ words)
    add (ends t) o = ends (tail_and o t)
    add (closes t a) o = closes (tail_and o t) a

or_around : (base : ℕ) (around : List ℕ) (words : List Lexeme) → Needs base base around words → IsAround base around (Or ∷ words)
or_around base around words n = add n.around_it n.operand
  where
    add : {around : List ℕ} {behind : List Lexeme} {e : Tree} → IsAround base around behind → IsOperand base words behind e → IsAround base around (Or ∷ words)
    add (ends t) o = ends (tail_or o t)
    add (closes t a) o = closes (tail_or o t) a

one_test : (base room : ℕ) (around : List ℕ) (t : Test) (words : List Lexeme) → IsAround base around words → Needs base room around (TestWord t ∷ words)
one_test base room around t words a = record { behind = words; tree = Leaf t; operand = test; around_it = a }

one_negation : (base room : ℕ) (around : List ℕ) (words : List Lexeme) → Needs base room around words → Needs base (suc room) around (Not ∷ words)
one_negation base room around words n = record { behind = n.behind; tree = Negation n.tree; operand = negation n.operand; around_it = n.around_it }

one_group : (base room : ℕ) (around : List ℕ) (words : List Lexeme) → Needs room room (base ∷ around) words → Needs base (suc room) around (Open ∷ words)
one_group base room around words n = close n.around_it n.operand
  where
    close : {behind : List Lexeme} {e : Tree} → IsAround room (base ∷ around) behind → IsOperand room words behind e → Needs base (suc room) around (Open ∷ words)
    close (closes t a) o = let inner = with_tail _ _ _ _ _ o t in record { behind = _; tree = _; operand = group inner.is; around_it = a }

one_close : (base : ℕ) (outer : ℕ) (around : List ℕ) (words : List Lexeme) → IsAround outer around words → IsAround base (outer ∷ around) (Close ∷ words)
one_close base outer around words a = closes no_tail a

-- what words that are passed from a spot write
pub record Writes (words : List Lexeme) : Type 0 where
  pub needs : (base room : ℕ) (around : List ℕ) → passes words (needing base room around) ≡ true → Needs base room around words
  pub has : (base : ℕ) (around : List ℕ) → passes words (having base around) ≡ true → IsAround base around words

pub writes : (words : List Lexeme) → Writes words
writes [] = record { needs = (λ base room around h. absurd (false≢true h)); has = no_more }
  where
    no_more : (base : ℕ) (around : List ℕ) → passes [] (having base around) ≡ true → IsAround base around []
    no_more base [] h = ends no_tail
    no_more base (b ∷ around) h = absurd (false≢true h)
writes (And ∷ words) =
    let w = writes words in
    record { needs = (λ base room around h. absurd (false≢true h)); has = (λ base around h. and_around base around words (w.needs base base around h)) }
writes (Or ∷ words) =
    let w = writes words in
    record { needs = (λ base room around h. absurd (false≢true h)); has = (λ base around h. or_around base around words (w.needs base base around h)) }
writes (Close ∷ words) = record { needs = (λ base room around h. absurd (false≢true h)); has = out (writes words) }
  where
    out : Writes words → (base : ℕ) (around : List ℕ) → passes (Close ∷ words) (having base around) ≡ true → IsAround base around (Close ∷ words)
    out w base [] h = absurd (false≢true h)
    out w base (outer ∷ around) h = one_close base outer around words (w.has outer around h)
writes (TestWord t ∷ words) = record { needs = come (writes words); has = (λ base around h. beside_around base around (TestWord t ∷ words) (come (writes words) base base around h)) }
  where
    come : Writes words → (base room : ℕ) (around : List ℕ) → passes (TestWord t ∷ words) (needing base room around) ≡ true → Needs base room around (TestWord t ∷ words)
    come w base room around h = one_test base room around t words (w.has base around h)
writes (Not ∷ words) = record { needs = come (writes words); has = (λ base around h. beside_around base around (Not ∷ words) (come (writes words) base base around (shift base around h))) }
  where
    come : Writes words → (base room : ℕ) (around : List ℕ) → passes (Not ∷ words) (needing base room around) ≡ true → Needs base room around (Not ∷ words)
    come w base zero around h = absurd (false≢true h)
    come w base (suc room) around h = one_negation base room around words (w.needs base room around h)

    shift : (base : ℕ) (around : List ℕ) → passes (Not ∷ words) (having base around) ≡ true → passes (Not ∷ words) (needing base base around) ≡ true
    shift zero around h = h
    shift (suc base) around h = h
writes (Open ∷ words) = record { needs = come (writes words); has = (λ base around h. beside_around base around (Open ∷ words) (come (writes words) base base around (shift base around h))) }
  where
    come : Writes words → (base room : ℕ) (around : List ℕ) → passes (Open ∷ words) (needing base room around) ≡ true → Needs base room around (Open ∷ words)
    come w base zero around h = absurd (false≢true h)
    come w base (suc room) around h = one_group base room around words (w.needs room room (base ∷ around) h)

    shift : (base : ℕ) (around : List ℕ) → passes (Open ∷ words) (having base around) ≡ true → passes (Open ∷ words) (needing base base around) ≡ true
    shift zero around h = h
    shift (suc base) around h = h

-- all of the words are an expression just where they are passed
pub is_either : (words : List Lexeme) → passes words at_start ≡ true → Some_either 64 words []
is_either words h =
    let w = writes words in
    let n = w.needs 64 64 [] h in
    whole n.around_it n.operand
  where
    whole : {behind : List Lexeme} {e : Tree} → IsAround 64 [] behind → IsOperand 64 words behind e → Some_either 64 words []
    whole (ends t) o = with_tail _ _ _ _ _ o t

pub is_passed : (words : List Lexeme) (e : Tree) → IsEither 64 words [] e → passes words at_start ≡ true
is_passed words e o = either_passes 64 words [] e o []
