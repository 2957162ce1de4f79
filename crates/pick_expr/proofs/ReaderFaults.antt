-- Faults of the reader, and words that can't stand.
use Rattle.std.proofs.Common.{◌≡◌, ℕ, Bool, true, false, List, [], ◌∷◌, ◌++◌, Option, Some, None, Result, Ok, Err, refl, sym, ap, ◌∙◌, subst, append_assoc, append-nil, codes}
use Rattle.std.specs.Prelude.{IfOk, IfErr, if◌then◌else◌}
use Rattle.std.proofs.lemmas.Bool.{false≢true}
use Rattle.pick_expr.specs.declared.expr.Expr.{Expr}
use Rattle.pick_expr.specs.declared.fault.ExprFault.{ExprFault}
use Rattle.pick_expr.specs.declared.fault.ExprFault.TheVariants.{BadExpr, BadDate as BadDateAt, Memory}
use Rattle.pick_expr.specs.declared.lexeme.Lexeme.{Lexeme}
use Rattle.pick_expr.specs.declared.lexeme.Lexeme.TheVariants.{Close, Test as TestWord}
use Rattle.pick_expr.specs.declared.one_test.Test.{Test}
use Rattle.pick_expr.specs.declared.one_test.Test.TheVariants.{Search}
use Rattle.pick_expr.specs.declared.sign.Sign.{Sign}
use Rattle.pick_expr.specs.declared.sign.Sign.TheVariants.{Aside, Field, Word, BadPattern, BadDate}
use Rattle.pick_expr.specs.Grammar.{Tree, Every, IsExpression, no_words, some_words}
use Rattle.pick_expr.specs.Progress.{ended, fault_in, IsFaultOf, passed, words_in}
use Rattle.pick_expr.specs.Refusals.{AreNone, BeginExpression, IsReadAs, IsRefused, IsRefusedFor, StandBefore}
use Rattle.mh_words.specs.declared.item.Item.{Item}
use Rattle.pick_expr.specs.Signs.{Day, Placed, place_of, sign_of, signs_in, with_sign}
use Rattle.pick_expr.specs.Steps.{Spot, step, may_end, at_start}
use Rattle.pick_expr.proofs.WordPlaces.{then_ends, passes, is_either, is_passed}

-- the spot behind words that can stand
abbrev pub then_goes : (Spot → Option Spot) → Option Spot → Option Spot
then_goes goes None = None
then_goes goes (Some s) = goes s

abbrev pub spot_behind : List Lexeme → Spot → Option Spot
spot_behind [] s = Some s
spot_behind (x ∷ xs) s = then_goes (spot_behind xs) (step x s)

passes_behind : (front back : List Lexeme) (s : Spot) → passes (front ++ back) s ≡ then_ends (passes back) (spot_behind front s)
passes_behind [] back s = refl
passes_behind (x ∷ front) back s = elim (step x s) as (λ o. then_ends (passes (front ++ back)) o ≡ then_ends (passes back) (then_goes (spot_behind front) o)) [
  | None ↦ refl
  | Some t ↦ passes_behind front back t
]

spot_behind-append : (front : List Lexeme) (x : Lexeme) (s : Spot) → spot_behind (front ++ x ∷ []) s ≡ then_goes (step x) (spot_behind front s)
spot_behind-append [] x s = elim (step x s) as (λ o. then_goes (spot_behind []) o ≡ o) [ None ↦ refl | Some t ↦ refl ]
spot_behind-append (y ∷ front) x s = elim (step y s) as (λ o. then_goes (spot_behind (front ++ x ∷ [])) o ≡ then_goes (step x) (then_goes (spot_behind front) o)) [
  | None ↦ refl
  | Some t ↦ spot_behind-append front x t
]

-- a test that ends what waits for an operand
some_test : Test
some_test = Search (record { elements = []; from_start = false; to_end = false })

-- brackets that close what is open
abbrev pub closing : List ℕ → List Lexeme
closing [] = []
closing (base ∷ around) = Close ∷ closing around

closes_all : (base room : ℕ) (around : List ℕ) → passes (closing around) (record { needs = false; base = base; room = room; around = around }) ≡ true
closes_all base room [] = refl
closes_all base room (outer ∷ around) = closes_all outer outer around

-- what completes an expression
completed : (s : Spot) → passes (TestWord some_test ∷ closing s.around) s ≡ true
completed s = closes_all s.base s.base s.around

-- words that can stand begin an expression, which holds of some words more
begins : (words : List Lexeme) (s : Spot) → spot_behind words at_start ≡ Some s → BeginExpression words
begins words s h =
    let more = TestWord some_test ∷ closing s.around in
    let whole = is_either (words ++ more) (passes_behind words more at_start ∙ ap (then_ends (passes more)) h ∙ completed s) in
    record { behind = more; tree = whole.tree; whole = some_words whole.is }

-- words that can't stand begin none
begins_none : (words : List Lexeme) → spot_behind words at_start ≡ None → BeginExpression words → ⊥
begins_none [] h b = cc
begins_none (x ∷ words) h b = refuse (x ∷ (words ++ b.behind)) b.tree b.whole refl (passes_behind (x ∷ words) b.behind at_start ∙ ap (then_ends (passes b.behind)) h)
  where
    refuse : (all : List Lexeme) (e : Tree) → IsExpression all e → {rest : List Lexeme} → all ≡ x ∷ rest → passes all at_start ≡ false → ⊥
    refuse all e no_words filled none = cc
    refuse all e (some_words i) filled none = false≢true (sym none ∙ is_passed all e i)

-- words behind which none may end are no expression
ends_none : (x : Lexeme) (words : List Lexeme) (s : Spot) → spot_behind (x ∷ words) at_start ≡ Some s → may_end s ≡ false → AreNone (x ∷ words)
ends_none x words s h open_still e is = refuse (x ∷ words) e is refl (ap (λ z. passes z at_start) (sym (append-nil (x ∷ words))) ∙ passes_behind (x ∷ words) [] at_start ∙ ap (then_ends (passes [])) h ∙ open_still)
  where
    refuse : (all : List Lexeme) (e : Tree) → IsExpression all e → {rest : List Lexeme} → all ≡ x ∷ rest → passes all at_start ≡ false → ⊥
    refuse all e no_words filled none = cc
    refuse all e (some_words i) filled none = false≢true (sym none ∙ is_passed all e i)

-- one word more stands before the rest
stand_more : (front : List Lexeme) (place : ℕ) (w : Lexeme) (rest placed : List Placed) → StandBefore front (record { place = place; sign = Word w } ∷ rest) placed → StandBefore (front ++ w ∷ []) rest placed
stand_more [] place w rest placed h = (place, rest, h, refl)
stand_more (x ∷ front) place w rest placed (p, behind, e, h) = (p, behind, e, stand_more front place w rest behind h)

pub record IsFilled (words : List Lexeme) : Type 0 where
  pub first : Lexeme
  pub others : List Lexeme
  pub is : words ≡ first ∷ others

filled : (front : List Lexeme) (w : Lexeme) → IsFilled (front ++ w ∷ [])
filled [] w = record { first = w; others = []; is = refl }
filled (x ∷ front) w = record { first = x; others = front ++ w ∷ []; is = refl }

-- there were words before the rest, or none
abbrev pub BegunBy : Bool → List Lexeme → Type 0
BegunBy false front = front ≡ []
BegunBy true front = IsFilled front

abbrev pub IsPart : Sign → Type 0
IsPart Aside = ⊥
IsPart (Field name) = ⊥
IsPart (Word w) = Unit {0}
IsPart BadPattern = Unit {0}
IsPart BadDate = Unit {0}

-- what is no part of an expression was left out
abbrev pub AreParts : List Placed → Type 0
AreParts [] = Unit {0}
AreParts (p ∷ ps) = IsPart p.sign × AreParts ps

pub record IsSomeTree (words : List Lexeme) : Type 0 where
  pub tree : Tree
  pub whole : IsExpression words tree

abbrev pub Verdict : ℕ → List Placed → List Lexeme → List Placed → Option ExprFault → Type 0
Verdict end placed front rest None = StandBefore (front ++ words_in rest) [] placed × IsSomeTree (front ++ words_in rest)
Verdict end placed front rest (Some fault) = IsRefusedFor end placed fault

none_filled : (words : List Lexeme) (s : Spot) → IsFilled words → spot_behind words at_start ≡ Some s → may_end s ≡ false → AreNone words
none_filled words s f h still =
    subst (λ z. AreNone z) (sym f.is) (ends_none f.first f.others s (ap (λ z. spot_behind z at_start) (sym f.is) ∙ h) still)

end_verdict : (end : ℕ) (placed : List Placed) (front : List Lexeme) (s : Spot) (begun : Bool) → StandBefore front [] placed → spot_behind front at_start ≡ Some s → BegunBy begun front → Verdict end placed front [] (ended end s begun)
end_verdict end placed front s false stand h empty = (
  subst (λ (z : List Lexeme). StandBefore z [] placed) (sym (append-nil front)) stand,
  subst (λ (z : List Lexeme). IsSomeTree z) (sym (append-nil front ∙ empty)) (record { tree = Every; whole = no_words }),
)
end_verdict end placed front s true stand h f = choose (may_end s) refl
  where
    choose : (t : Bool) → may_end s ≡ t → Verdict end placed front [] (if t then None else Some (BadExpr end))
    choose true e =
        let whole = is_either front (ap (λ z. passes z at_start) (sym (append-nil front)) ∙ passes_behind front [] at_start ∙ ap (then_ends (passes [])) h ∙ e) in (
          subst (λ (z : List Lexeme). StandBefore z [] placed) (sym (append-nil front)) stand,
          subst (λ (z : List Lexeme). IsSomeTree z) (sym (append-nil front)) (record { tree = whole.tree; whole = some_words whole.is }),
        )
    choose false e = record { before = front; rest = []; stand = stand; begin = begins front s h; wrong = (none_filled front s f h e, refl) }

regroup : (end : ℕ) (placed : List Placed) (front : List Lexeme) (place : ℕ) (w : Lexeme) (ps : List Placed) (o : Option ExprFault) → Verdict end placed (front ++ w ∷ []) ps o → Verdict end placed front (record { place = place; sign = Word w } ∷ ps) o
regroup end placed front place w ps None v =
    let same : (front ++ w ∷ []) ++ words_in ps ≡ front ++ (w ∷ words_in ps) = append_assoc front (w ∷ []) (words_in ps) in
    (subst (λ (z : List Lexeme). StandBefore z [] placed) same v.0, subst (λ (z : List Lexeme). IsSomeTree z) same v.1)
regroup end placed front place w ps (Some fault) v = v

word_verdict : (end : ℕ) (placed : List Placed) (front : List Lexeme) (s : Spot) (place : ℕ) (w : Lexeme) (ps : List Placed) → StandBefore front (record { place = place; sign = Word w } ∷ ps) placed → spot_behind front at_start ≡ Some s
    → ((t : Spot) → spot_behind (front ++ w ∷ []) at_start ≡ Some t → Verdict end placed (front ++ w ∷ []) ps (fault_in end ps t true))
    → Verdict end placed front (record { place = place; sign = Word w } ∷ ps) (passed place (step w s) (λ next. fault_in end ps next true))
word_verdict end placed front s place w ps stand h on = choose (step w s) refl
  where
    goes : spot_behind (front ++ w ∷ []) at_start ≡ step w s
    goes = spot_behind-append front w at_start ∙ ap (then_goes (step w)) h

    choose : (o : Option Spot) → step w s ≡ o → Verdict end placed front (record { place = place; sign = Word w } ∷ ps) (passed place o (λ next. fault_in end ps next true))
    choose None e = record { before = front; rest = record { place = place; sign = Word w } ∷ ps; stand = stand; begin = begins front s h; wrong = (begins_none (front ++ w ∷ []) (goes ∙ e), refl) }
    choose (Some t) e = regroup end placed front place w ps (fault_in end ps t true) (on t (goes ∙ e))

-- what is read is an expression, or the first fault is that of the first word that is refused
verdict : (end : ℕ) (placed : List Placed) (rest : List Placed) → AreParts rest → (front : List Lexeme) (s : Spot) (begun : Bool) → StandBefore front rest placed → spot_behind front at_start ≡ Some s → BegunBy begun front
    → Verdict end placed front rest (fault_in end rest s begun)
verdict end placed [] parts front s begun stand h l = end_verdict end placed front s begun stand h l
verdict end placed (p ∷ ps) parts front s begun stand h l =
    one p.place p.sign parts.0 stand
    (λ w st t e. verdict end placed ps parts.1 (front ++ w ∷ []) t true (stand_more front p.place w ps placed st) e (filled front w))
  where
    one : (place : ℕ) (sign : Sign) → IsPart sign → StandBefore front (record { place = place; sign = sign } ∷ ps) placed
        → ((w : Lexeme) → StandBefore front (record { place = place; sign = Word w } ∷ ps) placed → (t : Spot) → spot_behind (front ++ w ∷ []) at_start ≡ Some t → Verdict end placed (front ++ w ∷ []) ps (fault_in end ps t true))
        → Verdict end placed front (record { place = place; sign = sign } ∷ ps) (fault_in end (record { place = place; sign = sign } ∷ ps) s begun)
    one place Aside part st on = absurd part
    one place (Field name) part st on = absurd part
    one place (Word w) part st on = word_verdict end placed front s place w ps st h (on w st)
    one place BadPattern part st on = record { before = front; rest = record { place = place; sign = BadPattern } ∷ ps; stand = st; begin = begins front s h; wrong = refl }
    one place BadDate part st on = record { before = front; rest = record { place = place; sign = BadDate } ∷ ps; stand = st; begin = begins front s h; wrong = refl }

sign_part : (place : ℕ) (sign : Sign) (field : List ℕ) (rest : List ℕ → List Placed) → ((f : List ℕ) → AreParts (rest f)) → AreParts (with_sign place sign field rest)
sign_part place Aside field rest h = h field
sign_part place (Field name) field rest h = h name
sign_part place (Word w) field rest h = (tt, h field)
sign_part place BadPattern field rest h = (tt, h field)
sign_part place BadDate field rest h = (tt, h field)

are_parts : (day : Day) (items : List Item) (field : List ℕ) → AreParts (signs_in day items field)
are_parts day [] field = tt
are_parts day (i ∷ items) field = sign_part (place_of i) (sign_of day field i) field (signs_in day items) (λ f. are_parts day items f)

all_read : (end : ℕ) (day : Day) (items : List Item) → Verdict end (signs_in day items (codes "date")) [] (signs_in day items (codes "date")) (fault_in end (signs_in day items (codes "date")) at_start false)
all_read end day items = verdict end (signs_in day items (codes "date")) (signs_in day items (codes "date")) (are_parts day items (codes "date")) [] at_start false refl refl refl

pub is_read : (end : ℕ) (day : Day) (items : List Item) (e : Expr) → (fault_in end (signs_in day items (codes "date")) at_start false ≡ None) × (e.words ≡ words_in (signs_in day items (codes "date"))) → IsReadAs (signs_in day items (codes "date")) e
is_read end day items e (fine, words) =
    let v = subst (λ (z : Option ExprFault). Verdict end (signs_in day items (codes "date")) [] (signs_in day items (codes "date")) z) fine (all_read end day items) in
    let t = v.1 in
    record {
      stand = subst (λ (z : List Lexeme). StandBefore z [] (signs_in day items (codes "date"))) (sym words) v.0;
      tree = t.tree;
      whole = subst (λ (z : List Lexeme). IsExpression z t.tree) (sym words) t.whole;
    }

refused_by : (end : ℕ) (day : Day) (items : List Item) (e : ExprFault) → fault_in end (signs_in day items (codes "date")) at_start false ≡ Some e → IsRefusedFor end (signs_in day items (codes "date")) e
refused_by end day items e fault =
    subst (λ (z : Option ExprFault). Verdict end (signs_in day items (codes "date")) [] (signs_in day items (codes "date")) z) fault (all_read end day items)

pub is_refused : (end : ℕ) (day : Day) (items : List Item) (e : ExprFault) → IsFaultOf (fault_in end (signs_in day items (codes "date")) at_start false) e → IsRefused end (signs_in day items (codes "date")) e
is_refused end day items (BadExpr place) fault = refused_by end day items (BadExpr place) fault
is_refused end day items (BadDateAt place) fault = refused_by end day items (BadDateAt place) fault
is_refused end day items Memory fault = tt

pub read_ok : (end : ℕ) (day : Day) (items : List Item) (r : Result Expr ExprFault)
    → IfOk r (λ e. (fault_in end (signs_in day items (codes "date")) at_start false ≡ None) × (e.words ≡ words_in (signs_in day items (codes "date")))) → IfOk r (IsReadAs (signs_in day items (codes "date")))
read_ok end day items (Ok e) h = is_read end day items e h
read_ok end day items (Err e) h = tt

pub read_err : (end : ℕ) (day : Day) (items : List Item) (r : Result Expr ExprFault)
    → IfErr r (IsFaultOf (fault_in end (signs_in day items (codes "date")) at_start false)) → IfErr r (IsRefused end (signs_in day items (codes "date")))
read_err end day items (Ok e) h = tt
read_err end day items (Err e) h = is_refused end day items e h
