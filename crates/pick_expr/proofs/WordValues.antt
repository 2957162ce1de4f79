-- What words come to is what their expression comes to.
use Rattle.std.proofs.Common.{◌≡◌, ℕ, Bool, true, false, not, ◌&&◌, ◌||◌, List, [], ◌∷◌, refl, sym, ap, ◌∙◌, arith}
use Rattle.std.specs.Prelude.{◌↔◌, IsTrue, if◌then◌else◌, ℤ, ◌<ℤ◌, int_lt, Option, Some, None, Result, Ok, Err, IfOk}
use Rattle.std.specs.Bool.{Decides}
use Rattle.std.specs.List.{list_any}
use Rattle.std.proofs.lemmas.Bool.Decides.{Decides-not, Decides-and, Decides-or}
use Rattle.std.proofs.lemmas.Bool.{false≢true}
use Rattle.std.proofs.lemmas.Int.{ints}
use Rattle.mail_dates.specs.declared.mail_date.MailDate.{MailDate}
use Rattle.mail_dates.specs.Clocks.{clock_of}
use Rattle.mail_headers.specs.Fields.{fields_of, first_value, same_name}
use Rattle.mail_headers.specs.Message.{body_of}
use Rattle.mail_headers.specs.Unfolding.{unfolded}
use Rattle.pick_expr.specs.declared.frame.Frame.{Frame}
use Rattle.pick_expr.specs.declared.lexeme.Lexeme.{Lexeme}
use Rattle.pick_expr.specs.declared.one_test.Test.{Test}
use Rattle.pick_expr.specs.declared.one_test.Test.TheVariants.{Field, Search, Before, After}
use Rattle.pick_expr.specs.Finishing.{is_match}
use Rattle.pick_expr.specs.Fitting.{Matches}
use Rattle.pick_expr.specs.Grammar.{Tree, Every, Leaf, Negation, Both, Either, IsOperand, IsBoth, IsEither, IsExpression, test, negation, group, last, joined, beside, only, choice, no_words, some_words}
use Rattle.pick_expr.specs.Truth.{date_of, field_line, Holds, lines_of, OfDate, SomeOf, TestHolds}
use Rattle.pick_expr.specs.Values.{absorbed, clock_of_date, fresh, is_after, is_before, test_value, value_of}
use Rattle.pick_expr.proofs.FittingPieces.{match_decides}

-- what an expression comes to
abbrev pub tree_value : Tree → List ℕ → Bool
tree_value Every m = true
tree_value (Leaf t) m = test_value t m
tree_value (Negation e) m = not (tree_value e m)
tree_value (Both e f) m = tree_value e m && tree_value f m
tree_value (Either e f) m = tree_value e m || tree_value f m

absorbed-not : (v : Bool) (f : Frame) → absorbed v (record f { negated = not f.negated }) ≡ absorbed (not v) f
absorbed-not v f = ap (λ z. record { any = f.any; all = f.all && z; negated = false }) (turned v f.negated)
  where
    turned : (v n : Bool) → (if not n then not v else v) ≡ (if n then not (not v) else not v)
    turned true true = refl
    turned true false = refl
    turned false true = refl
    turned false false = refl

and_assoc : (a b c : Bool) → ((a && b) && c) ≡ (a && (b && c))
and_assoc true b c = refl
and_assoc false b c = refl

or_assoc : (a b c : Bool) → ((a || b) || c) ≡ (a || (b || c))
or_assoc true b c = refl
or_assoc false b c = refl

abbrev pub plain : Bool → Bool → Frame
plain any all = record { any = any; all = all; negated = false }

-- what is left behind an expression comes to what all of it did
pub record ComesTo (m : List ℕ) (words rest : List Lexeme) (any : Bool) (value : Bool) (around : List Frame) : Type 0 where
  pub frame : Frame
  pub same : value_of m words (plain any true) around ≡ value_of m rest frame around
  pub value_is : (frame.any || frame.all) ≡ (any || value)

mutual
  operand_value : (m : List ℕ) (room : ℕ) (words rest : List Lexeme) (e : Tree) → IsOperand room words rest e → (f : Frame) (around : List Frame) → value_of m words f around ≡ value_of m rest (absorbed (tree_value e m) f) around
  operand_value m room words rest e test f around = refl
  operand_value m room words rest (Negation e) (negation o) f around = operand_value m _ _ _ e o (record f { negated = not f.negated }) around ∙ ap (λ z. value_of m rest z around) (absorbed-not (tree_value e m) f)
  operand_value m room words rest e (group o) f around =
      let c = either_value m _ _ _ _ o false (f ∷ around) in
      c.same ∙ ap (λ z. value_of m rest (absorbed z f) around) c.value_is

  both_value : (m : List ℕ) (room : ℕ) (words rest : List Lexeme) (e : Tree) → IsBoth room words rest e → (any all : Bool) (around : List Frame) → value_of m words (plain any all) around ≡ value_of m rest (plain any (all && tree_value e m)) around
  both_value m room words rest e (last o) any all around = operand_value m _ _ _ _ o (plain any all) around
  both_value m room words rest (Both e f) (joined o b) any all around =
      operand_value m _ _ _ e o (plain any all) around ∙ both_value m _ _ _ f b any (all && tree_value e m) around
      ∙ ap (λ z. value_of m rest (plain any z) around) (and_assoc all (tree_value e m) (tree_value f m))
  both_value m room words rest (Both e f) (beside o b) any all around =
      operand_value m _ _ _ e o (plain any all) around ∙ both_value m _ _ _ f b any (all && tree_value e m) around
      ∙ ap (λ z. value_of m rest (plain any z) around) (and_assoc all (tree_value e m) (tree_value f m))

  either_value : (m : List ℕ) (room : ℕ) (words rest : List Lexeme) (e : Tree) → IsEither room words rest e → (any : Bool) (around : List Frame) → ComesTo m words rest any (tree_value e m) around
  either_value m room words rest e (only b) any around = record { frame = plain any (tree_value e m); same = both_value m _ _ _ e b any true around; value_is = refl }
  either_value m room words rest (Either e f) (choice b o) any around =
      let c = either_value m _ _ _ f o (any || tree_value e m) around in
      record { frame = c.frame; same = both_value m _ _ _ e b any true around ∙ c.same; value_is = c.value_is ∙ or_assoc any (tree_value e m) (tree_value f m) }

pub words_value : (m : List ℕ) (words : List Lexeme) (e : Tree) → IsExpression words e → value_of m words fresh [] ≡ tree_value e m
words_value m words e no_words = refl
words_value m words e (some_words o) = let c = either_value m _ _ _ e o false [] in c.same ∙ c.value_is

-- the values are the facts
some_decides : {X : Type 0} (p : X → Bool) (P : X → Type 0) → ((x : X) → Decides (p x) (P x)) → (xs : List X) → Decides (list_any p xs) (SomeOf P xs)
some_decides p P each [] = ((λ h. false≢true h), (λ h. absurd h))
some_decides p P each (x ∷ xs) = Decides-or (p x) (list_any p xs) (each x) (some_decides p P each xs)

int_decides : (a b : ℤ) → Decides (int_lt a b) (a <ℤ b)
int_decides a b = ((λ h. grind (arith, ints)), (λ h. grind (arith, ints)))

before_decides : (clock : ℤ) (date : Option MailDate) → Decides (is_before clock (clock_of_date date)) (OfDate (λ c. c <ℤ clock) date)
before_decides clock None = ((λ h. false≢true h), (λ h. absurd h))
before_decides clock (Some date) = int_decides (clock_of date) clock

after_decides : (clock : ℤ) (date : Option MailDate) → Decides (is_after clock (clock_of_date date)) (OfDate (λ c. clock <ℤ c) date)
after_decides clock None = ((λ h. false≢true h), (λ h. absurd h))
after_decides clock (Some date) = int_decides clock (clock_of date)

true_decides : (b : Bool) → Decides b (IsTrue b)
true_decides b = ((λ h. h), (λ h. h))

test_decides : (t : Test) (m : List ℕ) → Decides (test_value t m) (TestHolds t m)
test_decides (Field name pattern) m =
    some_decides (λ f. same_name f.name name && is_match pattern (unfolded f.value)) (λ f. IsTrue (same_name f.name name) × Matches pattern (unfolded f.value))
    (λ f. Decides-and (same_name f.name name) (is_match pattern (unfolded f.value)) (true_decides (same_name f.name name)) (match_decides pattern (unfolded f.value))) (fields_of m)
test_decides (Search pattern) m =
    Decides-or _ _ (some_decides (λ f. is_match pattern (field_line f)) (λ f. Matches pattern (field_line f)) (λ f. match_decides pattern (field_line f)) (fields_of m))
    (some_decides (is_match pattern) (Matches pattern) (match_decides pattern) (lines_of (body_of m)))
test_decides (Before field clock) m = before_decides clock (date_of (first_value field (fields_of m)))
test_decides (After field clock) m = after_decides clock (date_of (first_value field (fields_of m)))

tree_decides : (e : Tree) (m : List ℕ) → Decides (tree_value e m) (Holds e m)
tree_decides Every m = ((λ h. tt), (λ h. refl))
tree_decides (Leaf t) m = test_decides t m
tree_decides (Negation e) m = Decides-not (tree_value e m) (tree_decides e m)
tree_decides (Both e f) m = Decides-and (tree_value e m) (tree_value f m) (tree_decides e m) (tree_decides f m)
tree_decides (Either e f) m = Decides-or (tree_value e m) (tree_value f m) (tree_decides e m) (tree_decides f m)

pub value_holds : (m : List ℕ) (words : List Lexeme) (e : Tree) (r : Bool) → IsExpression words e → r ≡ value_of m words fresh [] → (IsTrue r) ↔ Holds e m
value_holds m words e r is is_r =
    let d = tree_decides e m in
    let same : r ≡ tree_value e m = is_r ∙ words_value m words e is in
    ((λ h. d.0 (sym same ∙ h)), (λ h. same ∙ d.1 h))

pub result_holds : {E : Type 0} (m seen : List ℕ) (words passed : List Lexeme) (r : Result Bool E) → seen ≡ m → passed ≡ words → IfOk r (λ v. v ≡ value_of seen passed fresh [])
    → (e : Tree) → IsExpression words e → IfOk r (λ v. IsTrue v ↔ Holds e m)
result_holds m seen words passed (Ok v) p q h e is = value_holds m words e v is (h ∙ (λ i. value_of (p i) (q i) fresh []))
result_holds m seen words passed (Err x) p q h e is = tt
