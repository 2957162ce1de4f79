-- Braces may be passed over whose value no longer counts.
use Rattle.std.proofs.Common.{◌≡◌, ℕ, zero, suc, Bool, true, false, not, ◌&&◌, ◌||◌, ◌+◌, ◌<◌, ◌≤◌, List, [], ◌∷◌, ◌++◌, length, get_or, drop, Option, Some, None, refl, sym, ap, ◌∙◌, ◌⊎◌, inl, inr, arith, add-one, drop-cons}
use Rattle.std.specs.Prelude.{IsTrue, if◌then◌else◌}
use Rattle.pick_expr.specs.declared.frame.Frame.{Frame}
use Rattle.pick_expr.specs.declared.lexeme.Lexeme.{Lexeme}
use Rattle.pick_expr.specs.declared.lexeme.Lexeme.TheVariants.{And, Or, Not, Open, Close, Test as TestWord}
use Rattle.pick_expr.specs.Skipping.{Gives, is_settled, value_behind}
use Rattle.pick_expr.specs.Values.{absorbed, fresh, next_choice, test_value, value_of}

-- frames that come to the same, whatever comes next
abbrev Alike : Frame → Frame → Type 0
Alike f g = (f ≡ g) ⊎ ((f.any ≡ true) × (g.any ≡ true))

abbrev AllAlike : List Frame → List Frame → Type 0
AllAlike [] [] = Unit {0}
AllAlike [] (g ∷ gs) = ⊥
AllAlike (f ∷ fs) [] = ⊥
AllAlike (f ∷ fs) (g ∷ gs) = Alike f g × AllAlike fs gs

all_alike : (fs : List Frame) → AllAlike fs fs
all_alike [] = tt
all_alike (f ∷ fs) = (inl refl, all_alike fs)

alike_values : (f g : Frame) → Alike f g → (f.any || f.all) ≡ (g.any || g.all)
alike_values f g (inl e) = ap (λ z. z.any || z.all) e
alike_values f g (inr both) = ap (λ z. z || f.all) both.0 ∙ sym (ap (λ z. z || g.all) both.1)

alike_absorbed : (f g : Frame) (v w : Bool) → v ≡ w → Alike f g → Alike (absorbed v f) (absorbed w g)
alike_absorbed f g v w is (inl e) = inl (ap (λ z. absorbed z f) is ∙ ap (absorbed w) e)
alike_absorbed f g v w is (inr both) = inr both

alike_choices : (f g : Frame) → Alike f g → Alike (next_choice f) (next_choice g)
alike_choices f g (inl e) = inl (ap next_choice e)
alike_choices f g (inr both) = inr (ap (λ z. z || f.all) both.0, ap (λ z. z || g.all) both.1)

alike_negated : (f g : Frame) → Alike f g → Alike (record f { negated = not f.negated }) (record g { negated = not g.negated })
alike_negated f g (inl e) = inl (ap {A = Frame} (λ z. record z { negated = not z.negated }) e)
alike_negated f g (inr both) = inr both

same_value : (m : List ℕ) (words : List Lexeme) (f g : Frame) (fs gs : List Frame) → Alike f g → AllAlike fs gs → value_of m words f fs ≡ value_of m words g gs
same_value m [] f g fs gs a more = alike_values f g a
same_value m (And ∷ words) f g fs gs a more = same_value m words f g fs gs a more
same_value m (Or ∷ words) f g fs gs a more = same_value m words (next_choice f) (next_choice g) fs gs (alike_choices f g a) more
same_value m (Not ∷ words) f g fs gs a more = same_value m words (record f { negated = not f.negated }) (record g { negated = not g.negated }) fs gs (alike_negated f g a) more
same_value m (Open ∷ words) f g fs gs a more = same_value m words fresh fresh (f ∷ fs) (g ∷ gs) (inl refl) (a, more)
same_value m (Close ∷ words) f g [] [] a more = same_value m words f g [] [] a more
same_value m (Close ∷ words) f g [] (k ∷ gs) a more = absurd more
same_value m (Close ∷ words) f g (h ∷ fs) [] a more = absurd more
same_value m (Close ∷ words) f g (h ∷ fs) (k ∷ gs) a more =
    same_value m words (absorbed (f.any || f.all) h) (absorbed (g.any || g.all) k) fs gs (alike_absorbed h k (f.any || f.all) (g.any || g.all) (alike_values f g a) more.0) more.1
same_value m (TestWord t ∷ words) f g fs gs a more = same_value m words (absorbed (test_value t m) f) (absorbed (test_value t m) g) fs gs (alike_absorbed f g (test_value t m) (test_value t m) refl a) more

none_joined : (all : Bool) (v w : Bool) → all ≡ false → (all && v) ≡ (all && w)
none_joined true v w e = cc (e)
none_joined false v w e = refl

-- a value that no longer counts
settled_absorbed : (f : Frame) (v w : Bool) → IsTrue (is_settled f) → Alike (absorbed v f) (absorbed w f)
settled_absorbed f v w settled = go f.any refl f.all refl
  where
    go : (any : Bool) → f.any ≡ any → (all : Bool) → f.all ≡ all → Alike (absorbed v f) (absorbed w f)
    go true e all e' = inr (e, e)
    go false e false e' = inl (ap (λ z. record { any = f.any; all = z; negated = false }) (none_joined f.all (if f.negated then not v else v) (if f.negated then not w else w) e'))
    go false e true e' = let wrong : IsTrue (false || not true) = rw (e, e') at settled in cc (wrong)

pub passed_value : (m : List ℕ) (words : List Lexeme) (f : Frame) (around : List Frame) (v w : Bool) → IsTrue (is_settled f) → value_of m words (absorbed v f) around ≡ value_of m words (absorbed w f) around
passed_value m words f around v w settled = same_value m words (absorbed v f) (absorbed w f) around around (settled_absorbed f v w settled) (all_alike around)

passed_braces : (m : List ℕ) (words : List Lexeme) (f : Frame) (around : List Frame) → IsTrue (is_settled f) → (inner : List Frame) (g : Frame)
    → Gives (Some (value_of m words g (inner ++ f ∷ around))) (value_behind m (suc (length inner)) words (absorbed false f) around)
passed_braces m [] f around settled inner g = tt
passed_braces m (Open ∷ words) f around settled inner g = passed_braces m words f around settled (g ∷ inner) fresh
passed_braces m (Close ∷ words) f around settled [] g = ap Some (passed_value m words f around (g.any || g.all) false settled)
passed_braces m (Close ∷ words) f around settled (h ∷ inner) g = passed_braces m words f around settled inner (absorbed (g.any || g.all) h)
passed_braces m (And ∷ words) f around settled inner g = passed_braces m words f around settled inner g
passed_braces m (Or ∷ words) f around settled inner g = passed_braces m words f around settled inner (next_choice g)
passed_braces m (Not ∷ words) f around settled inner g = passed_braces m words f around settled inner (record g { negated = not g.negated })
passed_braces m (TestWord t ∷ words) f around settled inner g = passed_braces m words f around settled inner (absorbed (test_value t m) g)

pub passed_open : (m : List ℕ) (words : List Lexeme) (f : Frame) (around : List Frame) → IsTrue (is_settled f)
    → Gives (Some (value_of m words fresh (f ∷ around))) (value_behind m 1 words (absorbed false f) around)
passed_open m words f around settled = passed_braces m words f around settled [] fresh

pub gives_same : (x y : Option Bool) → x ≡ y → Gives x y
gives_same x None e = tt
gives_same x (Some v) e = e

pub gives_more : (x y z : Option Bool) → Gives x y → Gives y z → Gives x z
gives_more x y None p q = tt
gives_more x None (Some v) p q = cc (q)
gives_more x (Some u) (Some v) p q = p ∙ q

-- one word more was passed
pub gives_turn : (x : Option Bool) (behind next : List Lexeme → Option Bool) (all : List Lexeme) (i : ℕ) (w : Lexeme) → i < length all → w ≡ get_or all i w → ((rest : List Lexeme) → Gives (behind (w ∷ rest)) (next rest))
    → Gives x (behind (drop i all)) → Gives x (next (drop (i + 1) all))
gives_turn x behind next all i w lt is step before =
    let at : drop i all ≡ w ∷ drop (suc i) all = drop-cons all i w lt ∙ ap (λ z. z ∷ drop (suc i) all) (sym is) in
    rw (add-one i) (gives_more x (behind (drop i all)) (next (drop (suc i) all)) before (rw at (step (drop (suc i) all))))

past : (words : List Lexeme) (i : ℕ) → length words ≤ i → drop i words ≡ []
past [] zero le = refl
past [] (suc i) le = refl
past (x ∷ xs) zero le = absurd (omega arith)
past (x ∷ xs) (suc i) le = past xs i (omega arith)

-- all words were passed
pub gives_end : (x : Option Bool) (behind : List Lexeme → Option Bool) (all : List Lexeme) (i : ℕ) (r : Option Bool) → length all ≤ i → r ≡ behind [] → Gives x (behind (drop i all)) → Gives x r
gives_end x behind all i r le is before = rw (is, sym (past all i le)) before
