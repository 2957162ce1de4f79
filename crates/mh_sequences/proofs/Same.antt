-- Sets and sequences of which the same is told are the same.
use Rattle.std.proofs.Common.{◌≡◌, ℕ, ◌+◌, ◌≤◌, Bool, true, false, List, [], ◌∷◌, length, refl, sym, ◌∙◌, ap, subst, arith, ⊎_elim}
use Rattle.std.specs.Prelude.{bytes_eq, ◌||◌, if◌then◌else◌}
use Rattle.std.specs.Ordering.{ordering_reverse}
use Rattle.std.specs.declared.cmp.Ordering.{Ordering}
use Rattle.std.specs.declared.cmp.Ordering.TheVariants.{Less, Equal, Greater}
use Rattle.std.proofs.lemmas.Bool.{or_left, or_from, both_ways, cases_lt}
use Rattle.std.proofs.lemmas.Bool.Decides.{nat_tests}
use Rattle.std.proofs.lemmas.Cmp.{nat_list_cmp_total}
use Rattle.mh_sequences.specs.declared.run.Run.{Run}
use Rattle.mh_sequences.specs.Runs.{AreRuns, AreRunsFrom, inside, has}
use Rattle.mh_sequences.specs.Sequences.{Sequence, IsSequence, Precedes, AreSequences, Marked, told_of, runs_of, public_of, member, order}
use Rattle.mh_sequences.specs.Reading.{IsReading}
use Rattle.mh_sequences.proofs.NamePlaces.{same_is, same_self, same_by, before_all, absent}
use Rattle.mh_sequences.proofs.Removing.{has_below}

first_there : (r : Run) (rs : List Run) → r.from ≤ r.to → has (r ∷ rs) r.from ≡ true
first_there r rs h = let here : inside r r.from ≡ true = grind (arith, nat_tests) in or_left (inside r r.from) (has rs r.from) here

not_before : (low : ℕ) (r s : Run) (rs ss : List Run) → r.from ≤ r.to → AreRunsFrom low (s ∷ ss) → has (r ∷ rs) r.from ≡ has (s ∷ ss) r.from → s.from ≤ r.from
not_before low r s rs ss h k e = ⊎_elim
    (λ lt. absurd (both_ways (has (s ∷ ss) r.from) (has_below s.from (s ∷ ss) (omega arith, k.1, k.2, k.3) r.from lt) (sym e ∙ first_there r rs h)))
    (λ le. le)
    (cases_lt r.from s.from)

not_longer : (low high : ℕ) (r s : Run) (rs ss : List Run) → r.from ≡ s.from → AreRunsFrom low (r ∷ rs) → AreRunsFrom high (s ∷ ss) → ((n : ℕ) → has (r ∷ rs) n ≡ has (s ∷ ss) n) → s.to ≤ r.to
not_longer low high r s rs ss e h k same = ⊎_elim
    (λ lt.
    let out : inside r (r.to + 1) ≡ false = grind (arith, nat_tests) in
    let within : inside s (r.to + 1) ≡ true = grind (arith, nat_tests) in
    let none = or_from (inside r (r.to + 1)) (has rs (r.to + 1)) out (has_below (r.to + 2) rs h.3 (r.to + 1) (omega arith)) in
    absurd (both_ways (has (r ∷ rs) (r.to + 1)) none (same (r.to + 1) ∙ or_left (inside s (r.to + 1)) (has ss (r.to + 1)) within)))
    (λ le. le)
    (cases_lt r.to s.to)

rest_alike : (r s : Run) (rs ss : List Run) → r ≡ s → AreRunsFrom (r.to + 2) rs → AreRunsFrom (r.to + 2) ss → ((n : ℕ) → has (r ∷ rs) n ≡ has (s ∷ ss) n) → (n : ℕ) → has rs n ≡ has ss n
rest_alike r s rs ss e h k same n = ⊎_elim
    (λ lt. has_below (r.to + 2) rs h n lt ∙ sym (has_below (r.to + 2) ss k n lt))
    (λ le. let out : inside r n ≡ false = grind (arith, nat_tests) in
    sym (ap (λ b. b || has rs n) out) ∙ same n ∙ ap (λ q. inside q n || has ss n) (sym e) ∙ ap (λ b. b || has ss n) out)
    (cases_lt n (r.to + 2))

runs_alike : (low : ℕ) (a b : List Run) → AreRunsFrom low a → AreRunsFrom low b → ((n : ℕ) → has a n ≡ has b n) → a ≡ b
runs_alike low [] [] h k same = refl
runs_alike low [] (s ∷ ss) h k same = absurd (both_ways false refl (same s.from ∙ first_there s ss k.1))
runs_alike low (r ∷ rs) [] h k same = absurd (both_ways false refl (sym (same r.from) ∙ first_there r rs h.1))
runs_alike low (r ∷ rs) (s ∷ ss) h k same =
    let one = not_before low r s rs ss h.1 k (same r.from) in
    let two = not_before low s r ss rs k.1 h (sym (same s.from)) in
    let from : r.from ≡ s.from = omega arith in
    let three = not_longer low low r s rs ss from h k same in
    let four = not_longer low low s r ss rs (sym from) k h (λ n. sym (same n)) in
    let to : r.to ≡ s.to = omega arith in
    let whole : r ≡ s = λ i. record { from = from i; to = to i } in
    let behind : AreRunsFrom (r.to + 2) ss = subst (λ t. AreRunsFrom (t + 2) ss) (sym to) k.3 in
    λ i. whole i ∷ runs_alike (r.to + 2) rs ss h.3 behind (rest_alike r s rs ss whole h.3 behind same) i

-- sets with the same numbers have the same runs
pub same_runs : (a b : List Run) → AreRuns a → AreRuns b → ((n : ℕ) → has a n ≡ has b n) → a ≡ b
same_runs a b h k same = runs_alike 1 a b h k same

some_member : (s : Sequence) (ss : List Sequence) → IsSequence s → (n : ℕ) × (has s.runs n ≡ true)
some_member s ss h = by s.runs h.some h.runs
  where
    by : (rs : List Run) → 1 ≤ length rs → AreRuns rs → (n : ℕ) × (has rs n ≡ true)
    by [] some valid = absurd (omega arith)
    by (r ∷ rs) some valid = (r.from, first_there r rs valid.1)

told_here : {X : Type 0} (tell : Sequence → X) (none : X) (s : Sequence) (ss : List Sequence) (t : List ℕ) → t ≡ s.name → told_of tell none (s ∷ ss) t ≡ tell s
told_here tell none s ss t e = ap (λ b. if b then tell s else told_of tell none ss t) (ap (λ x. bytes_eq x s.name) e ∙ same_self s.name)

first_name : (x y : Sequence) (xs ys : List Sequence) → IsSequence x → Precedes y.name ys → ((t : List ℕ) (n : ℕ) → member (x ∷ xs) t n ≡ member (y ∷ ys) t n) → order x.name y.name ≡ Less → ⊥
first_name x y xs ys h k same lt =
    let w = some_member x xs h in
    let none : member (y ∷ ys) x.name w.0 ≡ false = ap (λ rs. has rs w.0) (absent (λ s. s.runs) [] x.name (y ∷ ys) (lt, before_all x.name y.name ys lt k)) in
    both_ways (member (y ∷ ys) x.name w.0) none (sym (same x.name w.0) ∙ ap (λ rs. has rs w.0) (told_here (λ s. s.runs) [] x xs x.name refl) ∙ w.1)

rest_members : (x y : Sequence) (xs ys : List Sequence) → x.name ≡ y.name → Precedes x.name xs → Precedes y.name ys → ((t : List ℕ) (n : ℕ) → member (x ∷ xs) t n ≡ member (y ∷ ys) t n) → (t : List ℕ) (n : ℕ) → member xs t n ≡ member ys t n
rest_members x y xs ys e h k same t n = by (bytes_eq t x.name) refl (same t n)
  where
    by : (b : Bool) → bytes_eq t x.name ≡ b → member (x ∷ xs) t n ≡ member (y ∷ ys) t n → member xs t n ≡ member ys t n
    by true at one =
        let is : t ≡ x.name = same_is t x.name at in
        ap (λ rs. has rs n) (absent (λ s. s.runs) [] t xs (subst (λ q. Precedes q xs) (sym is) h)) ∙ sym (ap (λ rs. has rs n) (absent (λ s. s.runs) [] t ys (subst (λ q. Precedes q ys) (sym (is ∙ e)) k)))
    by false at one =
        sym (ap (λ b. has (if b then x.runs else runs_of xs t) n) at) ∙ one ∙ ap (λ b. has (if b then y.runs else runs_of ys t) n) (ap (bytes_eq t) (sym e) ∙ at)

rest_public : (x y : Sequence) (xs ys : List Sequence) → x.name ≡ y.name → Precedes x.name xs → ((t : List ℕ) (n : ℕ) → member (x ∷ xs) t n ≡ true → public_of (x ∷ xs) t ≡ public_of (y ∷ ys) t) → (t : List ℕ) (n : ℕ) → member xs t n ≡ true → public_of xs t ≡ public_of ys t
rest_public x y xs ys e h same t n m = by (bytes_eq t x.name) refl
  where
    by : (b : Bool) → bytes_eq t x.name ≡ b → public_of xs t ≡ public_of ys t
    by true at =
        let is : t ≡ x.name = same_is t x.name at in
        absurd (both_ways (member xs t n) (ap (λ rs. has rs n) (absent (λ s. s.runs) [] t xs (subst (λ q. Precedes q xs) (sym is) h))) m)
    by false at =
        sym (ap (λ b. if b then x.public else public_of xs t) at)
        ∙ same t n (ap (λ b. has (if b then x.runs else runs_of xs t) n) at ∙ m)
        ∙ ap (λ b. if b then y.public else public_of ys t) (ap (bytes_eq t) (sym e) ∙ at)

-- sequences of which the same is told
pub same_sequences : (a b : List Sequence) → AreSequences a → AreSequences b → ((t : List ℕ) (n : ℕ) → member a t n ≡ member b t n) → ((t : List ℕ) (n : ℕ) → member a t n ≡ true → public_of a t ≡ public_of b t) → a ≡ b
same_sequences [] [] h k same state = refl
same_sequences [] (y ∷ ys) h k same state =
    let w = some_member y ys k.0 in
    absurd (both_ways false refl (same y.name w.0 ∙ ap (λ rs. has rs w.0) (told_here (λ s. s.runs) [] y ys y.name refl) ∙ w.1))
same_sequences (x ∷ xs) [] h k same state =
    let w = some_member x xs h.0 in
    absurd (both_ways false refl (sym (same x.name w.0) ∙ ap (λ rs. has rs w.0) (told_here (λ s. s.runs) [] x xs x.name refl) ∙ w.1))
same_sequences (x ∷ xs) (y ∷ ys) h k same state =
    by (same_sequences xs ys h.2 k.2) (order x.name y.name) refl
  where
    by : (((t : List ℕ) (n : ℕ) → member xs t n ≡ member ys t n) → ((t : List ℕ) (n : ℕ) → member xs t n ≡ true → public_of xs t ≡ public_of ys t) → xs ≡ ys) → (o : Ordering) → order x.name y.name ≡ o → x ∷ xs ≡ y ∷ ys
    by ih Less e = absurd (first_name x y xs ys h.0 k.1 same e)
    by ih Greater e = absurd (first_name y x ys xs k.0 h.1 (λ t n. sym (same t n)) (nat_list_cmp_total.antisymm y.name x.name ∙ ap ordering_reverse e))
    by ih Equal e =
        let name : x.name ≡ y.name = same_is x.name y.name (same_by x.name y.name Equal e) in
        let w = some_member x xs h.0 in
        let runs : x.runs ≡ y.runs = same_runs x.runs y.runs h.0.runs k.0.runs (λ n. sym (ap (λ rs. has rs n) (told_here (λ s. s.runs) [] x xs x.name refl)) ∙ same x.name n ∙ ap (λ rs. has rs n) (told_here (λ s. s.runs) [] y ys x.name name)) in
        let public : x.public ≡ y.public = sym (told_here (λ s. s.public) true x xs x.name refl) ∙ state x.name w.0 (ap (λ rs. has rs w.0) (told_here (λ s. s.runs) [] x xs x.name refl) ∙ w.1) ∙ told_here (λ s. s.public) true y ys x.name name in
        let rest = ih (rest_members x y xs ys name h.1 k.1 same) (rest_public x y xs ys name h.1 state) in
        λ i. record { name = name i; runs = runs i; public = public i } ∷ rest i

-- there is one reading
pub one_reading : (text : List ℕ) (context : List Rattle.mh_profile.specs.declared.named_value.NamedValue.NamedValue) (folder : List ℕ) (a b : Marked) → AreSequences a.users → AreSequences b.users → IsReading text context folder a → IsReading text context folder b → a ≡ b
one_reading text context folder a b h k x y =
    let numbers : (t : List ℕ) (n : ℕ) → member a.users t n ≡ member b.users t n = λ t n. x.numbers t n ∙ sym (y.numbers t n) in
    let users : a.users ≡ b.users = same_sequences a.users b.users h k numbers (λ t n m. x.public t n m ∙ sym (y.public t n (sym (numbers t n) ∙ m))) in
    λ i. record { users = users i; cur = (x.cur ∙ sym y.cur) i }
