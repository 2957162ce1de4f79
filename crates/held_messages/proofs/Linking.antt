-- What settling makes of contents, alone and beside other runs.
use Rattle.std.proofs.Common.{◌≡◌, ℕ, zero, suc, ◌+◌, ◌-◌, ◌≤◌, ◌<◌, ◌==◌, Bool, true, false, List, [], ◌∷◌, Option, Some, None, Result, Ok, Err, refl, sym, ◌∙◌, ap, subst, arith, bytes_eq, nat_lt, max}
use Rattle.std.specs.Prelude.{is_some, decimal, if◌then◌else◌}
use Rattle.std.proofs.lemmas.Bool.Decides.{nat_tests, Decides-ltb, Decides-eqb}
use Rattle.mh_base.specs.Entries.{kind_of}
use Rattle.mh_base.specs.Numbers.{IsMsgNum, number_of}
use Rattle.folder_files.specs.Named.{is_number, is_held}
use Rattle.folder_files.specs.declared.place.Place.{Place}
use Rattle.folder_files.specs.declared.step.Step.{Step}
use Rattle.folder_files.specs.declared.step.Step.TheVariants as step
use Rattle.folder_files.specs.declared.step.Answer.{Answer}
use Rattle.folder_files.specs.declared.step.Answer.TheVariants as answer
use Rattle.file_plans.specs.Giving.{Gives}
use Rattle.file_plans.specs.Plan.{Hand}
use Rattle.file_plans.proofs.NumberTexts.{number_back}
use Rattle.folder_files.proofs.Names.{bytes_true, bytes_self, not_both}
use Rattle.file_plans.specs.Contents.{Contents, is_at, with_text, link_answer}
use Rattle.file_plans.specs.Views.{Sight, Listed, noticed, View, view_after, number_put, IsNextOf, left_of, fits_view, by_view}
use Rattle.step_plans.specs.PlanFaults.{of_stop}
use Rattle.step_plans.specs.declared.fault.PlanFault.{PlanFault}
use Rattle.step_plans.specs.declared.fault.PlanFault.TheVariants as fault
use Rattle.folder_files.proofs.Sameness.{place_is}
use Rattle.file_plans.proofs.Existing.{bytes_turned}
use Rattle.file_plans.proofs.Giving.{gives_more}
use Rattle.file_plans.proofs.Onward.{Is, fits_at, exists_some, done_none, not_linked_gone}
use Rattle.file_plans.proofs.Showing.{foreign, is_number_of}
use Rattle.file_plans.proofs.Viewing.{link_view}
use Rattle.held_messages.specs.declared.held.HeldPair.{HeldPair}
use Rattle.held_messages.specs.HeldPairs.{held_name, home_of}
use Rattle.held_messages.proofs.ListedPairs.{IsPair, held_kind}
use Rattle.held_messages.specs.Settle.{given_at, given_up, homed, given_in}

pub held_is : (h : HeldPair) → IsPair h → is_held (kind_of (held_name h)) ≡ true
held_is h ok = rw (held_kind h ok) refl

pub held_unnumbered : (h : HeldPair) → IsPair h → is_number (kind_of (held_name h)) ≡ false
held_unnumbered h ok = rw (held_kind h ok) refl

-- a number is no held name
pub number_apart : (n : ℕ) → IsMsgNum n → (h : HeldPair) → IsPair h → bytes_eq (decimal n) (held_name h) ≡ false
number_apart n ok h is = foreign n ok (held_name h) (held_unnumbered h is)

pub held_apart : (n : ℕ) → IsMsgNum n → (h : HeldPair) → IsPair h → bytes_eq (held_name h) (decimal n) ≡ false
held_apart n ok h is = bytes_turned (decimal n) (held_name h) (number_apart n ok h is)

pub same_decimal : (m k : ℕ) → IsMsgNum m → IsMsgNum k → bytes_eq (decimal m) (decimal k) ≡ (m == k)
same_decimal m k om ok = go (bytes_eq (decimal m) (decimal k)) (m == k) refl refl
  where
    go : (v w : Bool) → bytes_eq (decimal m) (decimal k) ≡ v → (m == k) ≡ w → v ≡ w
    go true true e f = refl
    go true false e f =
        let back : Some m ≡ Some k = sym (number_back m (is_number_of m om)) ∙ (ap number_of (bytes_true (decimal m) (decimal k) e) ∙ number_back k (is_number_of k ok)) in
        let same : m ≡ k = cc in
        sym ((Decides-eqb m k).1 same) ∙ f
    go false true e f = sym e ∙ (ap (λ z. bytes_eq (decimal m) (decimal z)) (sym ((Decides-eqb m k).0 f)) ∙ bytes_self (decimal m))
    go false false e f = refl

pub not_linked_exists : (o u : Option (List ℕ)) → u ≡ None → answer.Exists ≡ link_answer o u → ⊥
not_linked_exists o u n e = not_both (is_some u) (exists_some o u e) (ap is_some n)

-- the next of the numbers to come
pub next_of : (o : Option ℕ) (n : ℕ) (ms ns : List ℕ) → o ≡ Some n → IsNextOf o ms → ms ≡ ns → ns ≡ n ∷ left_of o ms
next_of o n ms ns some f same = subst (λ z. z ≡ n ∷ left_of o ms) same (go o ms some f)
  where
    go : (o : Option ℕ) (ms : List ℕ) → o ≡ Some n → IsNextOf o ms → ms ≡ n ∷ left_of o ms
    go None ms e f = cc
    go (Some k) [] e f = absurd f
    go (Some k) (m ∷ ms) e f = let same : k ≡ n = cc in ap (λ z. z ∷ ms) (f ∙ same)

pub put_next : (alone : Bool) (v : View) (s : Step) (a : Answer) → fits_view alone v s a → IsNextOf (number_put s a) v.numbers
put_next true v s a f = f.1
put_next false v s a f = f.1

-- each number that has a message there was seen to have one, and nothing of it but that
abbrev pub AreListed : Place → View → Type 0
AreListed p v = (k : ℕ) → IsMsgNum k → is_some (v.contents.texts p (decimal k)) ≡ true → v.seen.names p (decimal k) ≡ Listed

abbrev pub AreUnread : Place → List HeldPair → View → Type 0
AreUnread p [] v = Unit {0}
AreUnread p (h ∷ hs) v = (v.seen.names p (held_name h) ≡ Listed) × AreUnread p hs v

-- the held names but this one are seen as before
abbrev pub SeesOthers : Place → HeldPair → View → View → Type 0
SeesOthers p h v z = (k : HeldPair) → IsPair k → bytes_eq (held_name h) (held_name k) ≡ false → z.seen.names p (held_name k) ≡ v.seen.names p (held_name k)

abbrev pub IsEnd : Option ℕ → Type 0
IsEnd None = Unit {0}
IsEnd (Some m) = IsMsgNum m

abbrev pub with_end : Option ℕ → List ℕ → List ℕ
with_end None ns = ns
with_end (Some m) ns = m ∷ ns

-- one held name went where it went: the contents are these, also beside other runs
pub record WentHome (alone : Bool) (ns : List ℕ) (p : Place) (h : HeldPair) (c : Contents) (v : View) (want : Option ℕ) (end : Option ℕ) (z : View) : Type 0 where
  pub numbers : ns ≡ with_end end z.numbers
  pub is_end : IsEnd end
  pub contents : z.contents ≡ given_in c p h end
  pub wanted : alone ≡ true → end ≡ want
  pub listed : AreListed p z
  pub others : SeesOthers p h v z
  pub met : z.met ≡ v.met

-- a part ends early only where a name was taken away meanwhile, and so never alone
abbrev pub Quits : Bool → PlanFault → Type 0
Quits alone fault.Faulted = ⊥
Quits alone (fault.Locked p) = ⊥
Quits alone (fault.Meddled p n) = alone ≡ true → ⊥
Quits alone fault.Full = ⊥
Quits alone (fault.Absent p) = ⊥
Quits alone (fault.TooLarge l) = ⊥
Quits alone fault.Memory = ⊥

abbrev pub Homed : Bool → List ℕ → Place → HeldPair → Contents → View → Option ℕ → View → Hand → List ℕ → Result (Option ℕ) PlanFault → Type 0
Homed alone ns p h c v want z j left (Ok end) = WentHome alone ns p h c v want end z
Homed alone ns p h c v want z j left (Err e) = Quits alone e

abbrev pub Has : List ℕ → View → Contents → Type 0
Has ns v c = (v.contents ≡ c) × (v.numbers ≡ ns)

pub is_so : (alone : Bool) (ns : List ℕ) (v : View) (c : Contents) → Has ns v c → Is alone ns v c
is_so alone ns v c has = ((λ e. has.0), has.1)

-- alone this is where it goes, from here on
abbrev pub IsNext : Contents → Place → Option ℕ → ℕ → ℕ → Type 0
IsNext c p want n zero = want ≡ None
IsNext c p want n (suc left) = (want ≡ Some n) × (c.texts p (decimal n) ≡ None)

noticed_listed : (s : Sight) → s ≡ Listed → noticed s ≡ Listed
noticed_listed s e = rw e refl

module _ (alone : Bool) (p : Place) (h : HeldPair) (pair : IsPair h) where
  abbrev held : List ℕ
  held = held_name h

  put_number : (n : ℕ) → IsMsgNum n → number_put (step.Link p held (decimal n)) answer.Done ≡ Some n
  put_number n ok = rw (held_kind h pair) (number_back n (is_number_of n ok))

  no_number : (n : ℕ) → number_put (step.Link p held (decimal n)) answer.Exists ≡ None
  no_number n = refl

  -- the number was met
  met_listed : (n : ℕ) → IsMsgNum n → (v : View) → AreListed p v → AreListed p (view_after v (step.Link p held (decimal n)) answer.Exists)
  met_listed n ok v all k good some = go (bytes_eq (decimal n) (decimal k)) refl
    where
      go : (b : Bool) → bytes_eq (decimal n) (decimal k) ≡ b → (if is_at p (decimal n) p (decimal k) then noticed (v.seen.names p (decimal n)) else v.seen.names p (decimal k)) ≡ Listed
      go true e =
          let same : decimal n ≡ decimal k = bytes_true (decimal n) (decimal k) e in
          rw (place_is p, e) (ap (λ x. noticed (v.seen.names p x)) same ∙ noticed_listed (v.seen.names p (decimal k)) (all k good some))
      go false e = rw (place_is p, e) (all k good some)

  met_others : (n : ℕ) → IsMsgNum n → (v : View) → (k : HeldPair) → IsPair k → (view_after v (step.Link p held (decimal n)) answer.Exists).seen.names p (held_name k) ≡ v.seen.names p (held_name k)
  met_others n ok v k good = rw (number_apart n ok k good, place_is p) refl

  -- it was linked there
  linked_listed : (n : ℕ) → IsMsgNum n → (v : View) → v.seen.names p held ≡ Listed → AreListed p v → AreListed p (view_after v (step.Link p held (decimal n)) answer.Done)
  linked_listed n ok v unread all k good some = rw (place_is p, held_apart k good h pair) (go (bytes_eq (decimal n) (decimal k)) refl)
    where
      go : (b : Bool) → bytes_eq (decimal n) (decimal k) ≡ b → (if bytes_eq (decimal n) (decimal k) then v.seen.names p held else v.seen.names p (decimal k)) ≡ Listed
      go true e = rw e unread
      go false e = rw e (all k good (rw (place_is p, e) at some))

  linked_others : (n : ℕ) → IsMsgNum n → (v : View) → SeesOthers p h v (view_after v (step.Link p held (decimal n)) answer.Done)
  linked_others n ok v k good apart = rw (place_is p, apart, number_apart n ok k good) refl

  linked_home : (ns : List ℕ) (n : ℕ) → IsMsgNum n → (v : View) (c : Contents) (want : Option ℕ) → Has ns v c → v.seen.names p held ≡ Listed → AreListed p v → fits_view alone v (step.Link p held (decimal n)) answer.Done → (alone ≡ true → Some n ≡ want)
      → WentHome alone ns p h c v want (Some n) (view_after v (step.Link p held (decimal n)) answer.Done)
  linked_home ns n ok v c want has unread all f wants = record {
    numbers = next_of (number_put (step.Link p held (decimal n)) answer.Done) n v.numbers ns (put_number n ok) (put_next alone v (step.Link p held (decimal n)) answer.Done f) has.1;
    is_end = ok;
    contents = ap (λ d. with_text d p (decimal n) (d.texts p held)) has.0;
    wanted = wants;
    listed = linked_listed n ok v unread all;
    others = linked_others n ok v;
    met = refl;
  }

  -- what was seen before and after a number that was met
  after_met : (ns : List ℕ) (n : ℕ) → IsMsgNum n → (v : View) (c : Contents) (want end : Option ℕ) (z : View) → WentHome alone ns p h c (view_after v (step.Link p held (decimal n)) answer.Exists) want end z → WentHome alone ns p h c v want end z
  after_met ns n ok v c want end z w = record { numbers = w.numbers; is_end = w.is_end; contents = w.contents; wanted = w.wanted; listed = w.listed; others = λ k good apart. w.others k good apart ∙ met_others n ok v k good; met = w.met }

  after_met_all : (ns : List ℕ) (n : ℕ) → IsMsgNum n → (v : View) (c : Contents) (want : Option ℕ) → (z : View) (j : Hand) (left : List ℕ) (r : Result (Option ℕ) PlanFault) → Homed alone ns p h c (view_after v (step.Link p held (decimal n)) answer.Exists) want z j left r → Homed alone ns p h c v want z j left r
  after_met_all ns n ok v c want z j left (Ok end) w = after_met ns n ok v c want end z w
  after_met_all ns n ok v c want z j left (Err e) w = w

  unread_met : (n : ℕ) → IsMsgNum n → (v : View) → v.seen.names p held ≡ Listed → (view_after v (step.Link p held (decimal n)) answer.Exists).seen.names p held ≡ Listed
  unread_met n ok v e = met_others n ok v h pair ∙ e

  pub up_gives : (ns : List ℕ) (left n : ℕ) (v : View) (c : Contents) (want : Option ℕ) (j : Hand) (text : List ℕ) → (1 ≤ n) × (n + left ≤ 1000000) → Has ns v c → v.seen.names p held ≡ Listed → AreListed p v
      → (alone ≡ true → (is_some (c.texts p held) ≡ true) × IsNext c p want n left) → Gives (by_view alone) v j text (given_up p held n left) (Homed alone ns p h c v want)
  unfolding Gives given_up
  up_gives ns zero n v c want j text few has unread all may = record { numbers = sym has.1; is_end = tt; contents = has.0; wanted = λ e. sym (may e).1; listed = all; others = λ k good apart. refl; met = refl }
  up_gives ns (suc left) n v c want j text few has unread all may =
      link_view alone v of_stop j text (Homed alone ns p h c v want) p held (decimal n) (λ a. given_at p held n a (given_up p held (n + 1) left))
      (λ f. linked_home ns n ok v c want has unread all f (λ e. sym (may e).1.0))
      (λ f. gives_more (by_view alone) w j text (given_up p held (n + 1) left) (Homed alone ns p h c w want) (Homed alone ns p h c v want)
      (up_gives ns left (n + 1) w c want j text more has (unread_met n ok v unread) (met_listed n ok v all) (λ e. absurd (free f e))) (after_met_all ns n ok v c want))
      (λ f e. not_linked_gone (c.texts p held) (c.texts p (decimal n)) (may e).0 (fits_at alone ns v c (step.Link p held (decimal n)) answer.Gone (is_so alone ns v c has) f e))
    where
      w : View
      w = view_after v (step.Link p held (decimal n)) answer.Exists

      ok : IsMsgNum n
      ok = (few.0, (let l = few.1 in omega (arith, l)))

      more : (1 ≤ n + 1) × ((n + 1) + left ≤ 1000000)
      more = (omega arith, (let l = few.1 in omega (arith, l)))

      free : fits_view alone v (step.Link p held (decimal n)) answer.Exists → alone ≡ true → ⊥
      free f e = not_linked_exists (c.texts p held) (c.texts p (decimal n)) (may e).1.1 (fits_at alone ns v c (step.Link p held (decimal n)) answer.Exists (is_so alone ns v c has) f e)

  -- to its number, or above the highest
  pub homed_gives : (ns : List ℕ) (top : ℕ) (taken : Bool) (v : View) (c : Contents) (j : Hand) (text : List ℕ) → Has ns v c → v.seen.names p held ≡ Listed → AreListed p v → top ≤ 999999
      → (alone ≡ true → (is_some (c.texts p held) ≡ true) × (taken ≡ is_some (c.texts p (decimal h.number))) × (taken ≡ true → h.number ≤ top) × (nat_lt top 999999 ≡ true → c.texts p (decimal (top + 1)) ≡ None))
      → Gives (by_view alone) v j text (homed p h top) (Homed alone ns p h c v (home_of taken top h.number))
  unfolding Gives homed
  homed_gives ns top taken v c j text has unread all small may =
      link_view alone v of_stop j text (Homed alone ns p h c v want) p held (decimal n) (λ a. given_at p held n a (given_up p held (max n top + 1) (1000000 - (max n top + 1))))
      (λ f. linked_home ns n ok v c want has unread all f (λ e. free (may e).1 (done_none (c.texts p held) (c.texts p (decimal n)) (fits_at alone ns v c (step.Link p held (decimal n)) answer.Done (is_so alone ns v c has) f e))))
      (λ f. gives_more (by_view alone) w j text (given_up p held (max n top + 1) (1000000 - (max n top + 1))) (Homed alone ns p h c w want) (Homed alone ns p h c v want)
      (up_gives ns (1000000 - (max n top + 1)) (max n top + 1) w c want j text few has (unread_met n ok v unread) (met_listed n ok v all)
      (λ e. ((may e).0, next (may e).1 (may e).2 (may e).3 (exists_some (c.texts p held) (c.texts p (decimal n)) (fits_at alone ns v c (step.Link p held (decimal n)) answer.Exists (is_so alone ns v c has) f e)))))
      (after_met_all ns n ok v c want))
      (λ f e. not_linked_gone (c.texts p held) (c.texts p (decimal n)) (may e).0 (fits_at alone ns v c (step.Link p held (decimal n)) answer.Gone (is_so alone ns v c has) f e))
    where
      n : ℕ
      n = h.number

      want : Option ℕ
      want = home_of taken top n

      ok : IsMsgNum n
      ok = pair.1

      w : View
      w = view_after v (step.Link p held (decimal n)) answer.Exists

      few : (1 ≤ max n top + 1) × ((max n top + 1) + (1000000 - (max n top + 1)) ≤ 1000000)
      few = (omega arith, (let l = ok.1 in omega (arith, l, small)))

      free : taken ≡ is_some (c.texts p (decimal n)) → c.texts p (decimal n) ≡ None → Some n ≡ want
      free same none = let e : taken ≡ false = same ∙ ap is_some none in rw e refl

      next : taken ≡ is_some (c.texts p (decimal n)) → (taken ≡ true → n ≤ top) → (nat_lt top 999999 ≡ true → c.texts p (decimal (top + 1)) ≡ None) → is_some (c.texts p (decimal n)) ≡ true → IsNext c p want (max n top + 1) (1000000 - (max n top + 1))
      next same below above some =
          let e : taken ≡ true = same ∙ some in
          let high : max n top ≡ top = (let l : n ≤ top = below e in omega (arith, l)) in
          rw high (rw e (by (nat_lt top 999999) refl above))
        where
          by : (b : Bool) → nat_lt top 999999 ≡ b → (b ≡ true → c.texts p (decimal (top + 1)) ≡ None) → IsNext c p (if b then Some (top + 1) else None) (top + 1) (1000000 - (top + 1))
          by true e above = let l : 1000000 - (top + 1) ≡ suc (999998 - top) = (let lt : top < 999999 = (Decides-ltb top 999999).0 e in omega (arith, lt)) in subst (IsNext c p (Some (top + 1)) (top + 1)) (sym l) (refl, above refl)
          by false e above = let l : 1000000 - (top + 1) ≡ 0 = grind (arith, nat_tests, e) in subst (IsNext c p None (top + 1)) (sym l) refl
