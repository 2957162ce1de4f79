-- What is linked to numbers: the run has met the name of each number that was tried.
use Rattle.std.proofs.Common.{◌≡◌, ◌⊎◌, ◌≤◌, ◌<◌, ◌||◌, ◌+◌, ◌-◌, ◌++◌, ◌∷◌, [], ℕ, zero, suc, max, Bool, true, false, List, Option, Some, None, Result, Ok, Err, inl, inr, refl, sym, ◌∙◌, arith, nat_lt, append-nil, append_assoc}
use Rattle.std.specs.Prelude.{decimal, unwrap_or}
use Rattle.std.proofs.lemmas.Bool.Decides.{nat_tests}
use Rattle.folder_files.specs.Deeds.{Deed, Once, did, now, on}
use Rattle.folder_files.specs.declared.place.Place.{Place}
use Rattle.folder_files.specs.declared.step.Answer.{Answer}
use Rattle.folder_files.specs.declared.step.Answer.TheVariants as answer
use Rattle.folder_files.specs.declared.step.Step.TheVariants as step
use Rattle.file_plans.specs.Plan.{Hand}
use Rattle.step_plans.specs.PlanFaults.{of_stop}
use Rattle.step_plans.specs.declared.fault.PlanFault.{PlanFault}
use Rattle.step_plans.specs.declared.fault.PlanFault.TheVariants as fault
use Rattle.step_plans.proofs.Coming.{Comes, comes_more, comes_then, comes_to}
use Rattle.step_plans.proofs.Going.{Outcome}
use Rattle.held_messages.specs.HeldPairs.{held_name, top_after}
use Rattle.held_messages.specs.Settle.{all_homed, given_at, given_from, given_up, homed}
use Rattle.held_messages.specs.declared.held.HeldPair.{HeldPair}
use Rattle.opening_plans.specs.Endings.{IsMetIn}
use Rattle.opening_plans.specs.Existing.{are_tried, is_between, is_tried}
use Rattle.opening_plans.proofs.CleanRuns.{comes_link}

-- a link to a number is tried up to here: to where the message went, or below this one
abbrev IsUpTo : ℕ → Option ℕ → ℕ → Type 0
IsUpTo k None top = k < top
IsUpTo k (Some m) top = k ≤ m

next_or : (n k : ℕ) → n ≤ k → (n ≡ k) ⊎ (n + 1 ≤ k)
next_or n k le = go (nat_lt n k) refl
  where
    go : (b : Bool) → nat_lt n k ≡ b → (n ≡ k) ⊎ (n + 1 ≤ k)
    go true e = inr (grind (arith, nat_tests, e))
    go false e = inl (grind (arith, nat_tests, e, le))

up_to_next : (k n left : ℕ) (end : Option ℕ) → IsUpTo k end (n + suc left) → IsUpTo k end (n + 1 + left)
up_to_next k n left None f = omega (arith, f)
up_to_next k n left (Some m) f = f

-- a range of numbers
in_between : (first last_ k : ℕ) → is_between first last_ k ≡ true → (first ≤ k) × (k ≤ last_)
in_between first last_ k e = (grind (arith, nat_tests, e), grind (arith, nat_tests, e))

same_between : (n k : ℕ) → is_between n n k ≡ true → n ≡ k
same_between n k e = grind (arith, nat_tests, e)

or_is : (a b : Bool) → a || b ≡ true → (a ≡ true) ⊎ (b ≡ true)
or_is true b e = inl refl
or_is false b e = inr e

module _ (p : Place) where
  -- at some time the run has met the names of such numbers
  abbrev pub Meets : (ℕ → Type 0) → List Deed → Type 0
  Meets B own = (k : ℕ) → B k → Once (λ d older. IsMetIn p (decimal k) d) own

  -- how a plan ends where it is Ok
  abbrev pub Fine : {A E : Type 0} → Outcome A → Outcome (Result A E)
  Fine P later j (Ok a) = P later j a
  Fine P later j (Err e) = Unit {0}

  meets_linked : (B : ℕ → Type 0) (held : List ℕ) (n : ℕ) (a : Answer) (own : List Deed) → (a ≡ answer.Done) ⊎ (a ≡ answer.Exists) → Meets B own → Meets (λ k. B k ⊎ (n ≡ k)) (did (step.Link p held (decimal n)) a ∷ own)
  meets_linked B held n a own so f k (inl b) = on (f k b)
  meets_linked B held n a own (inl done) f k (inr e) = now (inr (inl (inr (inl (held, (λ i. did (step.Link p held (decimal (e i))) (done i)))))))
  meets_linked B held n a own (inr there) f k (inr e) = now (inr (inr (held, (λ i. did (step.Link p held (decimal (e i))) (there i)))))

  abbrev Gives : (ℕ → Type 0) → ℕ → ℕ → Outcome (Option ℕ)
  Gives B n top later j end = Meets (λ k. B k ⊎ ((n ≤ k) × IsUpTo k end top)) later

  given_up_meets : (held : List ℕ) (left n : ℕ) (B : ℕ → Type 0) (own : List Deed) (h : Hand) → Meets B own → Comes own h (given_up p held n left) (Fine (Gives B n (n + left)))
  unfolding given_up
  given_up_meets held zero n B own h f = comes_to own h (Ok None) (Fine (Gives B n (n + zero))) only
    where
      only : Meets (λ k. B k ⊎ ((n ≤ k) × (k < n + zero))) own
      only k (inl b) = f k b
      only k (inr q) = absurd (let a = q.0 in let b = q.1 in omega (arith, a, b))
  given_up_meets held (suc left) n B own h f =
      comes_link own h of_stop (Fine (Gives B n (n + suc left))) p held (decimal n) (λ e. given_at p held n e (given_up p held (n + 1) left))
      (comes_to _ h (Ok (Some n)) (Fine (Gives B n (n + suc left))) put)
      (comes_more _ h (given_up p held (n + 1) left) (Fine (Gives (λ k. B k ⊎ (n ≡ k)) (n + 1) (n + 1 + left))) (Fine (Gives B n (n + suc left))) further
      (given_up_meets held left (n + 1) (λ k. B k ⊎ (n ≡ k)) (did (step.Link p held (decimal n)) answer.Exists ∷ own) h (meets_linked B held n answer.Exists own (inr refl) f)))
      (comes_to _ h (Err (fault.Meddled p held)) (Fine (Gives B n (n + suc left))) tt)
    where
      put : Meets (λ k. B k ⊎ ((n ≤ k) × (k ≤ n))) (did (step.Link p held (decimal n)) answer.Done ∷ own)
      put k (inl b) = meets_linked B held n answer.Done own (inl refl) f k (inl b)
      put k (inr q) = meets_linked B held n answer.Done own (inl refl) f k (inr (let a = q.0 in let b = q.1 in omega (arith, a, b)))

      further : (later : List Deed) (j : Hand) (r : Result (Option ℕ) PlanFault) → Fine (Gives (λ k. B k ⊎ (n ≡ k)) (n + 1) (n + 1 + left)) later j r → Fine (Gives B n (n + suc left)) later j r
      further later j (Err e) g = tt
      further later j (Ok end) g = on_
        where
          on_ : Meets (λ k. B k ⊎ ((n ≤ k) × IsUpTo k end (n + suc left))) later
          on_ k (inl b) = g k (inl (inl b))
          on_ k (inr q) = elim (next_or n k q.0) [
            | inl e ↦ g k (inl (inr e))
            | inr le ↦ g k (inr (le, up_to_next k n left end q.1))
          ]

  abbrev Homes : (ℕ → Type 0) → HeldPair → ℕ → Outcome (Option ℕ)
  Homes B k top later j end = Meets (λ n. B n ⊎ (is_tried k top end n ≡ true)) later

  below_range : (n number top : ℕ) → max number top + 1 ≤ n → n ≤ number → ⊥
  below_range n number top a b = grind (arith, a, b)

  within_range : (n first : ℕ) → first ≤ n → n ≤ 999999 → n < first + (1000000 - first)
  within_range n first a b = omega (arith, a, b)

  homed_meets : (k : HeldPair) (top : ℕ) (B : ℕ → Type 0) (own : List Deed) (h : Hand) → Meets B own → Comes own h (homed p k top) (Fine (Homes B k top))
  unfolding homed
  homed_meets k top B own h f =
      comes_link own h of_stop (Fine (Homes B k top)) p (held_name k) (decimal k.number) (λ e. given_at p (held_name k) k.number e (given_from p (held_name k) (max k.number top + 1)))
      (comes_to _ h (Ok (Some k.number)) (Fine (Homes B k top)) put)
      (comes_more _ h (given_from p (held_name k) (max k.number top + 1)) (Fine (Gives (λ n. B n ⊎ (k.number ≡ n)) (max k.number top + 1) (max k.number top + 1 + (1000000 - (max k.number top + 1))))) (Fine (Homes B k top)) above
      (given_up_meets (held_name k) (1000000 - (max k.number top + 1)) (max k.number top + 1) (λ n. B n ⊎ (k.number ≡ n)) (did (step.Link p (held_name k) (decimal k.number)) answer.Exists ∷ own) h
      (meets_linked B (held_name k) k.number answer.Exists own (inr refl) f)))
      (comes_to _ h (Err (fault.Meddled p (held_name k))) (Fine (Homes B k top)) tt)
    where
      put : Meets (λ n. B n ⊎ (is_tried k top (Some k.number) n ≡ true)) (did (step.Link p (held_name k) (decimal k.number)) answer.Done ∷ own)
      put n (inl b) = meets_linked B (held_name k) k.number answer.Done own (inl refl) f n (inl b)
      put n (inr e) = elim (or_is (is_between (max k.number top + 1) k.number n) (is_between k.number k.number n) e) [
        | inl g ↦ absurd (below_range n k.number top (in_between (max k.number top + 1) k.number n g).0 (in_between (max k.number top + 1) k.number n g).1)
        | inr g ↦ meets_linked B (held_name k) k.number answer.Done own (inl refl) f n (inr (same_between k.number n g))
      ]

      up_to : (end : Option ℕ) (n : ℕ) → max k.number top + 1 ≤ n → n ≤ unwrap_or end 999999 → IsUpTo n end (max k.number top + 1 + (1000000 - (max k.number top + 1)))
      up_to None n a b = within_range n (max k.number top + 1) a b
      up_to (Some m) n a b = b

      above : (later : List Deed) (j : Hand) (r : Result (Option ℕ) PlanFault) → Fine (Gives (λ n. B n ⊎ (k.number ≡ n)) (max k.number top + 1) (max k.number top + 1 + (1000000 - (max k.number top + 1)))) later j r → Fine (Homes B k top) later j r
      above later j (Err e) g = tt
      above later j (Ok end) g = each
        where
          each : Meets (λ n. B n ⊎ (is_tried k top end n ≡ true)) later
          each n (inl b) = g n (inl (inl b))
          each n (inr e) = elim (or_is (is_between (max k.number top + 1) (unwrap_or end 999999) n) (is_between k.number k.number n) e) [
            | inl z ↦ g n (inr ((in_between (max k.number top + 1) (unwrap_or end 999999) n z).0, up_to end n (in_between (max k.number top + 1) (unwrap_or end 999999) n z).0 (in_between (max k.number top + 1) (unwrap_or end 999999) n z).1))
            | inr z ↦ g n (inl (inr (same_between k.number n z)))
          ]

  -- one after another, behind those before
  pub record AllTried (B : ℕ → Type 0) (ks : List HeldPair) (top : ℕ) (before all : List (Option ℕ)) (later : List Deed) : Type 0 where
    pub ends : List (Option ℕ)
    pub all_so : all ≡ before ++ ends
    pub met : Meets (λ n. B n ⊎ (are_tried ks ends top n ≡ true)) later

  pub all_homed_meets : (ks : List HeldPair) (top : ℕ) (before : List (Option ℕ)) (B : ℕ → Type 0) (own : List Deed) (h : Hand) → Meets B own → Comes own h (all_homed p ks top before) (Fine (λ later j all. AllTried B ks top before all later))
  unfolding all_homed are_tried
  all_homed_meets [] top before B own h f =
      comes_to own h (Ok before) (Fine (λ later j all. AllTried B [] top before all later)) (record { ends = []; all_so = sym (append-nil before); met = only })
    where
      only : Meets (λ n. B n ⊎ (false ≡ true)) own
      only n (inl b) = f n b
      only n (inr e) = cc (e)
  all_homed_meets (k ∷ ks) top before B own h f =
      comes_then own h (homed p k top) (λ end. all_homed p ks (top_after end top) (before ++ end ∷ [])) (Fine (Homes B k top)) (Fine (λ later j all. AllTried B (k ∷ ks) top before all later)) (homed_meets k top B own h f)
      (λ later j end g.
      comes_more later j (all_homed p ks (top_after end top) (before ++ end ∷ [])) (Fine (λ last_ i all. AllTried (λ n. B n ⊎ (is_tried k top end n ≡ true)) ks (top_after end top) (before ++ end ∷ []) all last_)) (Fine (λ last_ i all. AllTried B (k ∷ ks) top before all last_)) (further end)
      (all_homed_meets ks (top_after end top) (before ++ end ∷ []) (λ n. B n ⊎ (is_tried k top end n ≡ true)) later j g))
      (λ later j e g. tt)
    where
      further : (end : Option ℕ) (last_ : List Deed) (i : Hand) (r : Result (List (Option ℕ)) PlanFault) → Fine (λ last_ i all. AllTried (λ n. B n ⊎ (is_tried k top end n ≡ true)) ks (top_after end top) (before ++ end ∷ []) all last_) last_ i r
          → Fine (λ last_ i all. AllTried B (k ∷ ks) top before all last_) last_ i r
      further end last_ i (Err e) q = tt
      further end last_ i (Ok all) q = record { ends = end ∷ q.ends; all_so = q.all_so ∙ append_assoc before (end ∷ []) q.ends; met = each }
        where
          each : Meets (λ n. B n ⊎ (are_tried ks q.ends (top_after end top) n || is_tried k top end n ≡ true)) last_
          each n (inl b) = q.met n (inl (inl b))
          each n (inr e) = elim (or_is (are_tried ks q.ends (top_after end top) n) (is_tried k top end n) e) [
            | inl z ↦ q.met n (inr z)
            | inr z ↦ q.met n (inl (inr z))
          ]
