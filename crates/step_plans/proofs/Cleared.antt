-- A directory under its lock, cleared of temporary names: what that makes of contents, alone and beside others.
use Rattle.std.proofs.Common.{◌≡◌, ℕ, zero, suc, ◌≤◌, Bool, true, false, List, [], ◌∷◌, None, Result, Ok, Err, refl, sym, ◌∙◌, arith, bytes_eq}
use Rattle.std.specs.Prelude.{is_some, if◌then◌else◌}
use Rattle.mh_base.specs.Entries.{kind_of}
use Rattle.folder_files.specs.Named.{is_temp}
use Rattle.folder_files.specs.Steps.{IsAscending, has_text}
use Rattle.folder_files.specs.declared.place.Place.{Place}
use Rattle.folder_files.specs.declared.step.Step.TheVariants as step
use Rattle.folder_files.specs.declared.step.Answer.TheVariants as answer
use Rattle.folder_files.proofs.Names.{bytes_self, not_both, or_left, or_last}
use Rattle.file_plans.specs.Contents.{Contents, with_text}
use Rattle.file_plans.specs.Giving.{Gives}
use Rattle.file_plans.specs.Plan.{Hand, Return, bind, ask, ◌>>=◌, lifted}
use Rattle.file_plans.specs.Views.{View, view_after, by_view}
use Rattle.file_plans.proofs.Clearing.{AreThere, cleared_in, without_temps, cleared_all, listed_once, rest_ascending, still_there}
use Rattle.file_plans.proofs.Giving.{gives_more}
use Rattle.file_plans.proofs.Onward.{Is, onward, fits_at, not_gone, not_gone_there, not_busy_there}
use Rattle.file_plans.proofs.Viewing.{unlink_view, lock_view, list_view}
use Rattle.step_plans.specs.declared.fault.PlanFault.{PlanFault}
use Rattle.step_plans.specs.PlanFaults.{of_stop, Planned}
use Rattle.step_plans.specs.Replacing.{held_to}
use Rattle.step_plans.specs.Locking.{locked_by, locked, let_go, removed, cleared_one, cleared, clear_listed, temps_cleared}
use Rattle.step_plans.proofs.Replaced.{Leaves, Fails, left_as, gives_next}

leaves_as : {A : Type 0} (alone : Bool) (ns : List ℕ) (p : Planned A) (v : View) (c d : Contents) (i : Hand) (E : PlanFault → Type 0) (h : Hand) (text : List ℕ) → (alone ≡ true → c ≡ d)
    → Gives (by_view alone) v h text p (Leaves alone ns c i E) → Gives (by_view alone) v h text p (Leaves alone ns d i E)
leaves_as {A = A} alone ns p v c d i E h text same g = gives_more (by_view alone) v h text p (Leaves alone ns c i E) (Leaves alone ns d i E) g weaker
  where
    weaker : (z : View) (j : Hand) (left : List ℕ) (r : Result A PlanFault) → Leaves alone ns c i E z j left r → Leaves alone ns d i E z j left r
    weaker z j left (Ok a) f = left_as alone ns c d i z j same f
    weaker z j left (Err e) f = f

module _ (alone : Bool) (ns : List ℕ) (p : Place) (h : Hand) where
  pub removed_gives : (n : List ℕ) (v : View) (c : Contents) (i : Hand) (text : List ℕ) → Is alone ns v c → (alone ≡ true → is_some (c.texts p n) ≡ true)
      → Gives (by_view alone) v i text (removed p n) (Leaves alone ns (with_text c p n None) i (Fails alone h))
  unfolding Gives removed bind ◌>>=◌
  removed_gives n v c i text is there =
      unlink_view alone v of_stop i text (Leaves alone ns (with_text c p n None) i (Fails alone h)) p n (held_to p n)
      (λ f. record { is = onward alone ns v c (step.Unlink p n) answer.Done is refl; hand = refl })
      (λ f e. not_gone (c.texts p n) (there e) (fits_at alone ns v c (step.Unlink p n) answer.Gone is f e))

  pub cleared_gives : (names : List (List ℕ)) (v : View) (c : Contents) (i : Hand) (text : List ℕ) → Is alone ns v c → (alone ≡ true → IsAscending names × AreThere c p names)
      → Gives (by_view alone) v i text (cleared p names) (Leaves alone ns (cleared_in c p names) i (Fails alone h))
  unfolding Gives cleared cleared_in cleared_one bind ◌>>=◌
  cleared_gives [] v c i text is all = record { is = is; hand = refl }
  cleared_gives (n ∷ names) v c i text is all = go (is_temp (kind_of n)) refl (λ z left e. cleared_gives names z (with_text c p n None) i left e less) (cleared_gives names v c i text is rest)
    where
      there : is_temp (kind_of n) ≡ true → alone ≡ true → is_some (c.texts p n) ≡ true
      there t e = (all e).1 n (or_left (bytes_eq n n) (has_text n names) (bytes_self n)) t

      less : alone ≡ true → IsAscending names × AreThere (with_text c p n None) p names
      less e = (rest_ascending n names (all e).0, still_there c p n names (listed_once n names (all e).0) (all e).1)

      rest : alone ≡ true → IsAscending names × AreThere c p names
      rest e = (rest_ascending n names (all e).0, λ x f. (all e).1 x (or_last (bytes_eq n x) (has_text x names) f))

      go : (t : Bool) → is_temp (kind_of n) ≡ t → ((z : View) (left : List ℕ) → Is alone ns z (with_text c p n None) → Gives (by_view alone) z i left (cleared p names) (Leaves alone ns (cleared_in (with_text c p n None) p names) i (Fails alone h)))
          → Gives (by_view alone) v i text (cleared p names) (Leaves alone ns (cleared_in c p names) i (Fails alone h))
          → Gives (by_view alone) v i text ((if t then removed p n else Return (Ok tt)) >>= (λ u. cleared p names)) (Leaves alone ns (if t then cleared_in (with_text c p n None) p names else cleared_in c p names) i (Fails alone h))
      go true f a b =
          gives_next alone ns (with_text c p n None) i (Fails alone h) v i text (removed p n) (λ u. cleared p names) (Leaves alone ns (cleared_in (with_text c p n None) p names) i (Fails alone h)) (removed_gives n v c i text is (there f))
          (λ z left u at_. a z left at_) (λ z j left e f. f)
      go false f a b = b

  -- alone the first try takes the lock
  pub locked_gives : (tries : ℕ) (v : View) (c : Contents) (i : Hand) (text : List ℕ) → Is alone ns v c → (alone ≡ true → (c.there p ≡ true) × (1 ≤ tries)) → Gives (by_view alone) v i text (locked p tries) (Leaves alone ns c i (Fails alone h))
  unfolding Gives locked
  locked_gives zero v c i text is there = λ e. (let l : 1 ≤ 0 = (there e).1 in absurd (omega (arith, l)))
  locked_gives (suc n) v c i text is there =
      lock_view alone v of_stop i text (Leaves alone ns c i (Fails alone h)) p (λ l. locked_by p l (locked p n)) (λ f. record { is = onward alone ns v c (step.Lock p) answer.Done is refl; hand = refl })
      (λ f. locked_gives n (view_after v (step.Lock p) answer.Busy) c i text is (λ e. absurd (not_busy_there (c.there p) (fits_at alone ns v c (step.Lock p) answer.Busy is f e))))
      (λ f e. not_gone_there (c.there p) (there e).0 (fits_at alone ns v c (step.Lock p) answer.Gone is f e))

  pub let_go_gives : (v : View) (c : Contents) (i : Hand) (text : List ℕ) → Is alone ns v c → Gives (by_view alone) v i text (let_go p) (Leaves alone ns c i (Fails alone h))
  unfolding Gives let_go ask lifted bind ◌>>=◌
  let_go_gives v c i text is = λ a row live f. record { is = onward alone ns v c (step.Unlock p) a is refl; hand = refl }

  pub temps_gives : (v : View) (c : Contents) (i : Hand) (text : List ℕ) → Is alone ns v c → (alone ≡ true → c.there p ≡ true) → Gives (by_view alone) v i text (temps_cleared p) (Leaves alone ns (without_temps c p) i (Fails alone h))
  unfolding Gives temps_cleared bind ◌>>=◌
  temps_gives v c i text is there =
      list_view alone v of_stop i text (Leaves alone ns (without_temps c p) i (Fails alone h)) p (clear_listed p)
      (λ names f. leaves_as alone ns (cleared p names) (view_after v (step.List p) (answer.Names names)) (cleared_in c p names) (without_temps c p) i (Fails alone h) i text
      (λ e. cleared_all c p names (fits_at alone ns v c (step.List p) (answer.Names names) is f e).1)
      (cleared_gives names (view_after v (step.List p) (answer.Names names)) c i text is (λ e. let l = (fits_at alone ns v c (step.List p) (answer.Names names) is f e).1 in (l.ascending, λ x k t. sym (l.all x) ∙ k))))
      (λ f e. not_both (c.there p) (there e) (fits_at alone ns v c (step.List p) answer.Gone is f e))
