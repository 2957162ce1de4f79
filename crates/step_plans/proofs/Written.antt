-- Files with names from the hand, by own deeds.
use Rattle.std.proofs.Common.{◌≡◌, ◌<◌, ◌^◌, ◌∷◌, ℕ, Bool, true, false, List, refl, sym, subst, nat_lt, arith}
use Rattle.mh_base.specs.Entries.{kind_of}
use Rattle.mh_base.specs.declared.entry.Entry.TheVariants.{Temp}
use Rattle.std.proofs.lemmas.Bool.Decides.{nat_tests, Decides-ltb}
use Rattle.folder_files.specs.Careful.{Kind, Creates, creates, HasLock}
use Rattle.folder_files.specs.Commands.{IsMadeIn, MakesStep, serves_commit}
use Rattle.folder_files.specs.Deeds.{Deed, did}
use Rattle.folder_files.specs.Histories.{IsLockable}
use Rattle.folder_files.specs.Named.{is_temp, is_temp_of}
use Rattle.folder_files.specs.declared.place.Place.{Place}
use Rattle.folder_files.specs.declared.step.Step.{Step}
use Rattle.folder_files.specs.declared.step.Step.TheVariants as step
use Rattle.folder_files.specs.declared.step.Answer.TheVariants as answer
use Rattle.file_plans.specs.Plan.{Hand, Plan, bind, after, ◌>>=◌}
use Rattle.file_plans.specs.StaysCareful.{careful}
use Rattle.step_plans.specs.declared.fault.PlanFault.TheVariants as fault
use Rattle.step_plans.specs.PlanFaults.{of_stop, Planned}
use Rattle.step_plans.specs.Hands.{named, named_by, temp_name, used}
use Rattle.step_plans.specs.Pledges.{Pledge}
use Rattle.step_plans.specs.Replacing.{entered_once, held_to, created, made_safe, written}
use Rattle.step_plans.proofs.Ruling.{AreNumbered}
use Rattle.step_plans.proofs.Going.{Sound, Outcome, okay, Goes, goes_then}
use Rattle.step_plans.proofs.Named.{temp_kind}
use Rattle.step_plans.proofs.Stepping.{goes_create, goes_sync_file, goes_end, goes_return}
use Rattle.step_plans.proofs.Facts.{never_made}

-- the pledge lets files of this place be written anew: the place is made, temporary names of it are made and cleared,
-- and a name is committed
pub record Serves (w : Pledge) (p : Place) : Type 0 where
  pub serves : (own : List Deed) (kind : Kind) (s : Step) → serves_commit kind ≡ true → IsMadeIn p s → MakesStep w.manner own kind s
  pub make : (own : List Deed) → w.may_step own (step.MakeFolder p)
  pub create : (own : List Deed) (temp bytes : List ℕ) → is_temp_of w.run (kind_of temp) ≡ true → w.may_step own (step.Create p temp bytes)
  pub clear : (own : List Deed) (temp : List ℕ) → is_temp (kind_of temp) ≡ true → w.may_step own (step.Unlink p temp)

-- one lock of the directory is enough
pub locked_there : (p : Place) (own : List Deed) → (IsLockable p → HasLock p own) → (q : Place) → IsLockable q → q ≡ p → HasLock q own
locked_there p own lock q l e = let go : (IsLockable q → HasLock q own) = subst (λ z. IsLockable z → HasLock z own) (sym e) lock in go l

pub lock_held : (p : Place) (own : List Deed) → HasLock p own → (q : Place) → IsLockable q → q ≡ p → HasLock q own
lock_held p own lock q l e = subst (λ z. HasLock z own) (sym e) lock

-- these deeds are those
pub goes_at : {R : Type 0} (w : Pledge) (later own : List Deed) (j : Hand) (p : Plan R) (Q : Outcome R) → later ≡ own → Goes w own j p Q → Goes w later j p Q
goes_at w later own j p Q e f = rw e f

is_temp_by : (run n : ℕ) (temp : List ℕ) → kind_of temp ≡ Temp run n → is_temp_of run (kind_of temp) ≡ true
is_temp_by run n temp e = rw e (grind (arith, nat_tests))

-- the part leaves just this deed
abbrev pub Adds : {A : Type 0} → List Deed → Deed → Outcome A
Adds own d later j u = later ≡ d ∷ own

module _ (w : Pledge) (few : w.run < 2 ^ 128) (p : Place) (lets : Serves w p) where
  -- a new name of the hand, which no deed made
  pub goes_named : {B : Type 0} (own : List Deed) (h : Hand) (k : List ℕ → Planned B) (Q : Outcome B)
      → ((temp : List ℕ) → kind_of temp ≡ Temp w.run h.next → AreNumbered w.run h.next own → Goes w own (used h) (k temp) (okay Q))
      → Goes w own h (named w.run >>= k) (okay Q)
  unfolding Goes named bind ◌>>=◌
  goes_named {B = B} own h k Q f = λ s. go (nat_lt h.next (2 ^ 64)) refl s
    where
      go : (b : Bool) → nat_lt h.next (2 ^ 64) ≡ b → Sound w own h → Goes w own h (bind (named_by w.run h b) (after k)) (okay Q)
      go true e s = (omega arith, f (temp_name w.run h.next) (temp_kind w.run h.next few ((Decides-ltb h.next (2 ^ 64)).0 e)) s.numbered)
      go false e s = tt

  pub created_goes : (own : List Deed) (h : Hand) (temp bytes : List ℕ) (n : ℕ) → kind_of temp ≡ Temp w.run n → n < h.next → AreNumbered w.run n own → (IsLockable p → HasLock p own)
      → Goes w own h (created p temp bytes) (okay (Adds own (did (step.Create p temp bytes) answer.Done)))
  unfolding created
  created_goes own h temp bytes n kind low numbered lock =
      let is_ : is_temp_of w.run (kind_of temp) ≡ true = is_temp_by w.run n temp kind in
      goes_create w own h of_stop (okay (Adds own (did (step.Create p temp bytes) answer.Done))) p temp bytes (entered_once p temp)
      (λ s. (
        record {
          is_own = careful s.unfailed Creates (creates p temp bytes (is_, never_made w.run n p temp own kind numbered)) (lets.serves own Creates (step.Create p temp bytes) refl refl) (locked_there p own lock);
          marks = tt;
          steps = λ no. lets.create own temp bytes is_;
        },
        (n, kind, low),
      ))
      (goes_return w _ h tt (okay (Adds own (did (step.Create p temp bytes) answer.Done))) refl)
      (goes_end w _ h (fault.Meddled p temp) (Adds own (did (step.Create p temp bytes) answer.Done)))
      (goes_end w _ h (fault.Meddled p temp) (Adds own (did (step.Create p temp bytes) answer.Done)))

  pub safe_goes : (own : List Deed) (h : Hand) (n : List ℕ) → Goes w own h (made_safe p n) (okay (Adds own (did (step.SyncFile p n) answer.Done)))
  unfolding made_safe
  safe_goes own h n =
      goes_sync_file w own h of_stop (okay (Adds own (did (step.SyncFile p n) answer.Done))) p n (held_to p n)
      (goes_return w _ h tt (okay (Adds own (did (step.SyncFile p n) answer.Done))) refl) (goes_end w _ h (fault.Meddled p n) (Adds own (did (step.SyncFile p n) answer.Done)))

  -- where a file was written
  abbrev pub Written : List Deed → List ℕ → Outcome (List ℕ)
  Written own bytes later j temp = (later ≡ did (step.SyncFile p temp) answer.Done ∷ (did (step.Create p temp bytes) answer.Done ∷ own)) × (is_temp_of w.run (kind_of temp) ≡ true)

  pub written_goes : (own : List Deed) (h : Hand) (bytes : List ℕ) → (IsLockable p → HasLock p own) → Goes w own h (written w.run p bytes) (okay (Written own bytes))
  unfolding written
  written_goes own h bytes lock =
      goes_named own h _ (Written own bytes)
      (λ temp kind numbered.
      goes_then w own (used h) (created p temp bytes) _ (Adds own (did (step.Create p temp bytes) answer.Done)) (Written own bytes)
      (created_goes own (used h) temp bytes h.next kind (omega arith) numbered lock)
      (λ later j u e. goes_at w later _ j _ (okay (Written own bytes)) e
      (goes_then w (did (step.Create p temp bytes) answer.Done ∷ own) j (made_safe p temp) _ (Adds _ (did (step.SyncFile p temp) answer.Done)) (Written own bytes) (safe_goes _ j temp)
      (λ last i v k. goes_return w last i temp (okay (Written own bytes)) (k, is_temp_by w.run h.next temp kind)))))
