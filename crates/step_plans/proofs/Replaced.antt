-- What a file that takes a name's place makes of contents, alone and beside others.
use Rattle.std.proofs.Common.{◌≡◌, ℕ, ◌<◌, ◌^◌, Bool, true, false, List, Some, None, Result, Ok, Err, refl, sym, ◌∙◌, subst, nat_lt}
use Rattle.std.specs.Prelude.{is_some}
use Rattle.mh_base.specs.Entries.{kind_of}
use Rattle.folder_files.specs.Named.{is_temp}
use Rattle.folder_files.specs.declared.place.Place.{Place}
use Rattle.folder_files.specs.declared.step.Step.TheVariants as step
use Rattle.folder_files.specs.declared.step.Answer.TheVariants as answer
use Rattle.file_plans.specs.Contents.{Contents, with_text, with_moved}
use Rattle.file_plans.specs.Giving.{Table, Gives}
use Rattle.file_plans.specs.Plan.{Hand, bind, after, ◌>>=◌}
use Rattle.file_plans.specs.Views.{View, by_view}
use Rattle.file_plans.proofs.Existing.{at_self}
use Rattle.file_plans.proofs.Giving.{gives_on}
use Rattle.file_plans.proofs.Onward.{Is, onward, fits_at, not_gone, not_gone_there, not_exists, not_gone_created, made_moved, temp_apart}
use Rattle.file_plans.proofs.Viewing.{create_view, sync_file_view, sync_folder_view, rename_view}
use Rattle.step_plans.specs.declared.fault.PlanFault.{PlanFault}
use Rattle.step_plans.specs.declared.fault.PlanFault.TheVariants as fault
use Rattle.step_plans.specs.PlanFaults.{of_stop, Planned}
use Rattle.step_plans.specs.Hands.{used, temp_name, named, named_by}
use Rattle.step_plans.specs.Replacing.{held_to, entered_once, created, made_safe, written, renamed, synced, replaced}
use Rattle.step_plans.proofs.Named.{temp_is}

-- where a part is Ok: alone these are the contents, it put nothing, and the hand is this
pub record Left (alone : Bool) (ns : List ℕ) (c : Contents) (i : Hand) (z : View) (j : Hand) : Type 0 where
  pub is : Is alone ns z c
  pub hand : j ≡ i

-- a part leaves that, or ends with such an error
abbrev pub Leaves : {A : Type 0} → Bool → List ℕ → Contents → Hand → (PlanFault → Type 0) → View → Hand → List ℕ → Result A PlanFault → Type 0
Leaves alone ns c i E z j left (Ok a) = Left alone ns c i z j
Leaves alone ns c i E z j left (Err e) = E e

-- how a part that makes and moves files ends: alone only for want of numbers for names, beside others also where
-- another run has the lock or meddles
abbrev pub Fails : Bool → Hand → PlanFault → Type 0
Fails alone h fault.Faulted = ⊥
Fails alone h (fault.Locked p) = alone ≡ true → ⊥
Fails alone h (fault.Meddled p n) = alone ≡ true → ⊥
Fails alone h fault.Full = ⊥
Fails alone h (fault.Absent p) = ⊥
Fails alone h (fault.TooLarge l) = ⊥
Fails alone h fault.Memory = nat_lt h.next (2 ^ 64) ≡ false

pub left_as : (alone : Bool) (ns : List ℕ) (c d : Contents) (i : Hand) (z : View) (j : Hand) → (alone ≡ true → c ≡ d) → Left alone ns c i z j → Left alone ns d i z j
left_as alone ns c d i z j same l = record { is = ((λ e. l.is.0 e ∙ same e), l.is.1); hand = l.hand }

-- one part, and the next where it is Ok
pub gives_next : {A B : Type 0} (alone : Bool) (ns : List ℕ) (d : Contents) (i : Hand) (E : PlanFault → Type 0) (v : View) (h : Hand) (text : List ℕ) (p : Planned A) (k : A → Planned B) (Q : View → Hand → List ℕ → Result B PlanFault → Type 0)
    → Gives (by_view alone) v h text p (Leaves alone ns d i E) → ((z : View) (left : List ℕ) (a : A) → Is alone ns z d → Gives (by_view alone) z i left (k a) Q) → ((z : View) (j : Hand) (left : List ℕ) (e : PlanFault) → E e → Q z j left (Err e))
    → Gives (by_view alone) v h text (p >>= k) Q
gives_next alone ns d i E v h text p k Q f next bad =
    gives_on (by_view alone) v h text p k (Leaves alone ns d i E) Q f (λ z j left a l. subst (λ y. Gives (by_view alone) z y left (k a) Q) (sym l.hand) (next z left a l.is)) bad

-- a new name of the hand
pub gives_named : {S B : Type 0} (t : Table S) (s : S) (run : ℕ) (h : Hand) (text : List ℕ) (k : List ℕ → Planned B) (Q : S → Hand → List ℕ → Result B PlanFault → Type 0)
    → (nat_lt h.next (2 ^ 64) ≡ true → Gives t s (used h) text (k (temp_name run h.next)) Q) → (nat_lt h.next (2 ^ 64) ≡ false → Q s h text (Err fault.Memory)) → Gives t s h text (named run >>= k) Q
unfolding Gives named bind ◌>>=◌
gives_named t s run h text k Q good bad = go (nat_lt h.next (2 ^ 64)) refl
  where
    go : (b : Bool) → nat_lt h.next (2 ^ 64) ≡ b → Gives t s h text (bind (named_by run h b) (after k)) Q
    go true e = good e
    go false e = bad e

module _ (alone : Bool) (ns : List ℕ) (p : Place) (h : Hand) where
  pub created_gives : (n b : List ℕ) (v : View) (c : Contents) (i : Hand) (text : List ℕ) → Is alone ns v c → (alone ≡ true → (c.there p ≡ true) × (c.texts p n ≡ None))
      → Gives (by_view alone) v i text (created p n b) (Leaves alone ns (with_text c p n (Some b)) i (Fails alone h))
  unfolding Gives created bind ◌>>=◌
  created_gives n b v c i text is new =
      create_view alone v of_stop i text (Leaves alone ns (with_text c p n (Some b)) i (Fails alone h)) p n b (entered_once p n)
      (λ f. record { is = onward alone ns v c (step.Create p n b) answer.Done is refl; hand = refl })
      (λ f e. not_exists (c.there p) (c.texts p n) (new e).1 (fits_at alone ns v c (step.Create p n b) answer.Exists is f e))
      (λ f e. not_gone_created (c.there p) (c.texts p n) (new e).0 (new e).1 (fits_at alone ns v c (step.Create p n b) answer.Gone is f e))

  pub safe_gives : (n : List ℕ) (v : View) (c : Contents) (i : Hand) (text : List ℕ) → Is alone ns v c → (alone ≡ true → is_some (c.texts p n) ≡ true)
      → Gives (by_view alone) v i text (made_safe p n) (Leaves alone ns c i (Fails alone h))
  unfolding Gives made_safe bind ◌>>=◌
  safe_gives n v c i text is there =
      sync_file_view alone v of_stop i text (Leaves alone ns c i (Fails alone h)) p n (held_to p n)
      (λ f. record { is = onward alone ns v c (step.SyncFile p n) answer.Done is refl; hand = refl })
      (λ f e. not_gone (c.texts p n) (there e) (fits_at alone ns v c (step.SyncFile p n) answer.Gone is f e))

  pub renamed_gives : (a b : List ℕ) (v : View) (c : Contents) (i : Hand) (text : List ℕ) → Is alone ns v c → (alone ≡ true → is_some (c.texts p a) ≡ true)
      → Gives (by_view alone) v i text (renamed p a b) (Leaves alone ns (with_moved c p a b) i (Fails alone h))
  unfolding Gives renamed bind ◌>>=◌
  renamed_gives a b v c i text is there =
      rename_view alone v of_stop i text (Leaves alone ns (with_moved c p a b) i (Fails alone h)) p a b (held_to p a)
      (λ f. record { is = onward alone ns v c (step.Rename p a b) answer.Done is refl; hand = refl })
      (λ f e. not_gone (c.texts p a) (there e) (fits_at alone ns v c (step.Rename p a b) answer.Gone is f e))

  pub synced_gives : (n : List ℕ) (v : View) (c : Contents) (i : Hand) (text : List ℕ) → Is alone ns v c → (alone ≡ true → c.there p ≡ true)
      → Gives (by_view alone) v i text (synced p n) (Leaves alone ns c i (Fails alone h))
  unfolding Gives synced bind ◌>>=◌
  synced_gives n v c i text is there =
      sync_folder_view alone v of_stop i text (Leaves alone ns c i (Fails alone h)) p (held_to p n)
      (λ f. record { is = onward alone ns v c (step.SyncFolder p) answer.Done is refl; hand = refl })
      (λ f e. not_gone_there (c.there p) (there e) (fits_at alone ns v c (step.SyncFolder p) answer.Gone is f e))

-- where a file was written: it stands under the hand's next temporary name
pub record Wrote (alone : Bool) (ns : List ℕ) (run : ℕ) (p : Place) (bytes : List ℕ) (c : Contents) (h : Hand) (z : View) (j : Hand) (temp : List ℕ) : Type 0 where
  pub left : Left alone ns (with_text c p (temp_name run h.next) (Some bytes)) (used h) z j
  pub name : temp ≡ temp_name run h.next
  pub low : nat_lt h.next (2 ^ 64) ≡ true

abbrev pub Writes : Bool → List ℕ → ℕ → Place → List ℕ → Contents → Hand → View → Hand → List ℕ → Result (List ℕ) PlanFault → Type 0
Writes alone ns run p bytes c h z j left (Ok temp) = Wrote alone ns run p bytes c h z j temp
Writes alone ns run p bytes c h z j left (Err e) = Fails alone h e

module _ (alone : Bool) (ns : List ℕ) (run : ℕ) (p : Place) where
  pub written_gives : (bytes : List ℕ) (v : View) (c : Contents) (h : Hand) (text : List ℕ) → Is alone ns v c → (nat_lt h.next (2 ^ 64) ≡ true → alone ≡ true → (c.there p ≡ true) × (c.texts p (temp_name run h.next) ≡ None))
      → Gives (by_view alone) v h text (written run p bytes) (Writes alone ns run p bytes c h)
  unfolding Gives written
  written_gives bytes v c h text is new =
      gives_named (by_view alone) v run h text _ (Writes alone ns run p bytes c h)
      (λ low. gives_next alone ns made (used h) (Fails alone h) v (used h) text (created p temp bytes) _ (Writes alone ns run p bytes c h) (created_gives alone ns p h temp bytes v c (used h) text is (new low))
      (λ z left u at_. gives_next alone ns made (used h) (Fails alone h) z (used h) left (made_safe p temp) _ (Writes alone ns run p bytes c h) (safe_gives alone ns p h temp z made (used h) left at_ (λ e. rw (at_self p temp) refl))
      (λ y rest u last. record { left = record { is = last; hand = refl }; name = refl; low = low }) (λ y j rest e f. f)) (λ z j left e f. f)) (λ none. none)
    where
      temp : List ℕ
      temp = temp_name run h.next

      made : Contents
      made = with_text c p temp (Some bytes)

  -- a new file takes a name's place, and the hand has used a number
  pub replaced_gives : run < 2 ^ 128 → (name bytes : List ℕ) (v : View) (c : Contents) (h : Hand) (text : List ℕ) → Is alone ns v c → (nat_lt h.next (2 ^ 64) ≡ true → alone ≡ true → (c.there p ≡ true) × (c.texts p (temp_name run h.next) ≡ None)) → is_temp (kind_of name) ≡ false
      → Gives (by_view alone) v h text (replaced run p name bytes) (Leaves alone ns (with_text c p name (Some bytes)) (used h) (Fails alone h))
  unfolding replaced
  replaced_gives few name bytes v c h text is new other =
      gives_on (by_view alone) v h text (written run p bytes) (λ temp. renamed p temp name >>= (λ moved. synced p name)) (Writes alone ns run p bytes c h) (Leaves alone ns (with_text c p name (Some bytes)) (used h) (Fails alone h))
      (written_gives bytes v c h text is new) moves (λ z j left e f. f)
    where
      temp_ : List ℕ
      temp_ = temp_name run h.next

      made : Contents
      made = with_text c p temp_ (Some bytes)

      after_made : (z : View) (left : List ℕ) → nat_lt h.next (2 ^ 64) ≡ true → Is alone ns z made
          → Gives (by_view alone) z (used h) left (renamed p temp_ name >>= (λ moved. synced p name)) (Leaves alone ns (with_text c p name (Some bytes)) (used h) (Fails alone h))
      after_made z left low at_ =
          gives_next alone ns (with_moved made p temp_ name) (used h) (Fails alone h) z (used h) left (renamed p temp_ name) (λ moved. synced p name) (Leaves alone ns (with_text c p name (Some bytes)) (used h) (Fails alone h))
          (renamed_gives alone ns p h temp_ name z made (used h) left at_ (λ e. rw (at_self p temp_) refl))
          (λ y rest u last. synced_gives alone ns p h name y (with_text c p name (Some bytes)) (used h) rest
          ((λ e. last.0 e ∙ made_moved c p temp_ name bytes (new low e).1 (temp_apart temp_ (temp_is run h.next few low) name other)), last.1) (λ e. (new low e).0))
          (λ y j rest e f. f)

      moves : (z : View) (j : Hand) (left : List ℕ) (temp : List ℕ) → Wrote alone ns run p bytes c h z j temp
          → Gives (by_view alone) z j left (renamed p temp name >>= (λ moved. synced p name)) (Leaves alone ns (with_text c p name (Some bytes)) (used h) (Fails alone h))
      moves z j left temp w =
          subst (λ t. Gives (by_view alone) z j left (renamed p t name >>= (λ moved. synced p name)) (Leaves alone ns (with_text c p name (Some bytes)) (used h) (Fails alone h))) (sym w.name)
          (subst (λ i. Gives (by_view alone) z i left (renamed p temp_ name >>= (λ moved. synced p name)) (Leaves alone ns (with_text c p name (Some bytes)) (used h) (Fails alone h))) (sym w.left.hand) (after_made z left w.low w.left.is))
