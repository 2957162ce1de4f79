-- A message is stored in a folder above a number from which on no sequence marks any: each step minds all marks.
use Rattle.std.proofs.Common.{◌≡◌, ◌<◌, ◌≤◌, ◌+◌, ◌-◌, ◌∷◌, ℕ, zero, suc, true, List, Option, Some, None, Ok, refl, arith}
use Rattle.std.specs.Prelude.{decimal}
use Rattle.mh_base.specs.Entries.{kind_of}
use Rattle.mh_base.specs.Numbers.{IsMsgNum}
use Rattle.folder_files.specs.Deeds.{Deed, did}
use Rattle.folder_files.specs.Named.{is_temp}
use Rattle.folder_files.specs.declared.place.Place.{Place}
use Rattle.folder_files.specs.declared.place.Place.TheVariants.{Folder}
use Rattle.folder_files.specs.declared.step.Answer.{Answer}
use Rattle.folder_files.specs.declared.step.Answer.TheVariants as answer
use Rattle.folder_files.specs.declared.step.Step.{Step}
use Rattle.folder_files.specs.declared.step.Step.TheVariants as step
use Rattle.file_plans.specs.Plan.{Hand, Plan, Return, ◌>>=◌}
use Rattle.held_messages.specs.Settle.{given_at, given_from, given_up}
use Rattle.step_plans.specs.Locking.{removed}
use Rattle.step_plans.specs.PlanFaults.{of_stop}
use Rattle.step_plans.specs.Pledges.{MayAsk, Pledge}
use Rattle.step_plans.specs.Replacing.{held_to, synced, written}
use Rattle.step_plans.specs.declared.fault.PlanFault.TheVariants as fault
use Rattle.step_plans.proofs.Going.{Outcome, okay}
use Rattle.message_puts.specs.Putting.{linked_first, message_put, message_stored, number_got, numbered}
use Rattle.opening_plans.proofs.AllMarks.{MindsAll, clear_minds, look_minds}
use Rattle.opening_plans.proofs.CommitSeen.{MadeTemp, written_meets}
use Rattle.opening_plans.proofs.Meeting.{Meets, meets_end, meets_link, meets_okay, meets_return, meets_sync_folder, meets_then, meets_unlink}
use Rattle.refile_plans.proofs.UnmarkedNumbers.{IsUnmarkedIn, put_minds}

-- a step by which a message is stored in this place
abbrev pub IsPut : Place → Step → Type 0
IsPut q (step.List r) = ⊥
IsPut q (step.Read r n limit) = ⊥
IsPut q (step.MakeFolder r) = ⊥
IsPut q (step.Create r n b) = r ≡ q
IsPut q (step.SyncFile r n) = r ≡ q
IsPut q (step.SyncFolder r) = r ≡ q
IsPut q (step.Link r a b) = r ≡ q
IsPut q (step.Rename r a b) = ⊥
IsPut q (step.Unlink r a) = (r ≡ q) × (is_temp (kind_of a) ≡ true)
IsPut q (step.Lock r) = ⊥
IsPut q (step.Unlock r) = ⊥
IsPut q (step.ReadFile f limit) = ⊥
IsPut q (step.ReadDrop f from most) = ⊥
IsPut q (step.CutDrop f length_) = ⊥

-- The folders whose private marks are minded; the pledge; the folder; what such steps keep; and the number from which on, while that is so, none is marked.
module _ (Of : List ℕ → Type 0) (w : Pledge) (path name : List ℕ) (G : List Deed → Type 0) (keeps : (own : List Deed) (s : Step) (a : Answer) → MayAsk w own s → IsPut (Folder path name) s → G own → G (did s a ∷ own)) (top : ℕ) (small : top ≤ 999999)
    (free : (own : List Deed) (n : ℕ) → G own → top < n → IsUnmarkedIn w.run path name n own) where
  abbrev q : Place
  q = Folder path name

  abbrev A : List Deed → Step → Type 0
  A own s = MindsAll Of w.run own s

  abbrev M : {R : Type 0} → List Deed → Hand → Plan R → Outcome R → Type 0
  M own h plan Q = Meets (MayAsk w) A own h plan Q

  -- where the file was put, if anywhere
  abbrev PutAt : ℕ → Outcome (Option ℕ)
  PutAt n later j None = G later
  PutAt n later j (Some m) = (n ≤ m) × (m ≤ 999999) × G later

  put_up : (n : ℕ) (later : List Deed) (j : Hand) (end : Option ℕ) → PutAt (n + 1) later j end → PutAt n later j end
  put_up n later j None f = f
  put_up n later j (Some m) f = ((let le = f.0 in omega (arith, le)), f.1, f.2)

  up_meets : (temp : List ℕ) (left n : ℕ) → (1 ≤ n) × (n + left ≡ 1000000) → top < n → (own : List Deed) (h : Hand) → G own → M own h (given_up q temp n left) (okay (PutAt n))
  unfolding given_up
  up_meets temp zero n few above own h f = meets_return (MayAsk w) A own h None (okay (PutAt n)) f
  up_meets temp (suc left) n few above own h f =
      meets_link (MayAsk w) A own h of_stop (okay (PutAt n)) q temp (decimal n) (λ e. given_at q temp n e (given_up q temp (n + 1) left))
      (λ may. (
        put_minds w.run path name Of own temp n one (free own n f above),
        meets_return (MayAsk w) A (did (step.Link q temp (decimal n)) answer.Done ∷ own) h (Some n) (okay (PutAt n)) (omega arith, one.1, keeps own (step.Link q temp (decimal n)) answer.Done may refl f),
        meets_okay (MayAsk w) A (did (step.Link q temp (decimal n)) answer.Exists ∷ own) h (given_up q temp (n + 1) left) (PutAt (n + 1)) (PutAt n) (put_up n)
            (up_meets temp left (n + 1) (omega arith, (let full = few.1 in omega (arith, full))) (omega (arith, above)) (did (step.Link q temp (decimal n)) answer.Exists ∷ own) h (keeps own (step.Link q temp (decimal n)) answer.Exists may refl f)),
        meets_end (MayAsk w) A (did (step.Link q temp (decimal n)) answer.Gone ∷ own) h (fault.Meddled q temp) (PutAt n),
      ))
    where
      one : IsMsgNum n
      one = (few.0, (let full = few.1 in omega (arith, full)))

  -- it has a number above
  abbrev pub Above : Outcome ℕ
  Above later j m = (top < m) × (m ≤ 999999) × G later

  numbered_meets : (temp : List ℕ) (own : List Deed) (h : Hand) → G own → M own h (numbered q temp None top) (okay Above)
  unfolding numbered linked_first
  numbered_meets temp own h f =
      meets_then (MayAsk w) A own h (given_from q temp (top + 1)) number_got (PutAt (top + 1)) Above (up_meets temp (1000000 - (top + 1)) (top + 1) (omega arith, omega (arith, small)) (omega arith) own h f) got
    where
      got : (later : List Deed) (j : Hand) (end : Option ℕ) → PutAt (top + 1) later j end → M later j (number_got end) (okay Above)
      got later j None g = meets_end (MayAsk w) A later j fault.Full Above
      got later j (Some m) g = meets_return (MayAsk w) A later j m (okay Above) ((let le = g.0 in omega (arith, le)), g.1, g.2)

  gone_meets : (temp : List ℕ) → is_temp (kind_of temp) ≡ true → (own : List Deed) (h : Hand) → G own → M own h (removed q temp) (okay (λ later j u. G later))
  unfolding removed
  gone_meets temp is own h f =
      meets_unlink (MayAsk w) A own h of_stop (okay (λ later j u. G later)) q temp (held_to q temp)
      (λ may. (
        clear_minds Of w.run own q temp is,
        meets_return (MayAsk w) A (did (step.Unlink q temp) answer.Done ∷ own) h tt (okay (λ later j u. G later)) (keeps own (step.Unlink q temp) answer.Done may (refl, is) f),
        meets_end (MayAsk w) A (did (step.Unlink q temp) answer.Gone ∷ own) h (fault.Meddled q temp) (λ later j u. G later),
      ))

  safe_meets : (name_ : List ℕ) (own : List Deed) (h : Hand) → G own → M own h (synced q name_) (okay (λ later j u. G later))
  unfolding synced
  safe_meets name_ own h f =
      meets_sync_folder (MayAsk w) A own h of_stop (okay (λ later j u. G later)) q (held_to q name_)
      (λ may. (
        look_minds Of w.run own (step.SyncFolder q) tt,
        meets_return (MayAsk w) A (did (step.SyncFolder q) answer.Done ∷ own) h tt (okay (λ later j u. G later)) (keeps own (step.SyncFolder q) answer.Done may refl f),
        meets_end (MayAsk w) A (did (step.SyncFolder q) answer.Gone ∷ own) h (fault.Meddled q name_) (λ later j u. G later),
      ))

  put_meets : (bytes : List ℕ) (own : List Deed) (h : Hand) → G own → M own h (message_put w.run q bytes None top) (okay Above)
  unfolding message_put
  put_meets bytes own h f =
      meets_then (MayAsk w) A own h (written w.run q bytes) (λ temp. numbered q temp None top >>= (λ number. removed q temp >>= (λ gone. Return (Ok number)))) (λ later j temp. G later × MadeTemp q temp bytes later) Above
      (written_meets Of w path name q G (λ before temp text a may g. keeps before (step.Create q temp text) a may refl g) (λ before temp a may g. keeps before (step.SyncFile q temp) a may refl g) own h bytes f)
      (λ later j temp g.
      meets_then (MayAsk w) A later j (numbered q temp None top) (λ number. removed q temp >>= (λ gone. Return (Ok number))) Above Above (numbered_meets temp later j g.0)
      (λ last i number z.
      meets_then (MayAsk w) A last i (removed q temp) (λ gone. Return (Ok number)) (λ end k u. G end) Above (gone_meets temp g.1.1 last i z.2) (λ end k u y. meets_return (MayAsk w) A end k number (okay Above) (z.0, z.1, y))))

  -- it is put, and its folder made safe
  pub stored_meets : (bytes : List ℕ) (own : List Deed) (h : Hand) → G own → M own h (message_stored w.run q top bytes) (okay Above)
  unfolding message_stored
  stored_meets bytes own h f =
      meets_then (MayAsk w) A own h (message_put w.run q bytes None top) (λ number. synced q (decimal number) >>= (λ safe. Return (Ok number))) Above Above (put_meets bytes own h f)
      (λ later j number g.
      meets_then (MayAsk w) A later j (synced q (decimal number)) (λ safe. Return (Ok number)) (λ last i u. G last) Above (safe_meets (decimal number) later j g.2) (λ last i u y. meets_return (MayAsk w) A last i number (okay Above) (g.0, g.1, y)))
