-- What a message that is put and made safe makes of contents alone: it stands above the highest number, and nothing else is changed.
use Rattle.std.proofs.Common.{◌≡◌, ◌<◌, ◌^◌, ◌+◌, ℕ, true, List, Some, None, Result, Ok, Err, refl, sym, subst, nat_lt}
use Rattle.std.specs.Prelude.{decimal}
use Rattle.folder_files.specs.declared.place.Place.{Place}
use Rattle.file_plans.specs.Contents.{Contents, with_text}
use Rattle.file_plans.specs.Giving.{Gives}
use Rattle.file_plans.specs.Plan.{Hand, Return, ◌>>=◌}
use Rattle.file_plans.specs.Views.{View, by_view}
use Rattle.file_plans.proofs.Giving.{gives_on}
use Rattle.file_plans.proofs.Onward.{Is}
use Rattle.step_plans.specs.Hands.{temp_name, used}
use Rattle.step_plans.specs.Replacing.{synced}
use Rattle.step_plans.specs.declared.fault.PlanFault.{PlanFault}
use Rattle.step_plans.specs.declared.fault.PlanFault.TheVariants as fault
use Rattle.step_plans.proofs.Replaced.{Fails, gives_next, synced_gives}
use Rattle.message_puts.specs.Putting.{message_put, message_stored}
use Rattle.message_puts.proofs.PutGiven.{Puts, put_gives}

pub memory_only : (h : Hand) (e : PlanFault) → Fails true h e → e ≡ fault.Memory
memory_only h fault.Faulted f = absurd f
memory_only h (fault.Locked q) f = absurd (f refl)
memory_only h (fault.Meddled q x) f = absurd (f refl)
memory_only h fault.Full f = absurd f
memory_only h (fault.Absent q) f = absurd f
memory_only h (fault.TooLarge l) f = absurd f
memory_only h fault.Memory f = refl

-- it has this number, and these contents are there; or the run has no more names
abbrev pub Stores : Contents → Place → ℕ → List ℕ → Hand → View → Hand → List ℕ → Result ℕ PlanFault → Type 0
Stores c p n bytes h z j left (Ok m) = (m ≡ n) × Is true z.numbers z (with_text c p (decimal n) (Some bytes)) × (j ≡ used h)
Stores c p n bytes h z j left (Err e) = e ≡ fault.Memory

module _ (run : ℕ) (few : run < 2 ^ 128) (p : Place) (c : Contents) (there : c.there p ≡ true) (top : ℕ) (low : top < 999999) (free : c.texts p (decimal (top + 1)) ≡ None) (bytes : List ℕ) where
  abbrev n : ℕ
  n = top + 1

  abbrev later : Contents
  later = with_text c p (decimal n) (Some bytes)

  -- in a folder that is there, where the number above the highest is free, and the run's next name
  pub stored_gives : (ns : List ℕ) (v : View) (h : Hand) (text : List ℕ) → Is true ns v c → (nat_lt h.next (2 ^ 64) ≡ true → c.texts p (temp_name run h.next) ≡ None) → Gives (by_view true) v h text (message_stored run p top bytes) (Stores c p n bytes h)
  unfolding Gives message_stored
  stored_gives ns v h text is none =
      gives_on (by_view true) v h text (message_put run p bytes None top) (λ number. synced p (decimal number) >>= (λ safe. Return (Ok number))) (Puts ns c p n bytes h) (Stores c p n bytes h)
      (put_gives run few p c there top low free bytes ns v h text is none)
      (λ z j left m put. subst (λ k. Gives (by_view true) z j left (synced p (decimal k) >>= (λ safe. Return (Ok k))) (Stores c p n bytes h)) (sym put.number)
      (subst (λ i. Gives (by_view true) z i left (synced p (decimal n) >>= (λ safe. Return (Ok n))) (Stores c p n bytes h)) (sym put.hand)
      (gives_next true z.numbers later (used h) (Fails true h) z (used h) left (synced p (decimal n)) (λ safe. Return (Ok n)) (Stores c p n bytes h)
      (synced_gives true z.numbers p h (decimal n) z later (used h) left ((λ e. put.contents), refl) (λ e. there))
      (λ y rest u same. (refl, ((λ e. same.0 refl), refl), refl))
      (λ y i rest e f. memory_only h e f))))
      (λ z j left e f. memory_only h e f)
