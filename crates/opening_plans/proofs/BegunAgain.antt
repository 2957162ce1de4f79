-- How the begin of a folder ends where the run may have begun others before, and what shows it.
use Rattle.std.proofs.Common.{◌≡◌, ◌≢◌, ◌⊎◌, ◌<◌, ◌^◌, ◌∷◌, ℕ, List, Result, Ok, Err, inl, inr, refl}
use Rattle.folder_files.specs.Deeds.{Deed, WasDone, did, now, on}
use Rattle.folder_files.specs.declared.place.Place.{Place}
use Rattle.folder_files.specs.declared.place.Place.TheVariants.{Folder, Mail}
use Rattle.folder_files.specs.declared.step.Answer.{Answer}
use Rattle.folder_files.specs.declared.step.Answer.TheVariants as answer
use Rattle.folder_files.specs.declared.step.Step.{Step}
use Rattle.folder_files.specs.declared.step.Step.TheVariants as step
use Rattle.file_plans.specs.Plan.{Hand, ◌>>=◌}
use Rattle.step_plans.specs.Locking.{lock_name}
use Rattle.step_plans.specs.PlanFaults.{Planned, of_stop}
use Rattle.step_plans.specs.Replacing.{held_to, synced}
use Rattle.step_plans.specs.declared.fault.PlanFault.{PlanFault}
use Rattle.step_plans.specs.declared.fault.PlanFault.TheVariants as fault
use Rattle.step_plans.proofs.Coming.{Comes, comes_make, comes_sync_folder, comes_then, comes_to}
use Rattle.step_plans.proofs.Going.{Outcome}
use Rattle.step_plans.proofs.Lasting.{KeptBy}
use Rattle.held_messages.specs.Settle.{put_back}
use Rattle.opening_plans.specs.Endings.{Answering, IsMeddledIn, PutsBackups, PutsNone, made_gone, removed_gone}
use Rattle.opening_plans.specs.Opening.{begun, folder_locked, locked_begun, mail_made, settled_read}
use Rattle.opening_plans.proofs.BegunEnds.{Begins, lock_comes, locked_deeds, made_deeds, settled_comes}
use Rattle.opening_plans.proofs.CleanRuns.{Clean}
use Rattle.opening_plans.proofs.NamesKept.{IsPutting, backups_kept, putting}
use Rattle.opening_plans.proofs.SettledEnds.{Shown}

-- the run put no name into the place; or it locked it, and what it put there was made safe
abbrev pub IsLeftSafe : Place → List Deed → Type 0
IsLeftSafe q own = PutsNone q own ⊎ (WasDone (step.Lock q) own × PutsBackups q own)

-- the step puts no name into the place
abbrev pub PutsNothing : Place → Step → Type 0
PutsNothing q s = IsPutting q s → ⊥

none_more : (q : Place) (own : List Deed) (s : Step) (a : Answer) → PutsNothing q s → PutsNone q own → PutsNone q (did s a ∷ own)
none_more q own s a off none (now w) = off (putting q w.0 s a w.1)
none_more q own s a off none (on z) = none z

pub left_safe_kept : (q : Place) → KeptBy (PutsNothing q) (IsLeftSafe q)
left_safe_kept q own s a off (inl none) = inl (none_more q own s a off none)
left_safe_kept q own s a off (inr f) = inr (on f.0, backups_kept q s a own (λ y w. off (putting q y s a w)) f.1)

module _ (run : ℕ) (few : run < 2 ^ 128) (path folder : List ℕ) (Answers : Answering) where
  abbrev p : Place
  p = Folder path folder

  abbrev mail : Place
  mail = Mail path

  abbrev So : {A : Type 0} → Outcome A → Outcome (Result A PlanFault)
  So P later j r = Shown run path folder Answers P later j r

  at : {A : Type 0} (own now_ : List Deed) (j i : Hand) (q : Planned A) (Q : Outcome (Result A PlanFault)) → own ≡ now_ → j ≡ i → Comes now_ i q Q → Comes own j q Q
  at own now_ j i q Q e f g = rw (e, f) g

  -- the mail directory is gone that the run had just made or found made
  gone_shows : (own : List Deed) (a : Answer) → IsLeftSafe mail own → IsMeddledIn run mail lock_name (did (step.SyncFolder mail) answer.Gone ∷ (did (step.MakeFolder mail) a ∷ own))
  gone_shows own a (inl none) = made_gone refl none
  gone_shows own a (inr f) = removed_gone refl (on f.0) (backups_kept mail (step.MakeFolder mail) a own (λ y w. putting mail y (step.MakeFolder mail) a w) f.1)

  abbrev Makes : List Deed → Hand → Outcome Unit
  Makes own h later j u = (a : Answer) × (a ≢ answer.Failed) × (later ≡ made_deeds run few path folder Answers a own) × (j ≡ h)

  mail_comes : (own : List Deed) (h : Hand) → IsLeftSafe mail own → Comes own h (mail_made mail) (So (Makes own h))
  unfolding mail_made synced
  mail_comes own h safe = comes_make own h of_stop (So (Makes own h)) mail _ (by answer.Done (λ e. cc (e))) (by answer.Exists (λ e. cc (e)))
    where
      by : (a : Answer) → a ≢ answer.Failed → Comes (did (step.MakeFolder mail) a ∷ own) h (synced mail lock_name) (So (Makes own h))
      by a live =
          comes_sync_folder _ h of_stop (So (Makes own h)) mail (held_to mail lock_name) (comes_to _ h (Ok tt) (So (Makes own h)) (a, live, refl, refl))
          (comes_to _ h (Err (fault.Meddled mail lock_name)) (So (Makes own h)) (gone_shows own a safe))

  -- a folder is begun, by a run that has left the mail directory safe: its end, and what shows it
  pub begun_again_comes : (own : List Deed) (h : Hand) → Clean run own h → IsLeftSafe mail own → Comes own h (begun run p mail folder) (So (Begins run few path folder Answers))
  unfolding begun locked_begun
  begun_again_comes own h clean safe =
      comes_then own h (folder_locked p) (λ held. mail_made mail >>= (λ made. put_back run p >>= (λ s. settled_read run p mail folder s))) (So (λ later j u. (later ≡ locked_deeds run few path folder Answers own) × (j ≡ h))) (So (Begins run few path folder Answers))
      (lock_comes run few path folder Answers own h)
      (λ later j u q. at later (locked_deeds run few path folder Answers own) j h (mail_made mail >>= (λ made. put_back run p >>= (λ s. settled_read run p mail folder s))) (So (Begins run few path folder Answers)) q.0 q.1
      (comes_then (locked_deeds run few path folder Answers own) h (mail_made mail) (λ made. put_back run p >>= (λ s. settled_read run p mail folder s))
      (So (Makes (locked_deeds run few path folder Answers own) h)) (So (Begins run few path folder Answers))
      (mail_comes (locked_deeds run few path folder Answers own) h (left_safe_kept mail own (step.Lock p) answer.Done (λ e. e) safe))
      (λ end i v r. at end (made_deeds run few path folder Answers r.0 (locked_deeds run few path folder Answers own)) i h (put_back run p >>= (λ s. settled_read run p mail folder s)) (So (Begins run few path folder Answers)) r.2 r.3
      (settled_comes run few path folder Answers own h r.0 r.1 clean))
      (λ end i e r. r)))
      (λ later j e q. q)
