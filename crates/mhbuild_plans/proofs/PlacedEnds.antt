-- How a message's taking of its draft's place ends, and what shows it.
use Rattle.std.proofs.Common.{◌≡◌, ◌⊎◌, inl, inr, ◌<◌, ◌^◌, ◌∷◌, ℕ, Bool, true, false, List, Some, Result, Ok, Err, refl, sym, ◌∙◌, ap, subst, nat_lt}
use Rattle.std.proofs.lemmas.Bool.Decides.{Decides-ltb}
use Rattle.mh_base.specs.Entries.{kind_of}
use Rattle.mh_base.specs.declared.entry.Entry.TheVariants.{Temp}
use Rattle.folder_files.specs.Careful.{WasMade}
use Rattle.folder_files.specs.Deeds.{Deed, did, last, on, still}
use Rattle.folder_files.specs.Named.{is_other, original_of}
use Rattle.folder_files.specs.declared.place.Place.TheVariants.{Work}
use Rattle.folder_files.specs.declared.step.Answer.{Answer}
use Rattle.folder_files.specs.declared.step.Answer.TheVariants as answer
use Rattle.folder_files.specs.declared.step.Step.TheVariants as step
use Rattle.file_plans.specs.Plan.{Hand}
use Rattle.step_plans.specs.Endings.{HasMet, IsTakenAway, name_gone, sync_gone}
use Rattle.step_plans.specs.Hands.{named, named_by, temp_name}
use Rattle.step_plans.specs.PlanFaults.{Planned, of_stop}
use Rattle.step_plans.specs.Replacing.{created, entered_once, held_to, made_safe, renamed, synced, written}
use Rattle.step_plans.specs.declared.fault.PlanFault.{PlanFault}
use Rattle.step_plans.specs.declared.fault.PlanFault.TheVariants as fault
use Rattle.step_plans.proofs.Coming.{Comes, comes_create, comes_rename, comes_sync_file, comes_sync_folder, comes_then, comes_to}
use Rattle.step_plans.proofs.Going.{Outcome}
use Rattle.step_plans.proofs.Named.{temp_kind}
use Rattle.step_plans.proofs.Past.{did_step}
use Rattle.draft_files.specs.DraftNames.{is_draft_name}
use Rattle.draft_files.specs.Replacing.{set_in_place}
use Rattle.draft_files.proofs.Names.{parts_of}
use Rattle.mh_looks.proofs.Ending.{comes_at}
use Rattle.mhbuild_plans.specs.BuildAnswers.{IsMeddledHere, draft_gone, fresh_taken, made_gone}
use Rattle.mhbuild_plans.specs.BuildPledge.{HasText}

-- what shows each fault of the plan
abbrev pub ShowsPlaced : ℕ → List ℕ → ℕ → PlanFault → List Deed → Type 0
ShowsPlaced run name next fault.Faulted own = ⊥
ShowsPlaced run name next (fault.Locked q) own = ⊥
ShowsPlaced run name next (fault.Meddled q x) own = (q ≡ Work) × IsMeddledHere run name x own
ShowsPlaced run name next fault.Full own = ⊥
ShowsPlaced run name next (fault.Absent q) own = ⊥
ShowsPlaced run name next (fault.TooLarge l) own = ⊥
ShowsPlaced run name next fault.Memory own = nat_lt next (2 ^ 64) ≡ false

sync_leaves : (x : List ℕ) → IsTakenAway Work x (did (step.SyncFile Work x) answer.Done) → ⊥
sync_leaves x (inl t) = let same : step.SyncFile Work x ≡ step.Unlink Work x = did_step t in cc
sync_leaves x (inr t) = let same : step.SyncFile Work x ≡ step.Rename Work x t.0 = did_step t.1 in cc

-- a draft's name isn't a temporary one
no_temp : (run k : ℕ) (name temp : List ℕ) → is_draft_name name ≡ true → kind_of temp ≡ Temp run k → name ≡ temp → ⊥
no_temp run k name temp ok kind same = absurd (let no : is_other (Temp run k) ≡ true = ap is_other (sym kind ∙ ap kind_of (sym same)) ∙ (parts_of name ok).other in cc)

aside_leaves : (name to x : List ℕ) → (name ≡ x → ⊥) → IsTakenAway Work x (did (step.Rename Work name to) answer.Done) → ⊥
aside_leaves name to x other (inl t) = let same : step.Rename Work name to ≡ step.Unlink Work x = did_step t in cc
aside_leaves name to x other (inr t) = let same : step.Rename Work name to ≡ step.Rename Work x t.0 = did_step t.1 in other (let is : name ≡ x = cc in is)

module _ (run : ℕ) (few : run < 2 ^ 128) (name : List ℕ) (ok : is_draft_name name ≡ true) (text : List ℕ) (h : Hand) where
  abbrev fresh_name : List ℕ
  fresh_name = temp_name run h.next

  abbrev pub So : {A : Type 0} → Outcome A → Outcome (Result A PlanFault)
  So P later j (Ok a) = P later j a
  So P later j (Err e) = ShowsPlaced run name h.next e later

  -- so many deeds more
  abbrev Next : List Deed → Outcome Unit
  Next now_ later i u = later ≡ now_

  at : {A : Type 0} (own now_ : List Deed) (j : Hand) (q : Planned A) (Q : Outcome (Result A PlanFault)) → own ≡ now_ → Comes now_ j q Q → Comes own j q Q
  at own now_ j q Q e f = comes_at own now_ j j q Q e refl f

  abbrev Names : List Deed → Outcome (List ℕ)
  Names own later j temp = (later ≡ own) × (temp ≡ fresh_name) × (kind_of temp ≡ Temp run h.next)

  named_comes : (own : List Deed) → Comes own h (named run) (So (Names own))
  unfolding Comes named
  named_comes own = go (nat_lt h.next (2 ^ 64)) refl
    where
      go : (b : Bool) → nat_lt h.next (2 ^ 64) ≡ b → Comes own h (named_by run h b) (So (Names own))
      go true e = (refl, refl, temp_kind run h.next few ((Decides-ltb h.next (2 ^ 64)).0 e))
      go false e = e

  created_comes : (own : List Deed) (j : Hand) (temp bytes : List ℕ) → temp ≡ fresh_name → (WasMade Work fresh_name own → ⊥) → Comes own j (created Work temp bytes) (So (Next (did (step.Create Work temp bytes) answer.Done ∷ own)))
  unfolding created
  created_comes own j temp bytes is unmade =
      comes_create own j of_stop (So (Next (did (step.Create Work temp bytes) answer.Done ∷ own))) Work temp bytes (entered_once Work temp) (comes_to _ j (Ok tt) (So (Next (did (step.Create Work temp bytes) answer.Done ∷ own))) refl)
      (comes_to _ j (Err (fault.Meddled Work temp)) (So (Next (did (step.Create Work temp bytes) answer.Done ∷ own))) (refl, taken answer.Exists (inl refl)))
      (comes_to _ j (Err (fault.Meddled Work temp)) (So (Next (did (step.Create Work temp bytes) answer.Done ∷ own))) (refl, taken answer.Gone (inr refl)))
    where
      taken : (a : Answer) → (a ≡ answer.Exists) ⊎ (a ≡ answer.Gone) → IsMeddledHere run name temp (did (step.Create Work temp bytes) a ∷ own)
      taken a e = fresh_taken h.next is (subst (λ z. WasMade Work z own → ⊥) (sym is) unmade) e

  abbrev made : List ℕ → List ℕ → List Deed → List Deed
  made temp bytes own = did (step.SyncFile Work temp) answer.Done ∷ (did (step.Create Work temp bytes) answer.Done ∷ own)

  safe_comes : (own : List Deed) (j : Hand) (temp bytes : List ℕ) → Comes (did (step.Create Work temp bytes) answer.Done ∷ own) j (made_safe Work temp) (So (Next (made temp bytes own)))
  unfolding made_safe
  safe_comes own j temp bytes =
      comes_sync_file _ j of_stop (So (Next (made temp bytes own))) Work temp (held_to Work temp) (comes_to _ j (Ok tt) (So (Next (made temp bytes own))) refl)
      (comes_to _ j (Err (fault.Meddled Work temp)) (So (Next (made temp bytes own))) (refl, made_gone (name_gone (inr (inl refl)) (last (inl (bytes, refl))))))

  abbrev Writes : List ℕ → List Deed → Outcome (List ℕ)
  Writes bytes own later j temp = (later ≡ made temp bytes own) × (kind_of temp ≡ Temp run h.next)

  written_comes : (own : List Deed) (bytes : List ℕ) → (WasMade Work fresh_name own → ⊥) → Comes own h (written run Work bytes) (So (Writes bytes own))
  unfolding written
  written_comes own bytes unmade =
      comes_then own h (named run) _ (So (Names own)) (So (Writes bytes own)) (named_comes own)
      (λ later j temp q. at later own j _ (So (Writes bytes own)) q.0
      (comes_then own j (created Work temp bytes) _ (So (Next (did (step.Create Work temp bytes) answer.Done ∷ own))) (So (Writes bytes own)) (created_comes own j temp bytes q.1 unmade)
      (λ later_ i u e. at later_ (did (step.Create Work temp bytes) answer.Done ∷ own) i _ (So (Writes bytes own)) e
      (comes_then (did (step.Create Work temp bytes) answer.Done ∷ own) i (made_safe Work temp) _ (So (Next (made temp bytes own))) (So (Writes bytes own)) (safe_comes own i temp bytes)
      (λ last_ k v s. comes_to last_ k (Ok temp) (So (Writes bytes own)) (s, q.2)) (λ last_ k e_ s. s)))
      (λ later_ i e s. s)))
      (λ later j e q. q)

  abbrev set_aside : List ℕ → List ℕ → List Deed → List Deed
  set_aside temp bytes own = did (step.Rename Work name (original_of name)) answer.Done ∷ made temp bytes own

  aside_comes : (own : List Deed) (j : Hand) (temp bytes : List ℕ) → HasText (Some name) text own → Comes (made temp bytes own) j (renamed Work name (original_of name)) (So (Next (set_aside temp bytes own)))
  unfolding renamed
  aside_comes own j temp bytes has =
      comes_rename _ j of_stop (So (Next (set_aside temp bytes own))) Work name (original_of name) (held_to Work name) (comes_to _ j (Ok tt) (So (Next (set_aside temp bytes own))) refl)
      (comes_to _ j (Err (fault.Meddled Work name)) (So (Next (set_aside temp bytes own))) (refl, draft_gone text (on (on has))))

  abbrev placed : List ℕ → List ℕ → List Deed → List Deed
  placed temp bytes own = did (step.Rename Work temp name) answer.Done ∷ set_aside temp bytes own

  moved_comes : (own : List Deed) (j : Hand) (temp bytes : List ℕ) → kind_of temp ≡ Temp run h.next → Comes (set_aside temp bytes own) j (renamed Work temp name) (So (Next (placed temp bytes own)))
  unfolding renamed
  moved_comes own j temp bytes kind =
      comes_rename _ j of_stop (So (Next (placed temp bytes own))) Work temp name (held_to Work temp) (comes_to _ j (Ok tt) (So (Next (placed temp bytes own))) refl)
      (comes_to _ j (Err (fault.Meddled Work temp)) (So (Next (placed temp bytes own))) (refl, made_gone (name_gone (inr (inr (inr (name, refl)))) met)))
    where
      met : HasMet Work temp (set_aside temp bytes own)
      met = still (aside_leaves name (original_of name) temp (no_temp run h.next name temp ok kind)) (still (sync_leaves temp) (last (inl (bytes, refl))))

  abbrev Any : Outcome Unit
  Any later j u = Unit {0}

  synced_comes : (own : List Deed) (j : Hand) (temp bytes : List ℕ) → Comes (placed temp bytes own) j (synced Work name) (So Any)
  unfolding synced
  synced_comes own j temp bytes = comes_sync_folder _ j of_stop (So Any) Work (held_to Work name) (comes_to _ j (Ok tt) (So Any) tt) (comes_to _ j (Err (fault.Meddled Work name)) (So Any) (refl, made_gone sync_gone))

  -- the message takes the draft's place
  pub set_comes : (own : List Deed) (bytes : List ℕ) → HasText (Some name) text own → (WasMade Work fresh_name own → ⊥) → Comes own h (set_in_place run name bytes) (So Any)
  unfolding set_in_place
  set_comes own bytes has unmade =
      comes_then own h (written run Work bytes) _ (So (Writes bytes own)) (So Any) (written_comes own bytes unmade)
      (λ later j temp q. at later (made temp bytes own) j _ (So Any) q.0
      (comes_then (made temp bytes own) j (renamed Work name (original_of name)) _ (So (Next (set_aside temp bytes own))) (So Any) (aside_comes own j temp bytes has)
      (λ next i u e. at next (set_aside temp bytes own) i _ (So Any) e
      (comes_then (set_aside temp bytes own) i (renamed Work temp name) _ (So (Next (placed temp bytes own))) (So Any) (moved_comes own i temp bytes q.1)
      (λ last_ k v t. at last_ (placed temp bytes own) k _ (So Any) t (synced_comes own k temp bytes)) (λ last_ k e_ t. t)))
      (λ next i e s. s)))
      (λ later j e q. q)
