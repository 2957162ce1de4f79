-- The moves of a message go as their command pledges: each step is careful under the folder's lock, and these are the deeds of each part.
use Rattle.std.proofs.Common.{◌≡◌, ◌<◌, ◌^◌, ◌∷◌, ℕ, Bool, true, false, List, Ok, refl}
use Rattle.mh_base.specs.Entries.{entry_text, kind_of}
use Rattle.mh_base.specs.Numbers.{IsMsgNum}
use Rattle.mh_base.specs.declared.entry.Entry.TheVariants.{Held, Number}
use Rattle.mh_base.proofs.EntryKinds.{kind_of-entry_text}
use Rattle.folder_files.specs.Careful.{Discards, HasLock, MayDiscard, Takes, discards, takes}
use Rattle.folder_files.specs.Commands.{MakesStep}
use Rattle.folder_files.specs.Deeds.{Deed, WasDone, did}
use Rattle.folder_files.specs.Named.{is_committed, is_held_of, is_taking}
use Rattle.folder_files.specs.Places.{is_folder}
use Rattle.folder_files.specs.Standing.{is_standing}
use Rattle.folder_files.specs.declared.place.Place.{Place}
use Rattle.folder_files.specs.declared.step.Answer.TheVariants as answer
use Rattle.folder_files.specs.declared.step.Step.{Step}
use Rattle.folder_files.specs.declared.step.Step.TheVariants as step
use Rattle.folder_files.proofs.Names.{held_stands, is_committed_quiet, is_held_any, is_taking_held, not_both, num_itself}
use Rattle.file_plans.specs.Plan.{Hand, Return}
use Rattle.file_plans.specs.StaysCareful.{careful}
use Rattle.step_plans.specs.ContextCommit.{LIMIT_BYTES}
use Rattle.step_plans.specs.Locking.{removed}
use Rattle.step_plans.specs.PlanFaults.{of_stop}
use Rattle.step_plans.specs.Pledges.{Pledge}
use Rattle.step_plans.specs.Replacing.{held_to, renamed, synced}
use Rattle.step_plans.specs.declared.fault.PlanFault.TheVariants as fault
use Rattle.step_plans.proofs.Going.{Goes, Outcome, goes_then, okay}
use Rattle.step_plans.proofs.Pledged.{synced_goes}
use Rattle.step_plans.proofs.Stepping.{goes_end, goes_read, goes_rename, goes_return, goes_unlink}
use Rattle.step_plans.proofs.Written.{Adds, goes_at, lock_held}
use Rattle.message_moves.specs.Moving.{content_by, content_read, held_discarded, number_taken}

-- the step by which the message of this number is held aside
abbrev pub taking : ℕ → Place → ℕ → Step
taking run p n = step.Rename p (entry_text (Number n)) (entry_text (Held run n))

-- the pledge lets the message of this number be taken after these deeds
pub record LetsTake (w : Pledge) (p : Place) (n : ℕ) (own : List Deed) : Type 0 where
  pub makes : MakesStep w.manner own Takes (taking w.run p n)
  pub may : w.may_step own (taking w.run p n)

-- and what is held under this name be discarded
pub record LetsDiscard (w : Pledge) (p : Place) (held : List ℕ) (own : List Deed) : Type 0 where
  pub makes : MakesStep w.manner own Discards (step.Unlink p held)
  pub may : w.may_step own (step.Unlink p held)

-- the deeds of each part: the message was taken; it was read under this name; its held name was taken away, and the folder made safe
abbrev pub after_take : ℕ → Place → ℕ → List Deed → List Deed
after_take run p n own = did (taking run p n) answer.Done ∷ own

abbrev pub after_content : Place → List ℕ → List ℕ → List Deed → List Deed
after_content p name bytes own = did (step.Read p name LIMIT_BYTES) (answer.Content bytes) ∷ own

abbrev pub after_discard : Place → List ℕ → List Deed → List Deed
after_discard p held own = did (step.SyncFolder p) answer.Done ∷ (did (step.Unlink p held) answer.Done ∷ own)

-- what holds where each part is Ok
abbrev pub HasTaken : ℕ → Place → ℕ → List Deed → Outcome (List ℕ)
HasTaken run p n own later j held = (later ≡ after_take run p n own) × (held ≡ entry_text (Held run n))

abbrev pub HasContent : Place → List ℕ → List Deed → Outcome (List ℕ)
HasContent p name own later j bytes = later ≡ after_content p name bytes own

abbrev pub HasDiscarded : Place → List ℕ → List Deed → Outcome Unit
HasDiscarded p held own later j u = later ≡ after_discard p held own

-- the run's held name of a number is one by which it takes that number
module _ (run : ℕ) (few : run < 2 ^ 128) (n : ℕ) (ok : IsMsgNum n) where
  pub is_taken_so : is_taking run (kind_of (entry_text (Number n))) (kind_of (entry_text (Held run n))) ≡ true
  is_taken_so = rw (kind_of-entry_text (Number n) ok, kind_of-entry_text (Held run n) (few, ok)) (rw (num_itself run, num_itself n) refl)

  pub is_held_so : is_held_of run (kind_of (entry_text (Held run n))) ≡ true
  is_held_so = is_taking_held run (entry_text (Number n)) (entry_text (Held run n)) is_taken_so

  held_standing : is_standing (entry_text (Held run n)) ≡ true
  held_standing = held_stands (entry_text (Held run n)) (is_held_any run (entry_text (Held run n)) is_held_so)

  -- it is none that a commit writes anew
  pub held_uncommitted : (p : Place) → is_committed p (entry_text (Held run n)) ≡ false
  held_uncommitted p = go (is_committed p (entry_text (Held run n))) refl
    where
      go : (v : Bool) → is_committed p (entry_text (Held run n)) ≡ v → v ≡ false
      go true e = absurd (not_both (is_standing (entry_text (Held run n))) held_standing (is_committed_quiet p (entry_text (Held run n)) e))
      go false e = refl

module _ (w : Pledge) (few : w.run < 2 ^ 128) (p : Place) (folder : is_folder p ≡ true) where
  -- a message is taken under the folder's lock, where the run hasn't taken that number there
  pub take_goes : (n : ℕ) → IsMsgNum n → (own : List Deed) (h : Hand) → LetsTake w p n own → (WasDone (taking w.run p n) own → ⊥) → HasLock p own → Goes w own h (number_taken w.run p n) (okay (HasTaken w.run p n own))
  unfolding number_taken renamed
  take_goes n ok own h lets fresh lock =
      goes_then w own h (renamed p number held) (λ moved. Return (Ok held)) (Adds own (did (taking w.run p n) answer.Done)) (HasTaken w.run p n own)
      (goes_rename w own h of_stop (okay (Adds own (did (taking w.run p n) answer.Done))) p number held (held_to p number)
      (λ s. (
        record {
          is_own = careful s.unfailed Takes (takes p number held (folder, is_taken_so w.run few n ok, fresh)) lets.makes (lock_held p own lock);
          marks = λ e. absurd (not_both (is_committed p held) e (held_uncommitted w.run few n ok p));
          steps = λ no. lets.may;
        },
        tt,
      ))
      (goes_return w _ h tt (okay (Adds own (did (taking w.run p n) answer.Done))) refl)
      (goes_end w _ h (fault.Meddled p number) (Adds own (did (taking w.run p n) answer.Done))))
      (λ later j u e. goes_return w later j held (okay (HasTaken w.run p n own)) (e, refl))
    where
      number : List ℕ
      number = entry_text (Number n)

      held : List ℕ
      held = entry_text (Held w.run n)

  -- what is held aside is let go under the folder's lock, where the run may discard it
  pub discard_goes : (held : List ℕ) → is_held_of w.run (kind_of held) ≡ true → (own : List Deed) (h : Hand) → LetsDiscard w p held own → MayDiscard w.run p held own → HasLock p own → Goes w own h (held_discarded p held) (okay (HasDiscarded p held own))
  unfolding held_discarded removed
  discard_goes held is own h lets may lock =
      goes_then w own h (removed p held) (λ gone. synced p held) (Adds own unlinked) (HasDiscarded p held own)
      (goes_unlink w own h of_stop (okay (Adds own unlinked)) p held (held_to p held)
      (λ s. (record { is_own = careful s.unfailed Discards (discards p held (folder, is, may)) lets.makes (lock_held p own lock); marks = tt; steps = λ no. lets.may }, tt))
      (goes_return w _ h tt (okay (Adds own unlinked)) refl)
      (goes_end w _ h (fault.Meddled p held) (Adds own unlinked)))
      (λ later j u e. goes_at w later (unlinked ∷ own) j (synced p held) (okay (HasDiscarded p held own)) e (synced_goes w (unlinked ∷ own) j p held))
    where
      unlinked : Deed
      unlinked = did (step.Unlink p held) answer.Done

-- a reading needs no leave
pub content_goes : (w : Pledge) (p : Place) (name : List ℕ) (own : List Deed) (h : Hand) → Goes w own h (content_read p name) (okay (HasContent p name own))
unfolding content_read
content_goes w p name own h =
    goes_read w own h of_stop (okay (HasContent p name own)) p name LIMIT_BYTES (content_by p name)
    (λ bytes. goes_return w _ h bytes (okay (HasContent p name own)) refl)
    (λ l. goes_end w _ h (fault.TooLarge l) (HasContent p name own))
    (goes_end w _ h (fault.Meddled p name) (HasContent p name own))
