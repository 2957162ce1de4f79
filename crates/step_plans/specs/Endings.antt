-- What shows how a commit of the context ended: the run's own deeds, the newest first.
use Rattle.std.specs.Prelude.{◌≡◌, ◌⊎◌, ◌++◌, ◌^◌, ℕ, true, false, nat_lt, List, [], ◌∷◌, length, replicate}
use Rattle.mh_profile.specs.declared.named_value.NamedValue.{NamedValue}
use Rattle.mh_profile.specs.Printing.{printed}
use Rattle.mh_profile.specs.Reading.{entries_in}
use Rattle.folder_files.specs.Careful.{WasMade}
use Rattle.folder_files.specs.Deeds.{Deed, did, Once, Since, WasDone}
use Rattle.folder_files.specs.Steps.{IsAscending, has_text}
use Rattle.folder_files.specs.declared.place.Place.{Place}
use Rattle.folder_files.specs.declared.step.Step.{Step}
use Rattle.folder_files.specs.declared.step.Step.TheVariants as step
use Rattle.folder_files.specs.declared.step.Answer.{Answer}
use Rattle.folder_files.specs.declared.step.Answer.TheVariants.{Done, Names, Content, Long, Gone, Exists, Busy}
use Rattle.file_plans.specs.Plan.{Hand}
use Rattle.step_plans.specs.declared.change.ChangeEntry.{ChangeEntry}
use Rattle.step_plans.specs.declared.fault.PlanFault.{PlanFault}
use Rattle.step_plans.specs.declared.fault.PlanFault.TheVariants as fault
use Rattle.step_plans.specs.ContextCommit.{context_name, LIMIT_BYTES, TRIES, changed}
use Rattle.step_plans.specs.Hands.{temp_name}
use Rattle.step_plans.specs.Locking.{lock_name}

-- another run held the place's lock in each of so many tries, and these are the newest steps
pub record IsHeld (p : Place) (tries : ℕ) (own : List Deed) : Type 0 where
  pub older : List Deed
  pub is : own ≡ replicate tries (did (step.Lock p) Busy) ++ older

-- the step is one on the file of this name
abbrev pub IsOn : Place → List ℕ → Step → Type 0
IsOn p x s =
    ((limit : ℕ) × (s ≡ step.Read p x limit)) ⊎ (s ≡ step.SyncFile p x) ⊎ (s ≡ step.Unlink p x)
    ⊎ ((to : List ℕ) × (s ≡ step.Rename p x to))

-- the run made the name, or saw it in a listing
abbrev pub IsMet : Place → List ℕ → Deed → Type 0
IsMet p x d =
    ((bytes : List ℕ) × (d ≡ did (step.Create p x bytes) Done))
    ⊎ ((names : List (List ℕ)) × (d ≡ did (step.List p) (Names names)) × (has_text x names ≡ true))

-- the run took the name away
abbrev pub IsTakenAway : Place → List ℕ → Deed → Type 0
IsTakenAway p x d = (d ≡ did (step.Unlink p x) Done) ⊎ ((to : List ℕ) × (d ≡ did (step.Rename p x to) Done))

-- the run made the name or saw it in a listing, and no own step has taken it away since
abbrev pub HasMet : Place → List ℕ → List Deed → Type 0
HasMet p x own = Since (λ d older. IsMet p x d) (IsTakenAway p x) own

-- the name was in a listing of the run, and, where that listing is in order, so that no name stands twice in it, no own
-- step has taken the name away since
pub record WasListed (p : Place) (x : List ℕ) (own : List Deed) : Type 0 where
  pub names : List (List ℕ)
  pub listing : Once (λ d older. d ≡ did (step.List p) (Names names)) own
  pub among : has_text x names ≡ true
  pub since : IsAscending names → HasMet p x own

-- the newest step shows that others took away this name, which the run had made or listed, or made its fresh name; or
-- that they took away the directory, which it had made or locked
pub data IsMeddled (run : ℕ) (p : Place) (x : List ℕ) : List Deed → Type 0 where
  -- a name that the run made or listed is gone
  name_gone : {s : Step} {older : List Deed} → IsOn p x s → HasMet p x older → IsMeddled run p x (did s Gone ∷ older)
  -- a name that it listed is gone as it clears temporary names
  temp_gone : {older : List Deed} → WasListed p x older → IsMeddled run p x (did (step.Unlink p x) Gone ∷ older)
  -- its fresh name, in a directory that it had locked, is taken, or the directory is gone
  name_taken : {bytes : List ℕ} {a : Answer} {older : List Deed} → (k : ℕ) → x ≡ temp_name run k
      → (WasMade p x older → ⊥) → WasDone (step.Lock p) older → (a ≡ Exists) ⊎ (a ≡ Gone)
      → IsMeddled run p x (did (step.Create p x bytes) a ∷ older)
  -- the directory is gone, though the run had made it or found it made
  lock_gone : {older : List Deed} → x ≡ lock_name → Once (λ d before. d.step ≡ step.MakeFolder p) older
      → IsMeddled run p x (did (step.Lock p) Gone ∷ older)
  -- the directory is gone, though the run had locked it
  list_gone : {older : List Deed} → x ≡ lock_name → WasDone (step.Lock p) older
      → IsMeddled run p x (did (step.List p) Gone ∷ older)
  -- the directory is gone as the run makes safe the name that it last made there
  sync_gone : {temp : List ℕ} {older : List Deed}
      → IsMeddled run p x (did (step.SyncFolder p) Gone ∷ (did (step.Rename p temp x) Done ∷ older))

-- the newest step read this name, and the answer was that the file is too long, with this length
abbrev pub IsLongRead : Place → List ℕ → ℕ → List Deed → Type 0
IsLongRead p x l own = (older : List Deed) × (own ≡ did (step.Read p x LIMIT_BYTES) (Long l) ∷ older)

-- the newest step read the context, which has these entries
pub data HasRead (p : Place) : List NamedValue → List Deed → Type 0 where
  entries : {bytes : List ℕ} {older : List Deed}
      → HasRead p (entries_in bytes) (did (step.Read p context_name LIMIT_BYTES) (Content bytes) ∷ older)
  none : {older : List Deed} → HasRead p [] (did (step.Read p context_name LIMIT_BYTES) Gone ∷ older)

-- the text that the changes make of the context's entries, as they were just read, has this length, and it is above the
-- limit
pub record IsLongText (p : Place) (cs : List ChangeEntry) (l : ℕ) (own : List Deed) : Type 0 where
  pub entries : List NamedValue
  pub read : HasRead p entries own
  pub is : l ≡ length (printed (changed cs entries))
  pub above : nat_lt LIMIT_BYTES l ≡ true

-- what shows each fault that a commit of the context returns, where a run of this number begins it with this hand. The
-- plan returns want of memory only where the run has no number left for a name.
abbrev pub ShowsPlanFault : ℕ → Place → List ChangeEntry → Hand → PlanFault → List Deed → Type 0
ShowsPlanFault run p cs h fault.Faulted own = ⊥
ShowsPlanFault run p cs h (fault.Locked q) own = (q ≡ p) × IsHeld p TRIES own
ShowsPlanFault run p cs h (fault.Meddled q x) own = (q ≡ p) × IsMeddled run p x own
ShowsPlanFault run p cs h fault.Full own = ⊥
ShowsPlanFault run p cs h (fault.Absent q) own = ⊥
ShowsPlanFault run p cs h (fault.TooLarge l) own = IsLongRead p context_name l own ⊎ IsLongText p cs l own
ShowsPlanFault run p cs h fault.Memory own = nat_lt h.next (2 ^ 64) ≡ false
