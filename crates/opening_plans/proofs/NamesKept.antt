-- What a step leaves of the names that the run has met and put.
use Rattle.std.proofs.Common.{◌≡◌, ◌≢◌, ◌∷◌, ℕ, List, inl, inr, refl, sym, subst}
use Rattle.folder_files.specs.Deeds.{Deed, did, last, still}
use Rattle.folder_files.specs.declared.place.Place.{Place}
use Rattle.folder_files.specs.declared.place.Place.TheVariants.{Folder, Mail}
use Rattle.folder_files.specs.declared.step.Answer.{Answer}
use Rattle.folder_files.specs.declared.step.Answer.TheVariants as answer
use Rattle.folder_files.specs.declared.step.Step.{Step}
use Rattle.folder_files.specs.declared.step.Step.TheVariants as step
use Rattle.file_plans.specs.Framing.{AsksOnly}
use Rattle.step_plans.specs.ContextCommit.{commit_context, context_name}
use Rattle.step_plans.specs.Endings.{HasMet, IsTakenAway}
use Rattle.step_plans.specs.declared.change.ChangeEntry.{ChangeEntry}
use Rattle.step_plans.proofs.Asks.{Commits, asks_commit}
use Rattle.step_plans.proofs.Lasting.{KeptBy}
use Rattle.step_plans.proofs.Past.{did_answer, did_step}
use Rattle.opening_plans.specs.Endings.{HasMetIn, IsLastName, PutsBackups, PutsName}

-- steps that may put a name into this place
abbrev pub IsPutting : Place → Step → Type 0
IsPutting p (step.List q) = ⊥
IsPutting p (step.Read q n limit) = ⊥
IsPutting p (step.MakeFolder q) = ⊥
IsPutting p (step.Create q n b) = q ≡ p
IsPutting p (step.SyncFile q n) = ⊥
IsPutting p (step.SyncFolder q) = ⊥
IsPutting p (step.Link q a b) = q ≡ p
IsPutting p (step.Rename q a b) = q ≡ p
IsPutting p (step.Unlink q a) = ⊥
IsPutting p (step.Lock q) = ⊥
IsPutting p (step.Unlock q) = ⊥
IsPutting p (step.ReadFile f limit) = ⊥
IsPutting p (step.ReadDrop f from most) = ⊥
IsPutting p (step.CutDrop f length_) = ⊥

-- steps that may take one away
abbrev pub IsTaking : Place → Step → Type 0
IsTaking p (step.List q) = ⊥
IsTaking p (step.Read q n limit) = ⊥
IsTaking p (step.MakeFolder q) = ⊥
IsTaking p (step.Create q n b) = ⊥
IsTaking p (step.SyncFile q n) = ⊥
IsTaking p (step.SyncFolder q) = ⊥
IsTaking p (step.Link q a b) = ⊥
IsTaking p (step.Rename q a b) = q ≡ p
IsTaking p (step.Unlink q a) = q ≡ p
IsTaking p (step.Lock q) = ⊥
IsTaking p (step.Unlock q) = ⊥
IsTaking p (step.ReadFile f limit) = ⊥
IsTaking p (step.ReadDrop f from most) = ⊥
IsTaking p (step.CutDrop f length_) = ⊥

pub putting : (p : Place) (y : List ℕ) (s : Step) (a : Answer) → PutsName p y (did s a) → IsPutting p s
putting p y s a (inl w) = subst (IsPutting p) (sym (did_step w.1)) refl
putting p y s a (inr (inl w)) = subst (IsPutting p) (sym (did_step w.1)) refl
putting p y s a (inr (inr w)) = subst (IsPutting p) (sym (did_step w.1)) refl

pub taking : (p : Place) (x : List ℕ) (s : Step) (a : Answer) → IsTakenAway p x (did s a) → IsTaking p s
taking p x s a (inl e) = subst (IsTaking p) (sym (did_step e)) refl
taking p x s a (inr w) = subst (IsTaking p) (sym (did_step w.1)) refl

-- what was not Done put nothing
pub undone_puts : (p : Place) (y : List ℕ) (s : Step) (a : Answer) → a ≢ answer.Done → PutsName p y (did s a) → ⊥
undone_puts p y s a never (inl w) = never (did_answer w.1)
undone_puts p y s a never (inr (inl w)) = never (did_answer w.1)
undone_puts p y s a never (inr (inr w)) = never (did_answer w.1)

-- a step that takes nothing away here
pub met_kept : (p : Place) (x : List ℕ) (s : Step) (a : Answer) (own : List Deed) → (IsTaking p s → ⊥) → HasMet p x own → HasMet p x (did s a ∷ own)
met_kept p x s a own never f = still (λ t. never (taking p x s a t)) f

pub met_in_kept : (p : Place) (x : List ℕ) (s : Step) (a : Answer) (own : List Deed) → (IsTaking p s → ⊥) → HasMetIn p x own → HasMetIn p x (did s a ∷ own)
met_in_kept p x s a own never f = still (λ t. never (taking p x s a t)) f

pub last_kept : (p : Place) (x : List ℕ) (s : Step) (a : Answer) (own : List Deed) → ((y : List ℕ) → PutsName p y (did s a) → ⊥) → IsLastName p x own → IsLastName p x (did s a ∷ own)
last_kept p x s a own never f = still (λ w. never w.0 w.1) f

pub backups_kept : (p : Place) (s : Step) (a : Answer) (own : List Deed) → ((y : List ℕ) → PutsName p y (did s a) → ⊥) → PutsBackups p own → PutsBackups p (did s a ∷ own)
backups_kept p s a own never f = still (λ w. never w.0 w.1) f

-- what a run met in its listing it met
pub met_in : (p : Place) (x : List ℕ) (own : List Deed) → HasMet p x own → HasMetIn p x own
met_in p x _ (last f) = last (inl f)
met_in p x _ (still {own = older} off f) = still off (met_in p x older f)

-- an unlink of another name
pub other_unlinked : (p : Place) (n x : List ℕ) (a : Answer) → (n ≡ x → ⊥) → IsTakenAway p x (did (step.Unlink p n) a) → ⊥
other_unlinked p n x a never (inl e) = never (let same : step.Unlink p n ≡ step.Unlink p x = did_step e in cc)
other_unlinked p n x a never (inr w) = let same : step.Unlink p n ≡ step.Rename p x w.0 = did_step w.1 in cc

-- and a rename of another name
pub other_renamed : (p : Place) (n to x : List ℕ) (a : Answer) → (n ≡ x → ⊥) → IsTakenAway p x (did (step.Rename p n to) a) → ⊥
other_renamed p n to x a never (inl e) = let same : step.Rename p n to ≡ step.Unlink p x = did_step e in cc
other_renamed p n to x a never (inr w) = never (let same : step.Rename p n to ≡ step.Rename p x w.0 = did_step w.1 in cc)

-- steps that neither put nor take a name in this place
abbrev pub LeavesNames : Place → Step → Type 0
LeavesNames p s = (IsPutting p s → ⊥) × (IsTaking p s → ⊥)

-- such are the steps of a commit of the context, for a folder
pub context_leaves : (run : ℕ) (path folder : List ℕ) (cs : List ChangeEntry) → AsksOnly (LeavesNames (Folder path folder)) (commit_context run (Mail path) cs)
context_leaves run path folder cs = asks_commit (LeavesNames (Folder path folder)) run (Mail path) cs commits
  where
    commits : Commits (LeavesNames (Folder path folder)) (Mail path) context_name
    commits = record {
      make = (λ e. e, λ e. e);
      lock = (λ e. e, λ e. e);
      list = (λ e. e, λ e. e);
      clear = λ temp is. (λ e. e, λ e. cc (e));
      read = (λ e. e, λ e. e);
      create = λ temp bytes. (λ e. cc (e), λ e. e);
      sync_file = λ temp. (λ e. e, λ e. e);
      rename = λ temp. (λ e. cc (e), λ e. cc (e));
      sync = (λ e. e, λ e. e);
      unlock = (λ e. e, λ e. e);
    }

pub names_met_kept : (p : Place) (x : List ℕ) → KeptBy (LeavesNames p) (HasMetIn p x)
names_met_kept p x own s a leaves f = met_in_kept p x s a own leaves.1 f

pub names_safe_kept : (p : Place) → KeptBy (LeavesNames p) (PutsBackups p)
names_safe_kept p own s a leaves f = backups_kept p s a own (λ y w. leaves.0 (putting p y s a w)) f
