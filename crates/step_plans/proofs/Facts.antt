-- Which steps leave which facts of the own deeds as they are.
use Rattle.std.proofs.Common.{◌≡◌, ◌≢◌, ◌<◌, inl, inr, ◌∷◌, [], ℕ, false, List, refl, sym, ◌∙◌, ap, subst, arith}
use Rattle.mh_base.specs.Entries.{kind_of}
use Rattle.mh_base.specs.declared.entry.Entry.TheVariants.{Temp}
use Rattle.folder_files.specs.Careful.{Kind, WasMade, HasLock, HasBase, IsKnown}
use Rattle.folder_files.specs.Commands.{Manner, Looking, Noting, Marking, Incorporating, Refiling, Linking, Removing, Sorting, Annotating, Storing, Composing, KeepsContext, MakesStep}
use Rattle.folder_files.specs.Deeds.{Deed, did, Once, now, on, last, still}
use Rattle.folder_files.specs.Named.{is_committed}
use Rattle.folder_files.specs.declared.place.Place.{Place}
use Rattle.folder_files.specs.declared.step.Step.{Step}
use Rattle.folder_files.specs.declared.step.Step.TheVariants as step
use Rattle.folder_files.specs.declared.step.Answer.{Answer}
use Rattle.folder_files.specs.declared.step.Answer.TheVariants.{Done}
use Rattle.folder_files.proofs.Names.{not_both}
use Rattle.step_plans.proofs.Past.{did_step}
use Rattle.step_plans.specs.Commits.{IsBase, found, missing, committed, on}
use Rattle.step_plans.proofs.Ruling.{IsNumbered, AreNumbered}
use Rattle.step_plans.specs.Settled.{IsCommit, AreSettled}
use Rattle.step_plans.proofs.Lasting.{KeptBy}

-- a command of this manner keeps the context of this mail directory
abbrev pub KeepsMail : Manner → List ℕ → Type 0
KeepsMail Looking path = ⊥
KeepsMail (Noting mail) path = mail ≡ path
KeepsMail (Marking mail folder) path = mail ≡ path
KeepsMail (Incorporating mail folder drop) path = mail ≡ path
KeepsMail (Refiling mail source chosen targets) path = mail ≡ path
KeepsMail (Linking mail source chosen targets) path = mail ≡ path
KeepsMail (Removing mail folder chosen) path = mail ≡ path
KeepsMail (Sorting mail folder chosen) path = mail ≡ path
KeepsMail (Annotating mail folder chosen lines) path = mail ≡ path
KeepsMail (Storing mail) path = mail ≡ path
KeepsMail Composing path = ⊥

at_mail : (mail path : List ℕ) (kind : Kind) (s : Step) → mail ≡ path → KeepsContext path kind s → KeepsContext mail kind s
at_mail mail path kind s e k = subst (λ z. KeepsContext z kind s) (sym e) k

pub keeps_context : (m : Manner) (path : List ℕ) (own : List Deed) (kind : Kind) (s : Step) → KeepsMail m path → KeepsContext path kind s → MakesStep m own kind s
keeps_context Looking path own kind s e k = absurd e
keeps_context (Noting mail) path own kind s e k = at_mail mail path kind s e k
keeps_context (Marking mail folder) path own kind s e k = inr (at_mail mail path kind s e k)
keeps_context (Incorporating mail folder drop) path own kind s e k = inl (inr (at_mail mail path kind s e k))
keeps_context (Refiling mail source chosen targets) path own kind s e k = inl (inr (at_mail mail path kind s e k))
keeps_context (Linking mail source chosen targets) path own kind s e k = inl (inr (at_mail mail path kind s e k))
keeps_context (Removing mail folder chosen) path own kind s e k = inl (inr (at_mail mail path kind s e k))
keeps_context (Sorting mail folder chosen) path own kind s e k = inl (inr (at_mail mail path kind s e k))
keeps_context (Annotating mail folder chosen lines) path own kind s e k = inl (inr (at_mail mail path kind s e k))
keeps_context (Storing mail) path own kind s e k = inl (at_mail mail path kind s e k)
keeps_context Composing path own kind s e k = absurd e

-- a name with a new number was never made
number_of_temp : (run k n : ℕ) → Temp run k ≡ Temp run n → k ≡ n
number_of_temp run k n e = cc

not_below_itself : (k n : ℕ) → k ≡ n → k < n → ⊥
not_below_itself k n e lt = omega (arith, e, lt)

numbered_at : (run n : ℕ) (s t : Step) → s ≡ t → IsNumbered run n s → IsNumbered run n t
numbered_at run n s t e f = subst (λ z. IsNumbered run n z) e f

pub never_made : (run n : ℕ) (p : Place) (temp : List ℕ) (own : List Deed) → kind_of temp ≡ Temp run n → AreNumbered run n own → WasMade p temp own → ⊥
never_made run n p temp [] kind f w = elim w [ ]
never_made run n p temp (d ∷ own) kind f (now w) =
    let k = numbered_at run n d.step (step.Create p temp w.0) (ap (λ x. x.step) w.1) f.0 in not_below_itself k.0 n (number_of_temp run k.0 n (sym k.1 ∙ kind)) k.2
never_made run n p temp (d ∷ own) kind f (on z) = never_made run n p temp own kind f.1 z

-- what happened once stays so
pub once_kept : (P : Deed → List Deed → Type 0) (Any : Step → Type 0) → KeptBy Any (Once P)
once_kept P Any own s a leaves w = on w

pub both_kept : (P : Step → Type 0) (F G : List Deed → Type 0) → KeptBy P F → KeptBy P G → KeptBy P (λ own. F own × G own)
both_kept P F G f g own s a leaves w = (f own s a leaves w.0, g own s a leaves w.1)

-- a step that doesn't let this lock go
abbrev pub LeavesLock : Place → Step → Type 0
LeavesLock p (step.List q) = Unit {0}
LeavesLock p (step.Read q n limit) = Unit {0}
LeavesLock p (step.MakeFolder q) = Unit {0}
LeavesLock p (step.Create q n b) = Unit {0}
LeavesLock p (step.SyncFile q n) = Unit {0}
LeavesLock p (step.SyncFolder q) = Unit {0}
LeavesLock p (step.Link q a b) = Unit {0}
LeavesLock p (step.Rename q a b) = Unit {0}
LeavesLock p (step.Unlink q a) = Unit {0}
LeavesLock p (step.Lock q) = Unit {0}
LeavesLock p (step.Unlock q) = q ≢ p
LeavesLock p (step.ReadFile f limit) = Unit {0}
LeavesLock p (step.ReadDrop f from most) = Unit {0}
LeavesLock p (step.CutDrop f length_) = Unit {0}

no_unlock : (p : Place) (s : Step) → LeavesLock p s → s ≡ step.Unlock p → ⊥
no_unlock p s f e = (subst (λ z. LeavesLock p z) e f) refl

pub lock_kept : (p : Place) → KeptBy (LeavesLock p) (HasLock p)
lock_kept p own s a leaves w = still (no_unlock p s leaves) w

-- nor looks at the name or writes it anew
abbrev pub LeavesBase : Place → List ℕ → Step → Type 0
LeavesBase p name (step.List q) = Unit {0}
LeavesBase p name (step.Read q n limit) = q ≡ p → n ≡ name → ⊥
LeavesBase p name (step.MakeFolder q) = Unit {0}
LeavesBase p name (step.Create q n b) = Unit {0}
LeavesBase p name (step.SyncFile q n) = Unit {0}
LeavesBase p name (step.SyncFolder q) = Unit {0}
LeavesBase p name (step.Link q a b) = Unit {0}
LeavesBase p name (step.Rename q a b) = q ≡ p → b ≡ name → ⊥
LeavesBase p name (step.Unlink q a) = Unit {0}
LeavesBase p name (step.Lock q) = Unit {0}
LeavesBase p name (step.Unlock q) = q ≢ p
LeavesBase p name (step.ReadFile f limit) = Unit {0}
LeavesBase p name (step.ReadDrop f from most) = Unit {0}
LeavesBase p name (step.CutDrop f length_) = Unit {0}

base_unlock : (p : Place) (name : List ℕ) (s : Step) → LeavesBase p name s → s ≡ step.Unlock p → ⊥
base_unlock p name s f e = (subst (λ z. LeavesBase p name z) e f) refl

base_unread : (p : Place) (name : List ℕ) (limit : ℕ) (s : Step) → LeavesBase p name s → s ≡ step.Read p name limit → ⊥
base_unread p name limit s f e = (subst (λ z. LeavesBase p name z) e f) refl refl

base_unmoved : (p : Place) (temp name : List ℕ) (s : Step) → LeavesBase p name s → s ≡ step.Rename p temp name → ⊥
base_unmoved p temp name s f e = (subst (λ z. LeavesBase p name z) e f) refl refl

unknown : (run : ℕ) (p : Place) (name : List ℕ) (s : Step) (a : Answer) → LeavesBase p name s → IsKnown run p name (did s a) → ⊥
unknown run p name s a f (inl w) = base_unread p name w.1.0 s f (did_step w.1.1)
unknown run p name s a f (inr (inl w)) = base_unread p name w.0 s f (did_step w.1)
unknown run p name s a f (inr (inr w)) = base_unmoved p w.0 name s f (did_step w.1)

pub base_kept : (run : ℕ) (p : Place) (name text : List ℕ) → KeptBy (LeavesBase p name) (IsBase run p name text)
base_kept run p name text own s a leaves w = on (base_unlock p name s leaves) (unknown run p name s a leaves) w

-- where the base is known, so is the name
pub base_known : (run : ℕ) (p : Place) (name text : List ℕ) (own : List Deed) → IsBase run p name text own → HasBase run p name own
base_known run p name text _ (found {text = read} is lock) = last (inl (read, is), lock)
base_known run p name text _ (missing {limit = limit} is lock) = last (inr (inl (limit, is)), lock)
base_known run p name text _ (committed {temp = temp} is own_ made lock) = last (inr (inr (temp, is, own_)), lock)
base_known run p name text _ (on {older = older} off unknown_ w) = still off (base_known run p name text older w)

-- a step that commits nothing
abbrev pub LeavesSettled : Step → Type 0
LeavesSettled (step.List q) = Unit {0}
LeavesSettled (step.Read q n limit) = Unit {0}
LeavesSettled (step.MakeFolder q) = Unit {0}
LeavesSettled (step.Create q n b) = Unit {0}
LeavesSettled (step.SyncFile q n) = Unit {0}
LeavesSettled (step.SyncFolder q) = Unit {0}
LeavesSettled (step.Link q a b) = Unit {0}
LeavesSettled (step.Rename q a b) = is_committed q b ≡ false
LeavesSettled (step.Unlink q a) = Unit {0}
LeavesSettled (step.Lock q) = Unit {0}
LeavesSettled (step.Unlock q) = Unit {0}
LeavesSettled (step.ReadFile f limit) = Unit {0}
LeavesSettled (step.ReadDrop f from most) = Unit {0}
LeavesSettled (step.CutDrop f length_) = Unit {0}

no_commit : (p : Place) (s : Step) (a : Answer) → LeavesSettled s → IsCommit p (did s a) → ⊥
no_commit p s a f w = not_both (is_committed p w.1) w.3 (subst (λ z. LeavesSettled z) (did_step w.2) f)

pub settled_kept : KeptBy LeavesSettled AreSettled
settled_kept own s a leaves f p (last c) = no_commit p s a leaves c
settled_kept own s a leaves f p (still off w) = f p w

same_place : (p q : Place) (temp name t n : List ℕ) → step.Rename p temp name ≡ step.Rename q t n → p ≡ q
same_place p q temp name t n e = cc

synced_now : (p q : Place) → p ≡ q → did (step.SyncFolder p) Done ≡ did (step.SyncFolder q) Done
synced_now p q e = ap (λ z. did (step.SyncFolder z) Done) e

-- a commit that is synced at once
pub commit_settled : (p : Place) (temp name : List ℕ) (own : List Deed) → AreSettled own → AreSettled (did (step.SyncFolder p) Done ∷ (did (step.Rename p temp name) Done ∷ own))
commit_settled p temp name own f q (last c) = no_commit q (step.SyncFolder p) Done tt c
commit_settled p temp name own f q (still off (last c)) = off (synced_now p q (same_place p q temp name c.0 c.1 (did_step c.2)))
commit_settled p temp name own f q (still off (still off_ w)) = f q w

pub none_settled : AreSettled []
none_settled p w = elim w [ ]
