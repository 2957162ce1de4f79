-- What steps leave of what a run sees of a folder.
use Rattle.std.proofs.Common.{◌≡◌, ◌≢◌, ◌⊎◌, inl, inr, ℕ, Bool, true, false, List, ◌∷◌, refl, ◌∙◌, ap, subst}
use Rattle.mh_base.specs.Entries.{kind_of}
use Rattle.folder_files.specs.Careful.{HasLock, IsCareful, changes, looks}
use Rattle.folder_files.specs.Commands.{Manner}
use Rattle.folder_files.specs.Deeds.{Deed, Once, WasDone, did, now, on, still}
use Rattle.folder_files.specs.Named.{is_committed, is_held, is_number, is_temp, is_temp_of}
use Rattle.folder_files.specs.Standing.{is_standing}
use Rattle.folder_files.specs.Steps.{has_text}
use Rattle.folder_files.specs.declared.place.Place.{Place}
use Rattle.folder_files.specs.declared.step.Answer.{Answer}
use Rattle.folder_files.specs.declared.step.Answer.TheVariants as answer
use Rattle.folder_files.specs.declared.step.Step.{Step}
use Rattle.folder_files.specs.declared.step.Step.TheVariants as step
use Rattle.folder_files.proofs.Names.{is_committed_quiet, is_temp_any, is_temp_quiet, held_stands, not_both, number_stands}
use Rattle.file_plans.specs.StaysCareful.{IsOwnStep, careful, only_looks}
use Rattle.step_plans.specs.Pledges.{MayAsk, Pledge}
use Rattle.step_plans.proofs.Committing.{commit_of}
use Rattle.step_plans.proofs.Discipline.{careful_create, careful_rename}
use Rattle.step_plans.proofs.Past.{did_step}
use Rattle.marks_law.specs.Apart.{IsSteady, IsSynced}
use Rattle.marks_law.specs.Apart as apart
use Rattle.marks_law.specs.Bearers.{Marking}
use Rattle.marks_law.specs.Minding.{Sees, Touches}
use Rattle.marks_law.specs.Minding as minding

-- a step that leaves the numbers and held names of the place alone, and its lock: a new file takes the place of a committed one at most
abbrev pub Quiet : Place → Step → Type 0
Quiet p (step.List q) = Unit {0}
Quiet p (step.Read q n limit) = Unit {0}
Quiet p (step.MakeFolder q) = Unit {0}
Quiet p (step.Create q n b) = Unit {0}
Quiet p (step.SyncFile q n) = Unit {0}
Quiet p (step.SyncFolder q) = Unit {0}
Quiet p (step.Link q a b) = q ≢ p
Quiet p (step.Rename q a b) = q ≡ p → is_committed p b ≡ true
Quiet p (step.Unlink q a) = q ≡ p → is_temp (kind_of a) ≡ true
Quiet p (step.Lock q) = Unit {0}
Quiet p (step.Unlock q) = q ≢ p
Quiet p (step.ReadFile f limit) = Unit {0}
Quiet p (step.ReadDrop f from most) = Unit {0}
Quiet p (step.CutDrop f length_) = Unit {0}

own_is_careful : (run : ℕ) (m : Manner) (own : List Deed) (s : Step) → IsOwnStep run m own s → IsCareful run own s
own_is_careful run m own s (only_looks l) = looks l
own_is_careful run m own s (careful f kind k makes orderly) = changes f kind k

module _ (w : Pledge) where
  -- a careful step's new name is a temporary one
  pub created_temp : (own : List Deed) (q : Place) (temp bytes : List ℕ) → MayAsk w own (step.Create q temp bytes) → is_temp (kind_of temp) ≡ true
  created_temp own q temp bytes may = is_temp_any w.run temp (careful_create w.run own q temp bytes (own_is_careful w.run w.manner own (step.Create q temp bytes) may.is_own)).1.0

  module _ (p : Place) where
    quiet_unlock : (s : Step) → Quiet p s → s ≡ step.Unlock p → ⊥
    quiet_unlock s quiet e = (subst (λ z. Quiet p z) e quiet) refl

    -- a careful rename to a committed name is of a temporary one of the run
    pub renamed_own : (own : List Deed) (a b : List ℕ) → is_committed p b ≡ true → MayAsk w own (step.Rename p a b) → is_temp_of w.run (kind_of a) ≡ true
    renamed_own own a b committed may = (commit_of w.run own p a b committed (careful_rename w.run own p a b (own_is_careful w.run w.manner own (step.Rename p a b) may.is_own)).1).1.0

    renamed_temp : (own : List Deed) (a b : List ℕ) → is_committed p b ≡ true → MayAsk w own (step.Rename p a b) → is_temp (kind_of a) ≡ true
    renamed_temp own a b committed may = is_temp_any w.run a (renamed_own own a b committed may)

    quiet_touches : (own : List Deed) (s : Step) (z : List ℕ) → MayAsk w own s → Quiet p s → is_standing z ≡ true → Touches p z s → ⊥
    quiet_touches own (step.List q) z may quiet stands t = t
    quiet_touches own (step.Read q n limit) z may quiet stands t = t
    quiet_touches own (step.MakeFolder q) z may quiet stands t = t
    quiet_touches own (step.Create q n b) z may quiet stands t = not_both (is_standing z) stands (subst (λ (y : List ℕ). is_standing y ≡ false) t.1 (is_temp_quiet n (created_temp own q n b may)))
    quiet_touches own (step.SyncFile q n) z may quiet stands t = t
    quiet_touches own (step.SyncFolder q) z may quiet stands t = t
    quiet_touches own (step.Link q a b) z may quiet stands t = quiet t.0
    quiet_touches own (step.Rename q a b) z may quiet stands t = go t.1
      where
        committed : is_committed p b ≡ true
        committed = quiet t.0

        there : MayAsk w own (step.Rename p a b)
        there = subst (λ (y : Place). MayAsk w own (step.Rename y a b)) t.0 may

        go : (a ≡ z) ⊎ (b ≡ z) → ⊥
        go (inl e) = not_both (is_standing z) stands (subst (λ (y : List ℕ). is_standing y ≡ false) e (is_temp_quiet a (renamed_temp own a b committed there)))
        go (inr e) = not_both (is_standing z) stands (subst (λ (y : List ℕ). is_standing y ≡ false) e (is_committed_quiet p b committed))
    quiet_touches own (step.Unlink q a) z may quiet stands t = not_both (is_standing z) stands (subst (λ (y : List ℕ). is_standing y ≡ false) t.1 (is_temp_quiet a (quiet t.0)))
    quiet_touches own (step.Lock q) z may quiet stands t = t
    quiet_touches own (step.Unlock q) z may quiet stands t = t
    quiet_touches own (step.ReadFile f limit) z may quiet stands t = t
    quiet_touches own (step.ReadDrop f from most) z may quiet stands t = t
    quiet_touches own (step.CutDrop f length_) z may quiet stands t = t

    -- what such a step leaves
    pub quiet_lock : (own : List Deed) (s : Step) (a : Answer) → Quiet p s → HasLock p own → HasLock p (did s a ∷ own)
    quiet_lock own s a quiet lock = still (quiet_unlock s quiet) lock

    pub quiet_sees : (own : List Deed) (s : Step) (a : Answer) (z : List ℕ) (b : Bool) → MayAsk w own s → Quiet p s → is_standing z ≡ true → Sees p z b own → Sees p z b (did s a ∷ own)
    quiet_sees own s a z b may quiet stands f = minding.on (quiet_unlock s quiet) (quiet_touches own s z may quiet stands) f

    pub quiet_steady : (k : Marking) → k.folder ≡ p → (own : List Deed) (s : Step) (a : Answer) → MayAsk w own s → Quiet p s → IsSteady k own → IsSteady k (did s a ∷ own)
    quiet_steady k at own s a may quiet f =
        apart.on (λ e. quiet_unlock s quiet (e ∙ ap (λ z. step.Unlock z) at)) (λ z stands t. quiet_touches own s z may quiet stands (subst (λ y. Touches y z s) at t)) f

    -- the held names that were listed were let go, and the others are not there
    pub quiet_unlinked : (own : List Deed) (s : Step) (a : Answer) (x : List ℕ) → Quiet p s → is_held (kind_of x) ≡ true → WasDone (step.Unlink p x) (did s a ∷ own) → WasDone (step.Unlink p x) own
    quiet_unlinked own s a x quiet held (now e) = absurd (not_both (is_standing x) (held_stands x held) (is_temp_quiet x ((subst (λ z. Quiet p z) (did_step e) quiet) refl)))
    quiet_unlinked own s a x quiet held (on f) = f

-- each held name that was listed there, and was let go since, is not there; nor is any other
abbrev pub LetGo : Place → List (List ℕ) → List Deed → Type 0
LetGo p names own = (x : List ℕ) → is_held (kind_of x) ≡ true → (has_text x names ≡ true → WasDone (step.Unlink p x) own) → Sees p x false own

-- the folder was listed with these names
abbrev pub WasListed : Place → List (List ℕ) → List Deed → Type 0
WasListed p names own = Once (λ d older. d ≡ did (step.List p) (answer.Names names)) own

-- what is known of the folder: its lock is had; these numbers are there; and of held names what was listed
pub record Seen (p : Place) (names : List (List ℕ)) (There : List ℕ → Type 0) (own : List Deed) : Type 0 where
  pub lock : HasLock p own
  pub there : (z : List ℕ) → There z → is_number (kind_of z) ≡ true → Sees p z true own
  pub held : LetGo p names own
  pub listed : WasListed p names own

pub quiet_seen : (w : Pledge) (p : Place) (names : List (List ℕ)) (There : List ℕ → Type 0) (own : List Deed) (s : Step) (a : Answer) → MayAsk w own s → Quiet p s → Seen p names There own → Seen p names There (did s a ∷ own)
quiet_seen w p names There own s a may quiet f = record {
  lock = quiet_lock w p own s a quiet f.lock;
  there = λ z so number. quiet_sees w p own s a z true may quiet (number_stands z number) (f.there z so number);
  held = λ x held gone. quiet_sees w p own s a x false may quiet (held_stands x held) (f.held x held (λ listed. quiet_unlinked w p own s a x quiet held (gone listed)));
  listed = on f.listed;
}
