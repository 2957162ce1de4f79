-- What careful steps do to the files that are written anew by commits.
use Rattle.std.proofs.Common.{◌≡◌, ℕ, Bool, true, false, ◌||◌, ◌⊎◌, inl, inr, List, Option, Some, None, refl, sym, ◌∙◌, ap, subst, bytes_eq, if◌then◌else◌}
use Rattle.mh_base.specs.Entries.{kind_of}
use Rattle.mh_base.specs.declared.entry.Entry.{Entry}
use Rattle.mh_base.specs.declared.entry.Entry.TheVariants.{Number, Sequences}
use Rattle.folder_files.specs.Careful.{MayCommit}
use Rattle.folder_files.specs.Deeds.{Deed}
use Rattle.folder_files.specs.Directory.{DirectoryMap, touches, lead, now_in, IsUntouched}
use Rattle.folder_files.specs.Histories.{IsLive}
use Rattle.folder_files.specs.Named.{is_temp_of, is_held, is_sequences, is_backing_up, is_committed, is_work}
use Rattle.folder_files.specs.Places.{same_place, is_parent, is_folder}
use Rattle.folder_files.specs.Steps.{changed, changed_if, is_created, with_created, linked, with_renamed, with_made, synced, directory_after, name_answer, torn, MayLeave}
use Rattle.folder_files.specs.Worlds.{WorldMap}
use Rattle.folder_files.specs.declared.event.After.{After}
use Rattle.folder_files.specs.declared.event.After.TheVariants.{Before, Made, Torn}
use Rattle.folder_files.specs.declared.place.Place.{Place}
use Rattle.folder_files.specs.declared.place.Place.TheVariants.{Home, Work, Mail, Folder}
use Rattle.folder_files.specs.declared.step.Answer.{Answer}
use Rattle.folder_files.specs.declared.step.Answer.TheVariants.{Done}
use Rattle.folder_files.specs.declared.step.Step.{Step}
use Rattle.folder_files.specs.declared.step.Step.TheVariants as step
use Rattle.folder_files.specs.declared.world.Change.{Change}
use Rattle.folder_files.specs.declared.world.Change.TheVariants as change
use Rattle.folder_files.proofs.Kinding.{MayLink, MayRename, MayUnlink}
use Rattle.folder_files.proofs.Sameness.{place_same, place_is}
use Rattle.step_plans.specs.Commits.{text_of, text_at}
use Rattle.folder_files.specs.Standing.{is_standing, is_own}
use Rattle.folder_files.proofs.Names.{not_both, or_left, bytes_true, bytes_self, bytes_false, number_stands, held_stands, is_temp_any, is_held_any, is_taking_number, is_taking_held, is_backing_number, is_committed_quiet, is_committed_unown}
use Rattle.folder_files.proofs.Changes.{untouched_change, untouched_lead, IsBelow, now_below}
use Rattle.folder_files.proofs.Effects.{IsNext, answered, failed, refused, left, left_directory, left_keeps}
use Rattle.step_plans.proofs.Discipline.{Cares, place_lock, committed_lock, careful_create, careful_link, careful_rename, careful_unlink}

-- a directory's change that spares the name
pub data Spares (x : List ℕ) (d : DirectoryMap) : DirectoryMap → Type 0 where
  stays : Spares x d d
  opens : Spares x d (with_made d)
  settles : Spares x d (synced d)
  adds : (c : Change) → touches c x ≡ false → Spares x d (changed d c)

pub spares_now : (x : List ℕ) (d : DirectoryMap) {e : DirectoryMap} → Spares x d e → now_in e x ≡ now_in d x
spares_now x d stays = refl
spares_now x d opens = refl
spares_now x d settles = refl
spares_now x d (adds c n) = untouched_change c (lead d.safe d.pending) x n

pub spares_settled : (x : List ℕ) (f : ℕ) (d : DirectoryMap) {e : DirectoryMap} → Spares x d e → d.safe x ≡ Some f → IsUntouched x d.pending → (e.safe x ≡ Some f) × IsUntouched x e.pending
spares_settled x f d stays s u = (s, u)
spares_settled x f d opens s u = (s, u)
spares_settled x f d settles s u = (untouched_lead d.safe d.pending x u ∙ s, tt)
spares_settled x f d (adds c n) s u = (s, (n, u))

pub spares_if : (x : List ℕ) (d : DirectoryMap) (c : Change) (u : Option ℕ) → touches c x ≡ false → Spares x d (changed_if d c u)
spares_if x d c (Some f) n = adds c n
spares_if x d c None n = stays

pub spares_created : (x : List ℕ) (d : DirectoryMap) (n : List ℕ) (k : ℕ) → bytes_eq n x ≡ false → Spares x d (with_created d n k)
spares_created x d n k e = go (is_created d n)
  where
    go : (v : Bool) → Spares x d (if v then changed d (change.Set n k) else d)
    go true = adds (change.Set n k) e
    go false = stays

pub spares_linked : (x : List ℕ) (d : DirectoryMap) (b : List ℕ) (u v : Option ℕ) → bytes_eq b x ≡ false → Spares x d (linked d b u v)
spares_linked x d b (Some f) None e = adds (change.Set b f) e
spares_linked x d b (Some f) (Some g) e = stays
spares_linked x d b None v e = stays

pub spares_renamed : (x : List ℕ) (d : DirectoryMap) (a b : List ℕ) → bytes_eq a x ≡ false → bytes_eq b x ≡ false → Spares x d (with_renamed d a b)
spares_renamed x d a b n m = go (bytes_eq a b)
  where
    both_apart : (bytes_eq a x || bytes_eq b x) ≡ false
    both_apart = rw (n, m) refl

    go : (v : Bool) → Spares x d (if v then d else changed_if d (change.Moved a b) (now_in d a))
    go true = stays
    go false = spares_if x d (change.Moved a b) (now_in d a) both_apart

pub at_place : (x : List ℕ) (p q : Place) (d e : DirectoryMap) → (q ≡ p → Spares x d e) → Spares x d (if same_place q p then e else d)
at_place x p q d e m = go (same_place q p) refl
  where
    go : (v : Bool) → same_place q p ≡ v → Spares x d (if v then e else d)
    go true z = m (place_same q p z)
    go false z = stays

-- a committed name is no other name that the discipline speaks of
apart_standing : (p : Place) (x a : List ℕ) → is_committed p x ≡ true → is_standing a ≡ true → bytes_eq a x ≡ false
apart_standing p x a c s = bytes_false a x (λ e. not_both (is_standing a) s (subst (λ (z : List ℕ). is_standing z ≡ false) (sym e) (is_committed_quiet p x c)))

pub apart_own : (p : Place) (x a : List ℕ) → is_committed p x ≡ true → is_own a ≡ true → bytes_eq a x ≡ false
apart_own p x a c s = bytes_false a x (λ e. not_both (is_own a) s (subst (λ (z : List ℕ). is_own z ≡ false) (sym e) (is_committed_unown p x c)))

pub temp_own : (r : ℕ) (a : List ℕ) → is_temp_of r (kind_of a) ≡ true → is_own a ≡ true
temp_own r a h = or_left _ (is_held (kind_of a)) (is_temp_any r a h)

work_uncommitted : (p : Place) (x : List ℕ) → is_work p ≡ true → is_committed p x ≡ true → ⊥
work_uncommitted Home x w c = cc (w)
work_uncommitted Work x w c = cc (c)
work_uncommitted (Mail path) x w c = cc (w)
work_uncommitted (Folder path name) x w c = cc (w)

sequences_no_backup : (d e : Entry) → is_sequences e ≡ true → is_backing_up d e ≡ true → ⊥
sequences_no_backup (Number n) Sequences s b = cc (b)
sequences_no_backup (Number n) _ s b = cc (s)
sequences_no_backup _ e s b = cc (b)

pub backup_uncommitted : (p : Place) (a x : List ℕ) → is_folder p ≡ true → is_committed p x ≡ true → is_backing_up (kind_of a) (kind_of x) ≡ true → ⊥
backup_uncommitted Home a x f c b = cc (f)
backup_uncommitted Work a x f c b = cc (f)
backup_uncommitted (Mail path) a x f c b = cc (f)
backup_uncommitted (Folder path name) a x f c b = sequences_no_backup (kind_of a) (kind_of x) c b

-- a careful rename to a committed name is a commit
pub commit_of : (r : ℕ) (deeds : List Deed) (p : Place) (a x : List ℕ) → is_committed p x ≡ true → MayRename r p a x deeds → MayCommit r p a x deeds
commit_of r deeds p a x c (inl (inl m)) = absurd (not_both (is_standing x) (held_stands x (is_held_any r x (is_taking_held r a x m.1))) (is_committed_quiet p x c))
commit_of r deeds p a x c (inl (inr m)) = absurd (backup_uncommitted p a x m.0 c m.1)
commit_of r deeds p a x c (inr (inl m)) = m
commit_of r deeds p a x c (inr (inr (inl m))) = absurd (work_uncommitted p x m.0 c)
commit_of r deeds p a x c (inr (inr (inr m))) = absurd (work_uncommitted p x m.0 c)

-- the step is a rename of a run's own temporary name to the name
abbrev pub IsRename : ℕ → Step → Place → List ℕ → Type 0
IsRename r s p x = (t : List ℕ) × (s ≡ step.Rename p t x) × (is_temp_of r (kind_of t) ≡ true)

-- and that name leads to a file
abbrev pub IsCommit : WorldMap → ℕ → Step → Place → List ℕ → Type 0
IsCommit w r s p x = (t : List ℕ) × (s ≡ step.Rename p t x) × (is_temp_of r (kind_of t) ≡ true) × ((f : ℕ) × (now_in (w.directories p) t ≡ Some f))

rename_spares : (w : WorldMap) (r : ℕ) (deeds : List Deed) (q : Place) (a b : List ℕ) (p : Place) (x : List ℕ) → is_committed p x ≡ true → MayRename r q a b deeds
    → Spares x (w.directories p) (directory_after w (step.Rename q a b) p) ⊎ IsRename r (step.Rename q a b) p x
rename_spares w r deeds q a b p x c (inl (inl m)) = inl (at_place x p q (w.directories p) _
    (λ e. spares_renamed x (w.directories p) a b (apart_standing p x a c (number_stands a (is_taking_number r a b m.1))) (apart_standing p x b c (held_stands b (is_held_any r b (is_taking_held r a b m.1))))))
rename_spares w r deeds q a b p x c (inl (inr m)) = inl (at_place x p q (w.directories p) _
    (λ e. spares_renamed x (w.directories p) a b (apart_standing p x a c (number_stands a (is_backing_number a b m.1)))
    (bytes_false b x (λ z. backup_uncommitted p a x (subst (λ (y : Place). is_folder y ≡ true) e m.0) c (subst (λ (y : List ℕ). is_backing_up (kind_of a) (kind_of y) ≡ true) z m.1)))))
rename_spares w r deeds q a b p x c (inr (inl m)) = go (same_place q p) refl (bytes_eq b x) refl
  where
    go : (v : Bool) → same_place q p ≡ v → (u : Bool) → bytes_eq b x ≡ u → Spares x (w.directories p) (if v then with_renamed (w.directories p) a b else w.directories p) ⊎ IsRename r (step.Rename q a b) p x
    go true e true z = inr (a, (λ i. step.Rename (place_same q p e i) a (bytes_true b x z i)), m.1.0)
    go true e false z = inl (spares_renamed x (w.directories p) a b (apart_own p x a c (temp_own r a m.1.0)) z)
    go false e u z = inl stays
rename_spares w r deeds q a b p x c (inr (inr (inl m))) = inl (at_place x p q (w.directories p) _ (λ e. absurd (work_uncommitted p x (subst (λ (y : Place). is_work y ≡ true) e m.0) c)))
rename_spares w r deeds q a b p x c (inr (inr (inr m))) = inl (at_place x p q (w.directories p) _ (λ e. absurd (work_uncommitted p x (subst (λ (y : Place). is_work y ≡ true) e m.0) c)))

-- a careful step spares a committed name, or is a commit of it
pub step_spares : (w : WorldMap) (r : ℕ) (deeds : List Deed) (s : Step) (p : Place) (x : List ℕ) → is_committed p x ≡ true → Cares r deeds s → Spares x (w.directories p) (directory_after w s p) ⊎ IsRename r s p x
step_spares w r deeds (step.MakeFolder q) p x c careful = inl (go (same_place q p || is_parent p q))
  where
    go : (v : Bool) → Spares x (w.directories p) (if v then with_made (w.directories p) else w.directories p)
    go true = opens
    go false = stays
step_spares w r deeds (step.SyncFolder q) p x c careful = inl (at_place x p q (w.directories p) _ (λ e. settles))
step_spares w r deeds (step.Create q n b) p x c careful = inl (at_place x p q (w.directories p) _
    (λ e. spares_created x (w.directories p) n w.next_file (apart_own p x n c (temp_own r n (careful_create r deeds q n b (careful (place_lock e (committed_lock p x c)))).1.0))))
step_spares w r deeds (step.Link q a b) p x c careful = inl (at_place x p q (w.directories p) _
    (λ e. spares_linked x (w.directories p) b (now_in (w.directories p) a) (now_in (w.directories p) b) (go e (careful_link r deeds q a b (careful (place_lock e (committed_lock p x c)))).1)))
  where
    go : q ≡ p → MayLink r q a b deeds → bytes_eq b x ≡ false
    go e (inl m) = apart_standing p x b c (number_stands b m.1)
    go e (inr (inl m)) = apart_standing p x b c (number_stands b m.2)
    go e (inr (inr m)) = absurd (work_uncommitted p x (subst (λ (y : Place). is_work y ≡ true) e m.0) c)
step_spares w r deeds (step.Rename q a b) p x c careful = go (same_place q p) refl
  where
    go : (v : Bool) → same_place q p ≡ v → Spares x (w.directories p) (directory_after w (step.Rename q a b) p) ⊎ IsRename r (step.Rename q a b) p x
    go true e = rename_spares w r deeds q a b p x c (careful_rename r deeds q a b (careful (place_lock (place_same q p e) (committed_lock p x c)))).1
    go false e = inl (rw e stays)
step_spares w r deeds (step.Unlink q a) p x c careful = inl (at_place x p q (w.directories p) _ (λ e. spares_if x (w.directories p) (change.Gone a) (now_in (w.directories p) a) (go (careful_unlink r deeds q a (careful (place_lock e (committed_lock p x c)))).1)))
  where
    go : MayUnlink r q a deeds → bytes_eq a x ≡ false
    go (inl temp) = apart_own p x a c (or_left _ (is_held (kind_of a)) temp)
    go (inr (inl m)) = apart_standing p x a c (number_stands a m.1)
    go (inr (inr (inl m))) = apart_standing p x a c (held_stands a m.1)
    go (inr (inr (inr m))) = apart_standing p x a c (held_stands a (is_held_any r a m.1))
step_spares w r deeds s p x c careful = inl stays

pub torn_commit : (w : WorldMap) (r : ℕ) (deeds : List Deed) (s : Step) (b : List ℕ) (p : Place) (x : List ℕ) → is_committed p x ≡ true → Cares r deeds s → MayLeave s (Torn b)
    → Spares x (w.directories p) (directory_after w (torn s b) p)
torn_commit w r deeds (step.Create q n k) b p x c careful may =
    at_place x p q (w.directories p) _ (λ e. spares_created x (w.directories p) n w.next_file (apart_own p x n c (temp_own r n (careful_create r deeds q n k (careful (place_lock e (committed_lock p x c)))).1.0)))
torn_commit w r deeds s b p x c careful may = absurd may

-- a commit whose temporary name is not there does nothing
pub gone_spares : (w : WorldMap) (p : Place) (t x : List ℕ) → now_in (w.directories p) t ≡ None → Spares x (w.directories p) (directory_after w (step.Rename p t x) p)
gone_spares w p t x none = at_place x p p (w.directories p) _ (λ e. go (bytes_eq t x) (now_in (w.directories p) t) none)
  where
    go : (v : Bool) (u : Option ℕ) → u ≡ None → Spares x (w.directories p) (if v then w.directories p else changed_if (w.directories p) (change.Moved t x) u)
    go true u e = stays
    go false None e = stays
    go false (Some f) e = absurd (cc (e))

made_spares : (w : WorldMap) (r : ℕ) (deeds : List Deed) (s : Step) (p : Place) (x : List ℕ) → is_committed p x ≡ true → Cares r deeds s → Spares x (w.directories p) (directory_after w s p) ⊎ IsCommit w r s p x
made_spares w r deeds s p x c careful = elim (step_spares w r deeds s p x c careful) [ inl z ↦ inl z | inr z ↦ go z.0 z.1 z.2 (now_in (w.directories p) z.0) refl ]
  where
    go : (t : List ℕ) → s ≡ step.Rename p t x → is_temp_of r (kind_of t) ≡ true → (u : Option ℕ) → now_in (w.directories p) t ≡ u → Spares x (w.directories p) (directory_after w s p) ⊎ IsCommit w r s p x
    go t es temp None e = inl (subst (λ (k : Step). Spares x (w.directories p) (directory_after w k p)) (sym es) (gone_spares w p t x e))
    go t es temp (Some f) e = inr (t, es, temp, (f, e))

-- what such an act leaves of the name
pub left_spares : (w : WorldMap) (r : ℕ) (deeds : List Deed) (s : Step) (a : Answer) (m : After) (p : Place) (x : List ℕ) → is_committed p x ≡ true → Cares r deeds s → IsNext w r s a m
    → Spares x (w.directories p) (left_directory w s m p) ⊎ (IsCommit w r s p x × IsLive r w)
left_spares w r deeds s a m p x c careful (answered _ lv fits) = elim (made_spares w r deeds s p x c careful) [ inl z ↦ inl z | inr z ↦ inr (z, lv) ]
left_spares w r deeds s a m p x c careful (failed Before lv may) = inl stays
left_spares w r deeds s a m p x c careful (failed Made lv may) = elim (made_spares w r deeds s p x c careful) [ inl z ↦ inl z | inr z ↦ inr (z, lv) ]
left_spares w r deeds s a m p x c careful (failed (Torn b) lv may) = inl (torn_commit w r deeds s b p x c careful may)
left_spares w r deeds s a m p x c careful (refused d) = inl stays

-- a commit that is done makes the name lead to the file
pub commit_leads : (w : WorldMap) (p : Place) (t x : List ℕ) (r : ℕ) → is_temp_of r (kind_of t) ≡ true → is_committed p x ≡ true → Done ≡ name_answer (now_in (w.directories p) t)
    → (f : ℕ) × (now_in (w.directories p) t ≡ Some f) × (now_in (directory_after w (step.Rename p t x) p) x ≡ Some f)
commit_leads w p t x r temp c fits = go (now_in (w.directories p) t) refl fits
  where
    go : (u : Option ℕ) → now_in (w.directories p) t ≡ u → Done ≡ name_answer u → (f : ℕ) × (now_in (w.directories p) t ≡ Some f) × (now_in (directory_after w (step.Rename p t x) p) x ≡ Some f)
    go None e z = absurd (cc (z))
    go (Some f) e z = (f, e, rw (place_is p, apart_own p x t c (temp_own r t temp), e) (rw (bytes_self x) e))

-- the text of a name that is spared
pub text_spared : (w : WorldMap) (r : ℕ) (s : Step) (a : Answer) (m : After) (p : Place) (x : List ℕ) → IsBelow w.next_file (w.directories p) → Spares x (w.directories p) (left_directory w s m p)
    → text_at (left w r s a m) p x ≡ text_at w p x
text_spared w r s a m p x below z = ap (text_of (left w r s a m)) (spares_now x (w.directories p) z) ∙ go (now_in (w.directories p) x) refl
  where
    go : (u : Option ℕ) → now_in (w.directories p) x ≡ u → text_of (left w r s a m) u ≡ text_of w u
    go None e = refl
    go (Some f) e = (left_keeps w s m f (now_below w.next_file (w.directories p) below x f e)).0
