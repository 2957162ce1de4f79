-- The base of a commit is the text that the file has.
use Rattle.std.proofs.Common.{◌≡◌, ℕ, Bool, true, false, ◌⊎◌, inl, inr, List, [], ◌∷◌, length, nat_lt, Option, Some, None, refl, sym, ◌∙◌, ap, subst, bytes_eq, if◌then◌else◌}
use Rattle.mh_base.specs.Entries.{kind_of}
use Rattle.folder_files.specs.Careful.{IsKnown, HasBase, HasLock, WasMade, WasSynced}
use Rattle.folder_files.specs.Deeds.{Deed, did, Once, last, still, WasDone, HasFailed, now, on}
use Rattle.folder_files.specs.Directory.{now_in}
use Rattle.folder_files.specs.Histories.{world_after, own, IsLive, IsLegal, begins, answers, fails, is_dead, delivers, crashes, crashes_within, stops, AreCareful, AreHonest, AreOrderly, IsLockable, Changes, after_delivery, after_end}
use Rattle.folder_files.specs.Named.{is_committed, is_temp_of}
use Rattle.folder_files.specs.Places.{same_place}
use Rattle.folder_files.specs.Steps.{made, read_answer, name_answer}
use Rattle.folder_files.specs.Worlds.{WorldMap, IsStart}
use Rattle.folder_files.specs.declared.event.After.{After}
use Rattle.folder_files.specs.declared.event.After.TheVariants.{Before, Made}
use Rattle.folder_files.specs.declared.event.Event.{Event}
use Rattle.folder_files.specs.declared.event.Event.TheVariants.{Act, Deliver, Crash, End}
use Rattle.folder_files.specs.declared.place.Place.{Place}
use Rattle.folder_files.specs.declared.place.Place.TheVariants.{Home, Work, Mail, Folder}
use Rattle.folder_files.specs.declared.step.Answer.{Answer}
use Rattle.folder_files.specs.declared.step.Answer.TheVariants.{Done, Content, Gone, Long, Failed}
use Rattle.folder_files.specs.declared.step.Step.{Step}
use Rattle.folder_files.specs.declared.step.Step.TheVariants as step
use Rattle.folder_files.specs.declared.world.World.{World}
use Rattle.folder_files.proofs.Sameness.{place_same, place_is}
use Rattle.step_plans.specs.Commits.{TriesCommit, text_of, text_at, IsBase, found, missing, committed, on}
use Rattle.step_plans.specs.Moments.{IsTriedAt, live, cut, IsNoCrash}
use Rattle.step_plans.specs.Starts.{HasNoneOfTheirs}
use Rattle.folder_files.proofs.Names.{not_both, bytes_true, bytes_self}
use Rattle.folder_files.proofs.Effects.{IsNext, answered, failed, refused, left, next_fits, fits_as, world_deliver, world_end, world_next}
use Rattle.step_plans.proofs.Past.{did_step, did_answer, did_both, once_none}
use Rattle.step_plans.proofs.Inv.{Inv, read_gives}
use Rattle.step_plans.proofs.Discipline.{Cares, committed_lock, careful_rename}
use Rattle.folder_files.proofs.Changes.{IsBelow}
use Rattle.step_plans.proofs.Crashes.{ended_by}
use Rattle.step_plans.proofs.Law.{inv, none_before, within_ended}
use Rattle.step_plans.proofs.Told.{lives_before}
use Rattle.step_plans.proofs.Tried.{tried, careful_then, none_then}
use Rattle.step_plans.proofs.Drops.{own_split}
use Rattle.step_plans.proofs.Locks.{gone_crash, gone_within, live_end, honest_before, one_holder}
use Rattle.step_plans.proofs.Committing.{Spares, commit_of, left_spares, gone_spares, commit_leads, text_spared}

-- a base is of a run that has the lock
pub base_lock : {r : ℕ} {p : Place} {x text : List ℕ} {deeds : List Deed} → IsBase r p x text deeds → HasLock p deeds
base_lock (found k lock) = still (λ e. let z = sym (ap (λ d. d.step) k.1) ∙ e in cc (z)) lock
base_lock (missing k lock) = still (λ e. let z = sym (ap (λ d. d.step) k) ∙ e in cc (z)) lock
base_lock (committed k temp made lock) = still (λ e. let z = sym (ap (λ d. d.step) k) ∙ e in cc (z)) lock
base_lock (on n nk h) = still n (base_lock h)

known_no_unlock : (r : ℕ) (p : Place) (x : List ℕ) (d : Deed) → IsKnown r p x d → d.step ≡ step.Unlock p → ⊥
known_no_unlock r p x d (inl k) e = let z = sym (ap (λ d. d.step) k.1.1) ∙ e in cc (z)
known_no_unlock r p x d (inr (inl k)) e = let z = sym (ap (λ d. d.step) k.1) ∙ e in cc (z)
known_no_unlock r p x d (inr (inr k)) e = let z = sym (ap (λ d. d.step) k.1) ∙ e in cc (z)

has_base_lock : (r : ℕ) (p : Place) (x : List ℕ) {deeds : List Deed} → HasBase r p x deeds → HasLock p deeds
has_base_lock r p x (last {d = d} z) = still (λ e. known_no_unlock r p x d z.0 e) z.1
has_base_lock r p x (still n h) = still n (has_base_lock r p x h)

base_once : {r : ℕ} {p : Place} {x text : List ℕ} {deeds : List Deed} → IsBase r p x text deeds → Once (λ d older. Unit {0}) deeds
base_once (found k lock) = now tt
base_once (missing k lock) = now tt
base_once (committed k temp made lock) = now tt
base_once (on n nk h) = on (base_once h)

-- each of a run's deeds was careful after those before it
abbrev AllCareful : ℕ → List Deed → Type 0
AllCareful r [] = Unit {0}
AllCareful r (d ∷ older) = Cares r older d.step × AllCareful r older

careful_deeds : (r : ℕ) (past : List Event) → AreCareful past → AllCareful r (own r past)
unfolding own
careful_deeds r [] c = tt
careful_deeds r (Act o s a m ∷ past) c = elim (own_split r o s a m past) [
  | inl e ↦ subst (λ (ds : List Deed). AllCareful r ds) (sym e.1) (subst (λ (k : ℕ). Cares k (own k past) s) e.0 c.0, careful_deeds r past c.1)
  | inr e ↦ subst (λ (ds : List Deed). AllCareful r ds) (sym e.1) (careful_deeds r past c.1)
]
careful_deeds r (Deliver path piece ∷ past) c = careful_deeds r past c
careful_deeds r (Crash v ∷ past) c = careful_deeds r past c
careful_deeds r (End o ∷ past) c = careful_deeds r past c

-- whether a deed makes known what the name holds
abbrev Knows : ℕ → Place → List ℕ → Deed → Type 0
Knows r p x d = IsKnown r p x d ⊎ (IsKnown r p x d → ⊥)

no_read : (r : ℕ) (p : Place) (x : List ℕ) (q : Place) (n : List ℕ) (limit : ℕ) (a : Answer) → (q ≡ p → n ≡ x → ⊥) → IsKnown r p x (did (step.Read q n limit) a) → ⊥
no_read r p x q n limit a never (inl k) = let z = did_step k.1.1 in never (cc (z)) (cc (z))
no_read r p x q n limit a never (inr (inl k)) = let z = did_step k.1 in never (cc (z)) (cc (z))
no_read r p x q n limit a never (inr (inr k)) = let z = did_step k.1 in cc (z)

no_rename : (r : ℕ) (p : Place) (x : List ℕ) (q : Place) (t n : List ℕ) (a : Answer) → (q ≡ p → n ≡ x → is_temp_of r (kind_of t) ≡ true → ⊥) → IsKnown r p x (did (step.Rename q t n) a) → ⊥
no_rename r p x q t n a never (inl k) = let z = did_step k.1.1 in cc (z)
no_rename r p x q t n a never (inr (inl k)) = let z = did_step k.1 in cc (z)
no_rename r p x q t n a never (inr (inr k)) = let z = did_step k.1 in let e : k.0 ≡ t = cc (z) in never (cc (z)) (cc (z)) (subst (λ (y : List ℕ). is_temp_of r (kind_of y) ≡ true) e k.2)

known_read : (r : ℕ) (p : Place) (x : List ℕ) (q : Place) (n : List ℕ) (limit : ℕ) (a : Answer) → (q ≡ p → n ≡ x → Knows r p x (did (step.Read q n limit) a)) → Knows r p x (did (step.Read q n limit) a)
known_read r p x q n limit a same = go (same_place q p) refl (bytes_eq n x) refl
  where
    go : (v : Bool) → same_place q p ≡ v → (u : Bool) → bytes_eq n x ≡ u → Knows r p x (did (step.Read q n limit) a)
    go true e true z = same (place_same q p e) (bytes_true n x z)
    go true e false z = inr (no_read r p x q n limit a (λ f g. not_both (bytes_eq n n) (bytes_self n) (subst (λ (y : List ℕ). bytes_eq n y ≡ false) (sym g) z)))
    go false e u z = inr (no_read r p x q n limit a (λ f g. not_both (same_place q q) (place_is q) (subst (λ (y : Place). same_place q y ≡ false) (sym f) e)))

known_rename : (r : ℕ) (p : Place) (x : List ℕ) (q : Place) (t n : List ℕ) → Knows r p x (did (step.Rename q t n) Done)
known_rename r p x q t n = go (same_place q p) refl (bytes_eq n x) refl (is_temp_of r (kind_of t)) refl
  where
    go : (v : Bool) → same_place q p ≡ v → (u : Bool) → bytes_eq n x ≡ u → (k : Bool) → is_temp_of r (kind_of t) ≡ k → Knows r p x (did (step.Rename q t n) Done)
    go true e true z true h = inl (inr (inr (t, (λ i. did (step.Rename (place_same q p e i) t (bytes_true n x z i)) Done), h)))
    go true e true z false h = inr (no_rename r p x q t n Done (λ f g y. not_both (is_temp_of r (kind_of t)) y h))
    go true e false z k h = inr (no_rename r p x q t n Done (λ f g y. not_both (bytes_eq n n) (bytes_self n) (subst (λ (y : List ℕ). bytes_eq n y ≡ false) (sym g) z)))
    go false e u z k h = inr (no_rename r p x q t n Done (λ f g y. not_both (same_place q q) (place_is q) (subst (λ (y : Place). same_place q y ≡ false) (sym f) e)))

known_of : (r : ℕ) (p : Place) (x : List ℕ) (s : Step) (a : Answer) → Knows r p x (did s a)
known_of r p x (step.Read q n limit) (Content b) = known_read r p x q n limit (Content b) (λ e z. inl (inl (b, (limit, (λ i. did (step.Read (e i) (z i) limit) (Content b))))))
known_of r p x (step.Read q n limit) Gone = known_read r p x q n limit Gone (λ e z. inl (inr (inl (limit, (λ i. did (step.Read (e i) (z i) limit) Gone)))))
known_of r p x (step.Read q n limit) a = inr none
  where
    none : IsKnown r p x (did (step.Read q n limit) a) → ⊥
    none (inl k) = let z = did_answer k.1.1 in cc (z)
    none (inr (inl k)) = let z = did_answer k.1 in cc (z)
    none (inr (inr k)) = let z = did_step k.1 in cc (z)
known_of r p x (step.Rename q t n) Done = known_rename r p x q t n
known_of r p x (step.Rename q t n) a = inr none
  where
    none : IsKnown r p x (did (step.Rename q t n) a) → ⊥
    none (inl k) = let z = did_step k.1.1 in cc (z)
    none (inr (inl k)) = let z = did_step k.1 in cc (z)
    none (inr (inr k)) = let z = did_answer k.1 in cc (z)
known_of r p x s a = inr none
  where
    none : IsKnown r p x (did s a) → ⊥
    none (inl k) = let z = did_step k.1.1 in cc (z)
    none (inr (inl k)) = let z = did_step k.1 in cc (z)
    none (inr (inr k)) = let z = did_step k.1 in cc (z)

made_of : {p : Place} {t : List ℕ} {deeds : List Deed} → WasMade p t deeds → (b : List ℕ) × WasDone (step.Create p t b) deeds
made_of (now z) = (z.0, now z.1)
made_of (on w) = let z = made_of w in (z.0, on z.1)

was_made : {p : Place} {t : List ℕ} {deeds : List Deed} → WasSynced p t deeds → WasMade p t deeds
was_made (now z) = on z.1
was_made (on w) = on (was_made w)

from_known : (r : ℕ) (p : Place) (x : List ℕ) → is_committed p x ≡ true → (d : Deed) (older : List Deed) → Cares r older d.step → HasLock p older → IsKnown r p x d → (text : List ℕ) × IsBase r p x text (d ∷ older)
from_known r p x c d older careful lock (inl k) = (k.0, found k.1 lock)
from_known r p x c d older careful lock (inr (inl k)) = ([], missing k.1 lock)
from_known r p x c d older careful lock (inr (inr k)) =
    let m = commit_of r older p k.0 x c (careful_rename r older p k.0 x (subst (λ (s : Step). Cares r older s) (ap (λ d. d.step) k.1) careful (committed_lock p x c))).1 in
    let b = made_of (was_made m.1.1) in
    (b.0, committed k.1 k.2 b.1 lock)

-- a run that has a base has one text of it
base_some : (r : ℕ) (p : Place) (x : List ℕ) → is_committed p x ≡ true → {deeds : List Deed} → AllCareful r deeds → HasBase r p x deeds → (text : List ℕ) × IsBase r p x text deeds
base_some r p x c careful (last {d = d} {own = older} z) = from_known r p x c d older careful.0 z.1 z.0
base_some r p x c careful (still {d = d} {own = older} n h) = go (known_of r p x d.step d.answer) (base_some r p x c careful.1 h)
  where
    go : Knows r p x d → (text : List ℕ) × IsBase r p x text older → (text : List ℕ) × IsBase r p x text (d ∷ older)
    go (inl k) z = from_known r p x c d older careful.0 (has_base_lock r p x h) k
    go (inr k) z = (z.0, on n k z.1)

-- what a reading of the name tells of its text
text_read : (w : WorldMap) (p : Place) (x : List ℕ) (limit : ℕ) (b : List ℕ) → Content b ≡ read_answer w limit (now_in (w.directories p) x) → text_at w p x ≡ b
text_read w p x limit b fits = let g = read_gives w p x limit b fits in ap (text_of w) g.1 ∙ g.2

text_gone : (w : WorldMap) (p : Place) (x : List ℕ) (limit : ℕ) → Gone ≡ read_answer w limit (now_in (w.directories p) x) → text_at w p x ≡ []
text_gone w p x limit fits = go (now_in (w.directories p) x) fits
  where
    never : (v : Bool) (n : ℕ) (b : List ℕ) → Gone ≡ (if v then Long n else Content b) → ⊥
    never true n b e = cc (e)
    never false n b e = cc (e)

    go : (u : Option ℕ) → Gone ≡ read_answer w limit u → text_of w u ≡ []
    go None e = refl
    go (Some f) e = absurd (never (nat_lt limit (length (w.files f).bytes)) (length (w.files f).bytes) (w.files f).bytes e)

pub lockable : (p : Place) (x : List ℕ) → is_committed p x ≡ true → IsLockable p
lockable Home x c = absurd (cc (c))
lockable Work x c = absurd (cc (c))
lockable (Mail path) x c = tt
lockable (Folder path name) x c = tt

gone_of : (u : Option ℕ) → Gone ≡ name_answer u → u ≡ None
gone_of None e = refl
gone_of (Some f) e = absurd (cc (e))

name_answers : (u : Option ℕ) (a : Answer) → a ≡ name_answer u → (a ≡ Done) ⊎ (a ≡ Gone)
name_answers (Some f) a h = inl h
name_answers None a h = inr h

module _ (start : World) (past : List Event) (o : ℕ) (s : Step) (a : Answer) (m : After) (p : Place) (x : List ℕ) (c : is_committed p x ≡ true) (careful : Cares o (own o past) s) (nx : IsNext (world_after start past) o s a m) (i : Inv start past) where
  abbrev w : WorldMap
  w = world_after start past

  abbrev v : WorldMap
  v = left (world_after start past) o s a m

  spared : Spares x (w.directories p) (v.directories p) → {text : List ℕ} → text_at w p x ≡ text → text_at v p x ≡ text
  spared z e = text_spared w o s a m p x (i.below p) z ∙ e

  -- a step that was made
  as_made : (text : List ℕ) {t : Step} → s ≡ t → m ≡ Made → text_at (left w o t a Made) p x ≡ text → text_at v p x ≡ text
  as_made text es em h = subst (λ (z : After). text_at (left w o s a z) p x ≡ text) (sym em) (subst (λ (z : Step). text_at (left w o z a Made) p x ≡ text) (sym es) h)

  pub after_read : (limit : ℕ) (b : List ℕ) → did s a ≡ did (step.Read p x limit) (Content b) → text_at v p x ≡ b
  after_read limit b e = let es = did_step e in let ea = did_answer e in let f3 = next_fits w o s a m nx (λ k. cc (k, ea)) in
      as_made b es f3.2 (same (text_read w p x limit b (fits_as w o s (step.Read p x limit) a (Content b) es ea f3.1)))
    where
      same : text_at w p x ≡ b → text_at (left w o (step.Read p x limit) a Made) p x ≡ b
      same h = go (now_in (w.directories p) x) h
        where
          go : (u : Option ℕ) → text_of w u ≡ b → text_of (left w o (step.Read p x limit) a Made) u ≡ b
          go None k = k
          go (Some f) k = k

  pub after_missing : (limit : ℕ) → did s a ≡ did (step.Read p x limit) Gone → text_at v p x ≡ []
  after_missing limit e = let es = did_step e in let ea = did_answer e in let f3 = next_fits w o s a m nx (λ k. cc (k, ea)) in
      as_made [] es f3.2 (same (text_gone w p x limit (fits_as w o s (step.Read p x limit) a Gone es ea f3.1)))
    where
      same : text_at w p x ≡ [] → text_at (left w o (step.Read p x limit) a Made) p x ≡ []
      same h = go (now_in (w.directories p) x) h
        where
          go : (u : Option ℕ) → text_of w u ≡ [] → text_of (left w o (step.Read p x limit) a Made) u ≡ []
          go None k = k
          go (Some f) k = k

  pub after_commit : (t text : List ℕ) → did s a ≡ did (step.Rename p t x) Done → is_temp_of o (kind_of t) ≡ true → WasDone (step.Create p t text) (own o past) → text_at v p x ≡ text
  after_commit t text e temp wrote = let es = did_step e in let ea = did_answer e in let f3 = next_fits w o s a m nx (λ k. cc (k, ea)) in
      let z = commit_leads w p t x o temp c (fits_as w o s (step.Rename p t x) a Done es ea f3.1) in
      as_made text es f3.2 (ap (text_of (left w o (step.Rename p t x) a Made)) z.2 ∙ i.temps o p t z.0 text (committed_lock p x c) temp f3.0 wrote z.1)

  after_other : (text : List ℕ) → (a ≡ Failed → ⊥) → (IsKnown o p x (did s a) → ⊥) → text_at w p x ≡ text → text_at v p x ≡ text
  after_other text unfailed unknown h = elim (left_spares w o (own o past) s a m p x c careful nx) [
    | inl z ↦ spared z h
    | inr z ↦ commit z.0.0 z.0.1 z.0.2
  ]
    where
      commit : (t : List ℕ) → s ≡ step.Rename p t x → is_temp_of o (kind_of t) ≡ true → text_at v p x ≡ text
      commit t es temp = let f3 = next_fits w o s a m nx unfailed in
          elim (name_answers (now_in (w.directories p) t) a (fits_as w o s (step.Rename p t x) a a es refl f3.1)) [
            | inl ea ↦ absurd (unknown (inr (inr (t, did_both es ea, temp))))
            | inr ea ↦ as_made text es f3.2 (text_spared w o (step.Rename p t x) a Made p x (i.below p) (gone_spares w p t x (gone_of (now_in (w.directories p) t) (fits_as w o s (step.Rename p t x) a Gone es ea f3.1))) ∙ h)
          ]

act_base : (start : World) (past : List Event) (r o : ℕ) (s : Step) (a : Answer) (m : After) (p : Place) (x : List ℕ) → is_committed p x ≡ true → Cares o (own o past) s → IsNext (world_after start past) o s a m → Inv start past
    → (IsLockable p → Changes p s → HasLock p (own o past)) → (IsLive o (world_after start past) → HasLock p (own r past) → HasLock p (own o past) → r ≡ o)
    → ((HasFailed (own r past) → ⊥) → (text : List ℕ) → IsBase r p x text (own r past) → text_at (world_after start past) p x ≡ text)
    → (HasFailed (own r (Act o s a m ∷ past)) → ⊥) → (text : List ℕ) → IsBase r p x text (own r (Act o s a m ∷ past)) → text_at (world_after start (Act o s a m ∷ past)) p x ≡ text
act_base start past r o s a m p x c careful nx i orderly alone rest unfailed text base = subst (λ (z : WorldMap). text_at z p x ≡ text) (sym (world_next start o s a m past nx)) (elim (own_split r o s a m past) [
  | inl e ↦ mine e.0 (subst (λ (ds : List Deed). HasFailed ds → ⊥) e.1 unfailed) text (subst (λ (ds : List Deed). IsBase r p x text ds) e.1 base)
  | inr e ↦ theirs e.0 (subst (λ (ds : List Deed). HasFailed ds → ⊥) e.1 unfailed) (subst (λ (ds : List Deed). IsBase r p x text ds) e.1 base)
])
  where
    mine : o ≡ r → (HasFailed (did s a ∷ own r past) → ⊥) → (text : List ℕ) → IsBase r p x text (did s a ∷ own r past) → text_at (left (world_after start past) o s a m) p x ≡ text
    mine e clean _ (found {text = b} k lock) = after_read start past o s a m p x c careful nx i k.0 b k.1
    mine e clean _ (missing {limit = limit} k lock) = after_missing start past o s a m p x c careful nx i limit k
    mine e clean _ (committed {temp = t} {text = b} k temp wrote lock) =
        after_commit start past o s a m p x c careful nx i t b k (subst (λ (z : ℕ). is_temp_of z (kind_of t) ≡ true) (sym e) temp) (subst (λ (z : ℕ). WasDone (step.Create p t b) (own z past)) (sym e) wrote)
    mine e clean b (on n unknown h) = after_other start past o s a m p x c careful nx i b (λ k. clean (now k)) (subst (λ (z : ℕ). IsKnown z p x (did s a) → ⊥) (sym e) unknown) (rest (λ f. clean (on f)) b h)

    theirs : (o ≡ r → ⊥) → (HasFailed (own r past) → ⊥) → IsBase r p x text (own r past) → text_at (left (world_after start past) o s a m) p x ≡ text
    theirs other clean h = elim (left_spares (world_after start past) o (own o past) s a m p x c careful nx) [
      | inl z ↦ spared start past o s a m p x c careful nx i z (rest clean text h)
      | inr z ↦ absurd (other (sym (alone z.1 (base_lock h) (orderly (lockable p x c) (subst (λ (k : Step). Changes p k) (sym z.0.1) refl)))))
    ]

-- under honest locks and with orderly runs, what a live run that hasn't failed has as its base is the text
pub base_is : (start : World) (r : ℕ) (p : Place) (x : List ℕ) {past : List Event} → IsStart start → IsLegal start past → AreCareful past → HasNoneOfTheirs start past → AreHonest start past → AreOrderly past → is_committed p x ≡ true
    → IsLive r (world_after start past) → (HasFailed (own r past) → ⊥) → (text : List ℕ) → IsBase r p x text (own r past) → text_at (world_after start past) p x ≡ text
unfolding own
base_is start r p x st begins careful none honest orderly c lv clean text h = absurd (once_none (base_once h))
base_is start r p x st (answers o s a {past = past} l alive fits) careful none honest orderly c lv clean text h = let nx : IsNext (world_after start past) o s a Made = answered a alive fits in
    let none_b = none_before start o s a Made past none in let lv_b = lives_before start r o s a Made past nx lv in let honest_b = honest_before start (Act o s a Made) past honest in
    act_base start past r o s a Made p x c careful.0 nx (inv start st l careful.1 none_b) (orderly.0 p) (λ k x y. one_holder start r o p l honest_b lv_b k x y)
    (λ u b z. base_is start r p x st l careful.1 none_b honest_b orderly.1 c lv_b u b z) clean text h
base_is start r p x st (fails o s m {past = past} l alive may) careful none honest orderly c lv clean text h = let nx : IsNext (world_after start past) o s Failed m = failed m alive may in
    let none_b = none_before start o s Failed m past none in let lv_b = lives_before start r o s Failed m past nx lv in let honest_b = honest_before start (Act o s Failed m) past honest in
    act_base start past r o s Failed m p x c careful.0 nx (inv start st l careful.1 none_b) (orderly.0 p) (λ k x y. one_holder start r o p l honest_b lv_b k x y)
    (λ u b z. base_is start r p x st l careful.1 none_b honest_b orderly.1 c lv_b u b z) clean text h
base_is start r p x st (is_dead o s {past = past} l d) careful none honest orderly c lv clean text h = let nx : IsNext (world_after start past) o s Failed Before = refused d in
    let none_b = none_before start o s Failed Before past none in let lv_b = lives_before start r o s Failed Before past nx lv in let honest_b = honest_before start (Act o s Failed Before) past honest in
    act_base start past r o s Failed Before p x c careful.0 nx (inv start st l careful.1 none_b) (orderly.0 p) (λ k x y. one_holder start r o p l honest_b lv_b k x y)
    (λ u b z. base_is start r p x st l careful.1 none_b honest_b orderly.1 c lv_b u b z) clean text h
base_is start r p x st (delivers path piece {past = past} l) careful none honest orderly c lv clean text h =
    subst (λ (z : WorldMap). text_at z p x ≡ text) (sym (world_deliver start path piece past)) (go (now_in ((world_after start past).directories p) x)
    (base_is start r p x st l careful none honest orderly c (subst (λ (y : WorldMap). y.ended r ≡ false) (world_deliver start path piece past) lv) clean text h))
  where
    go : (u : Option ℕ) → text_of (world_after start past) u ≡ text → text_of (after_delivery (world_after start past) path piece) u ≡ text
    go None k = k
    go (Some f) k = k
base_is start r p x st (crashes v {past = past} l image) careful none honest orderly c lv clean text h = absurd (gone_crash start r v past image.ended (base_once h) lv)
base_is start r p x st (crashes_within v o s {past = past} l alive image) careful none honest orderly c lv clean text h = absurd (gone_within start r o s v past image.ended (base_once h) lv)
base_is start r p x st (stops o {past = past} l) careful none honest orderly c lv clean text h =
    subst (λ (z : WorldMap). text_at z p x ≡ text) (sym (world_end start o past)) (go (now_in ((world_after start past).directories p) x)
    (base_is start r p x st l careful none honest orderly c (live_end start r o past lv).1 clean text h))
  where
    go : (u : Option ℕ) → text_of (world_after start past) u ≡ text → text_of (after_end (world_after start past) o) u ≡ text
    go None k = k
    go (Some f) k = k

pub honest_then : {start : World} {r : ℕ} {moment past : List Event} → IsTriedAt start r moment past → AreHonest start past → AreHonest start moment
honest_then (live lv) h = h
honest_then (cut o lv) h = h

pub orderly_then : {start : World} {r : ℕ} {moment past : List Event} → IsTriedAt start r moment past → AreOrderly past → AreOrderly moment
orderly_then (live lv) h = h
orderly_then (cut o lv) h = h

pub base_law : (start : World) (past : List Event) (r : ℕ) (p : Place) (t x : List ℕ) (a : Answer) (m : After) → IsStart start → IsLegal start (Act r (step.Rename p t x) a m ∷ past) → AreCareful (Act r (step.Rename p t x) a m ∷ past)
    → HasNoneOfTheirs start (Act r (step.Rename p t x) a m ∷ past) → AreHonest start (Act r (step.Rename p t x) a m ∷ past) → AreOrderly (Act r (step.Rename p t x) a m ∷ past) → is_committed p x ≡ true
    → (moment : List Event) → IsTriedAt start r moment past → IsBase r p x (text_at (world_after start moment) p x) (own r past)
base_law start past r p t x a m st l careful none honest orderly c moment tr =
    let k = tried start r (step.Rename p t x) l tr in
    let may = careful_rename r (own r past) p t x (careful.0 (committed_lock p x c)) in
    let base = base_some r p x c (careful_deeds r past careful.1) (commit_of r (own r past) p t x c may.1).2 in
    let same = base_is start r p x st k.legal (careful_then tr careful.1) (none_then tr (none_before start r (step.Rename p t x) a m past none)) (honest_then tr (honest_before start (Act r (step.Rename p t x) a m) past honest)) (orderly_then tr orderly.1) c
    k.lives (subst (λ (ds : List Deed). HasFailed ds → ⊥) k.deeds may.0) base.0 (subst (λ (ds : List Deed). IsBase r p x base.0 ds) k.deeds base.1) in
    subst (λ (b : List ℕ). IsBase r p x b (own r past)) (sym same) base.1

-- the text that a commit replaces is whatever base its run has
pub base_text : (start : World) (past : List Event) (r : ℕ) (p : Place) (t x : List ℕ) (a : Answer) (m : After) → IsStart start → IsLegal start (Act r (step.Rename p t x) a m ∷ past) → AreCareful (Act r (step.Rename p t x) a m ∷ past)
    → HasNoneOfTheirs start (Act r (step.Rename p t x) a m ∷ past) → AreHonest start (Act r (step.Rename p t x) a m ∷ past) → AreOrderly (Act r (step.Rename p t x) a m ∷ past) → is_committed p x ≡ true
    → (moment : List Event) → IsTriedAt start r moment past → (text : List ℕ) → IsBase r p x text (own r past) → text_at (world_after start moment) p x ≡ text
base_text start past r p t x a m st l careful none honest orderly c moment tr text base =
    let k = tried start r (step.Rename p t x) l tr in
    let may = careful_rename r (own r past) p t x (careful.0 (committed_lock p x c)) in
    base_is start r p x st k.legal (careful_then tr careful.1) (none_then tr (none_before start r (step.Rename p t x) a m past none)) (honest_then tr (honest_before start (Act r (step.Rename p t x) a m) past honest)) (orderly_then tr orderly.1) c
    k.lives (subst (λ (ds : List Deed). HasFailed ds → ⊥) k.deeds may.0) text (subst (λ (ds : List Deed). IsBase r p x text ds) k.deeds base)

-- nothing but a commit changes the text, and a crash
act_stays : (start : World) (past : List Event) (o : ℕ) (s : Step) (a : Answer) (m : After) (p : Place) (x : List ℕ) → is_committed p x ≡ true → Cares o (own o past) s → IsNext (world_after start past) o s a m → IsBelow (world_after start past).next_file ((world_after start past).directories p)
    → (TriesCommit start p x (Act o s a m) past → ⊥) → text_at (world_after start (Act o s a m ∷ past)) p x ≡ text_at (world_after start past) p x
act_stays start past o s a m p x c careful nx below never = ap (λ z. text_at z p x) (world_next start o s a m past nx) ∙ (elim (left_spares (world_after start past) o (own o past) s a m p x c careful nx) [
  | inl z ↦ text_spared (world_after start past) o s a m p x below z
  | inr z ↦ absurd (never (z.0.0, z.0.3.0, z.0.1, (past, live z.1, z.0.3.1)))
])

pub stays_law : (start : World) (past : List Event) (e : Event) (p : Place) (x : List ℕ) → IsStart start → IsLegal start (e ∷ past) → AreCareful (e ∷ past) → HasNoneOfTheirs start (e ∷ past) → is_committed p x ≡ true
    → (TriesCommit start p x e past → ⊥) → IsNoCrash e → text_at (world_after start (e ∷ past)) p x ≡ text_at (world_after start past) p x
stays_law start past _ p x st (answers o s a l lv fits) careful none c never nc =
    act_stays start past o s a Made p x c careful.0 (answered a lv fits) ((inv start st l careful.1 (none_before start o s a Made past none)).below p) never
stays_law start past _ p x st (fails o s m l lv may) careful none c never nc =
    act_stays start past o s Failed m p x c careful.0 (failed m lv may) ((inv start st l careful.1 (none_before start o s Failed m past none)).below p) never
stays_law start past _ p x st (is_dead o s l d) careful none c never nc =
    act_stays start past o s Failed Before p x c careful.0 (refused d) ((inv start st l careful.1 (none_before start o s Failed Before past none)).below p) never
stays_law start past _ p x st (delivers path piece l) careful none c never nc = ap (λ z. text_at z p x) (world_deliver start path piece past) ∙ go (now_in ((world_after start past).directories p) x)
  where
    go : (u : Option ℕ) → text_of (after_delivery (world_after start past) path piece) u ≡ text_of (world_after start past) u
    go None = refl
    go (Some f) = refl
stays_law start past _ p x st (crashes v l image) careful none c never nc = absurd nc
stays_law start _ _ p x st (crashes_within v o s {past = past} l alive image) careful none c never nc =
    ap (λ z. text_at z p x) (world_next start o s Failed Before (Crash v ∷ past) (refused (ended_by start v past o (within_ended o v past (made (world_after start past) o s).ended image.ended))))
    ∙ go (now_in ((world_after start (Crash v ∷ past)).directories p) x)
  where
    go : (u : Option ℕ) → text_of (left (world_after start (Crash v ∷ past)) o s Failed Before) u ≡ text_of (world_after start (Crash v ∷ past)) u
    go None = refl
    go (Some f) = refl
stays_law start past _ p x st (stops o l) careful none c never nc = ap (λ z. text_at z p x) (world_end start o past) ∙ go (now_in ((world_after start past).directories p) x)
  where
    go : (u : Option ℕ) → text_of (after_end (world_after start past) o) u ≡ text_of (world_after start past) u
    go None = refl
    go (Some f) = refl
