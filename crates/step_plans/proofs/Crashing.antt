-- What a crash leaves of a committed text is one that it had since the last sync.
use Rattle.std.proofs.Common.{◌≡◌, ℕ, ◌<◌, Bool, true, false, ◌⊎◌, inl, inr, List, [], ◌∷◌, Option, Some, None, refl, sym, ◌∙◌, ap, subst, arith}
use Rattle.mh_base.specs.Entries.{kind_of}
use Rattle.folder_files.specs.CrashImage.{IsCrashImage}
use Rattle.folder_files.specs.Directory.{Slots, DirectoryMap, lead, kept_lead, now_in}
use Rattle.folder_files.specs.Histories.{world_after, own, IsLive, IsLegal, begins, answers, fails, is_dead, delivers, crashes, crashes_within, stops, AreCareful, after_delivery, after_end}
use Rattle.folder_files.specs.Named.{is_committed, is_temp_of}
use Rattle.folder_files.specs.Places.{same_place}
use Rattle.folder_files.specs.Steps.{made, changed_if, synced, directory_after}
use Rattle.folder_files.specs.Worlds.{WorldMap, shown, IsStart}
use Rattle.folder_files.specs.declared.event.After.{After}
use Rattle.folder_files.specs.declared.event.After.TheVariants.{Before, Made, Torn}
use Rattle.folder_files.specs.declared.event.Event.{Event}
use Rattle.folder_files.specs.declared.event.Event.TheVariants.{Act, Deliver, Crash, End}
use Rattle.folder_files.specs.declared.place.Place.{Place}
use Rattle.folder_files.specs.declared.step.Answer.{Answer}
use Rattle.folder_files.specs.declared.step.Answer.TheVariants.{Failed}
use Rattle.folder_files.specs.declared.step.Step.{Step}
use Rattle.folder_files.specs.declared.step.Step.TheVariants as step
use Rattle.folder_files.specs.declared.world.Change.{Change}
use Rattle.folder_files.specs.declared.world.Change.TheVariants.{Moved}
use Rattle.folder_files.specs.declared.world.World.{World}
use Rattle.folder_files.proofs.Sameness.{place_same, place_is}
use Rattle.step_plans.specs.Commits.{text_of, text_at, IsNoSync, HadText, now, on}
use Rattle.step_plans.specs.Starts.{HasNoneOfTheirs}
use Rattle.folder_files.proofs.Names.{not_both, bytes_self}
use Rattle.step_plans.proofs.Closing.{AtEach, kept_moment}
use Rattle.folder_files.proofs.Changes.{now_below}
use Rattle.folder_files.proofs.Effects.{IsNext, answered, failed, refused, left, left_directory, left_next, left_grows, left_keeps, ComesTo, next_goes, world_start, world_crash, world_deliver, world_end, world_next}
use Rattle.step_plans.proofs.Inv.{Inv}
use Rattle.step_plans.proofs.Discipline.{careful_rename, Cares, committed_lock}
use Rattle.folder_files.proofs.Beginning.{nothing_pending, all_safe, all_known}
use Rattle.step_plans.proofs.Crashes.{ended_by}
use Rattle.step_plans.proofs.Law.{inv, none_before, may_made, careful_back, image_within, within_ended}
use Rattle.step_plans.proofs.Once.{at_more, at_goes}
use Rattle.step_plans.proofs.Committing.{Spares, spares_now, commit_of, step_spares, torn_commit, temp_own, apart_own}

-- the file, where there is one, is there and safe
abbrev pub IsFirm : WorldMap → Option ℕ → Type 0
IsFirm w None = Unit {0}
IsFirm w (Some f) = (f < w.next_file) × ((w.files f).safe ≡ true)

pub at_now : (P : Option ℕ → Type 0) (s : Slots) (cs : List Change) (x : List ℕ) → AtEach P s cs x → P (lead s cs x)
at_now P s [] x h = h
at_now P s (c ∷ cs) x h = h.0

-- the texts of all moments since the last sync were had since then, by safe files
abbrev pub HadAll : World → List Event → Place → List ℕ → WorldMap → Type 0
HadAll start past p x w = AtEach (λ o. HadText start p x (text_of w o) past × IsFirm w o) (w.directories p).safe (w.directories p).pending x

firm_left : (w : WorldMap) (r : ℕ) (s : Step) (a : Answer) (m : After) (o : Option ℕ) → IsFirm w o → IsFirm (left w r s a m) o
firm_left w r s a m None z = tt
firm_left w r s a m (Some f) z = (let l = left_grows w s m in let t = z.0 in omega arith, (left_keeps w s m f z.0).1 z.1)

text_left : (w : WorldMap) (r : ℕ) (s : Step) (a : Answer) (m : After) (o : Option ℕ) → IsFirm w o → text_of (left w r s a m) o ≡ text_of w o
text_left w r s a m None z = refl
text_left w r s a m (Some f) z = (left_keeps w s m f z.0).0

firm_image : (w v : WorldMap) (over : ℕ → Bool) (o : Option ℕ) → IsCrashImage w v over → IsFirm w o → IsFirm v o
firm_image w v over None image z = tt
firm_image w v over (Some f) image z = (rw image.next_file z.0, image.all_safe f z.0)

pub text_image : (w v : WorldMap) (over : ℕ → Bool) (o : Option ℕ) → IsCrashImage w v over → IsFirm w o → text_of v o ≡ text_of w o
text_image w v over None image z = refl
text_image w v over (Some f) image z = image.kept_bytes f z.1

-- whether the directory is synced by the step
pub sync_case : (p : Place) (r : ℕ) (s : Step) (a : Answer) (m : After) → ((s ≡ step.SyncFolder p) × (m ≡ Made)) ⊎ IsNoSync p (Act r s a m)
sync_case p r (step.SyncFolder q) a Made = go (same_place q p) refl
  where
    go : (v : Bool) → same_place q p ≡ v → ((step.SyncFolder q ≡ step.SyncFolder p) × (Made ≡ Made)) ⊎ (step.SyncFolder q ≡ step.SyncFolder p → Made ≡ Made → ⊥)
    go true e = inl (ap step.SyncFolder (place_same q p e), refl)
    go false e = inr (λ z k. not_both (same_place q q) (place_is q) (subst (λ (y : Place). same_place q y ≡ false) (place_of z) e))
      where
        place_of : step.SyncFolder q ≡ step.SyncFolder p → p ≡ q
        place_of z = cc (z)
sync_case p r (step.SyncFolder q) a m = inr (λ z k. cc (k))
sync_case p r s a m = inr (λ z k. cc (z))

firm_now : (start : World) (past : List Event) (r : ℕ) (s : Step) (a : Answer) (m : After) (p : Place) (x : List ℕ) → is_committed p x ≡ true → Cares r (own r past) s → IsNext (world_after start past) r s a m → Inv start past
    → IsFirm (world_after start past) (now_in ((world_after start past).directories p) x) → IsFirm (world_after start past) (now_in (left_directory (world_after start past) s m p) x)
firm_now start past r s a m p x c careful nx i h = by nx
  where
    spared : {e : DirectoryMap} → Spares x ((world_after start past).directories p) e → IsFirm (world_after start past) (now_in e x)
    spared z = subst (λ (o : Option ℕ). IsFirm (world_after start past) o) (sym (spares_now x ((world_after start past).directories p) z)) h

    commit : IsLive r (world_after start past) → (t : List ℕ) → s ≡ step.Rename p t x → is_temp_of r (kind_of t) ≡ true → IsFirm (world_after start past) (now_in (directory_after (world_after start past) s p) x)
    commit lv t es temp = subst (λ (k : Step). IsFirm (world_after start past) (now_in (directory_after (world_after start past) k p) x)) (sym es)
        (rw (place_is p, apart_own p x t c (temp_own r t temp)) (go (now_in ((world_after start past).directories p) t) refl))
      where
        ready : (f : ℕ) → now_in ((world_after start past).directories p) t ≡ Some f → IsFirm (world_after start past) (Some f)
        ready f e =
            let may = commit_of r (own r past) p t x c (careful_rename r (own r past) p t x (subst (λ (k : Step). Cares r (own r past) k) es careful (committed_lock p x c))).1 in
            (now_below (world_after start past).next_file ((world_after start past).directories p) (i.below p) t f e, i.ready r p t f (committed_lock p x c) temp lv may.1.1 e)

        go : (u : Option ℕ) → now_in ((world_after start past).directories p) t ≡ u → IsFirm (world_after start past) (now_in (changed_if ((world_after start past).directories p) (Moved t x) u) x)
        go None e = h
        go (Some f) e = rw (bytes_self x) (subst (λ (o : Option ℕ). IsFirm (world_after start past) o) (sym e) (ready f e))

    made_so : IsLive r (world_after start past) → IsFirm (world_after start past) (now_in (directory_after (world_after start past) s p) x)
    made_so lv = elim (step_spares (world_after start past) r (own r past) s p x c careful) [ inl z ↦ spared z | inr z ↦ commit lv z.0 z.1 z.2 ]

    by : {a : Answer} {m : After} → IsNext (world_after start past) r s a m → IsFirm (world_after start past) (now_in (left_directory (world_after start past) s m p) x)
    by (answered _ lv fits) = made_so lv
    by (failed Before lv may) = h
    by (failed Made lv may) = made_so lv
    by (failed (Torn b) lv may) = spared (torn_commit (world_after start past) r (own r past) s b p x c careful may)
    by (refused d) = h

-- so it is of this value in this world
abbrev IsHad : World → List Event → Place → List ℕ → WorldMap → Option ℕ → Type 0
IsHad start past p x w o = HadText start p x (text_of w o) past × IsFirm w o

sync_is : (w : WorldMap) (p : Place) → directory_after w (step.SyncFolder p) p ≡ synced (w.directories p)
sync_is w p = rw (place_is p) refl

had_act : (start : World) (past : List Event) (r : ℕ) (s : Step) (a : Answer) (m : After) (p : Place) (x : List ℕ) → is_committed p x ≡ true → Cares r (own r past) s → IsNext (world_after start past) r s a m → Inv start past
    → HadAll start past p x (world_after start past) → HadAll start (Act r s a m ∷ past) p x (left (world_after start past) r s a m)
had_act start past r s a m p x c careful nx i h = elim (sync_case p r s a m) [
  | inl e ↦ settled e.0 e.1
  | inr n ↦ at_goes (IsHad start (Act r s a m ∷ past) p x (left (world_after start past) r s a m)) (world_after start past).next_file (left_next (world_after start past) s m) (ComesTo s a p) ((world_after start past).directories p) x
      (next_goes (world_after start past) r s a m p nx)
      (at_more (IsHad start past p x (world_after start past)) (IsHad start (Act r s a m ∷ past) p x (left (world_after start past) r s a m)) ((world_after start past).directories p).safe ((world_after start past).directories p).pending x (λ o z. older n o z) h) latest
]
  where
    older : IsNoSync p (Act r s a m) → (o : Option ℕ) → IsHad start past p x (world_after start past) o → IsHad start (Act r s a m ∷ past) p x (left (world_after start past) r s a m) o
    older n o z = (subst (λ (t : List ℕ). HadText start p x t (Act r s a m ∷ past)) (sym (text_left (world_after start past) r s a m o z.1)) (on n tt z.0), firm_left (world_after start past) r s a m o z.1)

    latest : IsHad start (Act r s a m ∷ past) p x (left (world_after start past) r s a m) (now_in (left_directory (world_after start past) s m p) x)
    latest = (
      now (ap (λ z. text_at z p x) (world_next start r s a m past nx)),
      firm_left (world_after start past) r s a m (now_in (left_directory (world_after start past) s m p) x)
          (firm_now start past r s a m p x c careful nx i (at_now (IsHad start past p x (world_after start past)) ((world_after start past).directories p).safe ((world_after start past).directories p).pending x h).1),
    )

    settled : s ≡ step.SyncFolder p → m ≡ Made → HadAll start (Act r s a m ∷ past) p x (left (world_after start past) r s a m)
    settled es em = subst (λ (d : DirectoryMap). AtEach (IsHad start (Act r s a m ∷ past) p x (left (world_after start past) r s a m)) d.safe d.pending x) (sym same)
        (subst (IsHad start (Act r s a m ∷ past) p x (left (world_after start past) r s a m)) (ap (λ d. now_in d x) same) latest)
      where
        same : left_directory (world_after start past) s m p ≡ synced ((world_after start past).directories p)
        same = (λ i. left_directory (world_after start past) (es i) (em i) p) ∙ sync_is (world_after start past) p

-- where nothing is pending, only the present text counts
had_now : (start : World) (past : List Event) (p : Place) (x : List ℕ) (w : WorldMap) → world_after start past ≡ w → (w.directories p).pending ≡ [] → IsFirm w ((w.directories p).safe x) → HadAll start past p x w
had_now start past p x w same none firm = rw none (now (ap (λ z. text_at z p x) same ∙ ap (text_of w) leads), firm)
  where
    leads : now_in (w.directories p) x ≡ (w.directories p).safe x
    leads = rw none refl

crash_firm : (start : World) (past : List Event) (v : World) (over : ℕ → Bool) (p : Place) (x : List ℕ) → IsCrashImage (world_after start past) (shown v) over → HadAll start past p x (world_after start past) → IsFirm (shown v) (((shown v).directories p).safe x)
crash_firm start past v over p x image h =
    firm_image (world_after start past) (shown v) over (((shown v).directories p).safe x) image (subst (IsFirm (world_after start past)) (sym ((image.directories p).slots x))
    (kept_moment (IsFirm (world_after start past)) ((world_after start past).directories p).safe ((world_after start past).directories p).pending (image.directories p).keep x (image.directories p).closed
    (at_more (IsHad start past p x (world_after start past)) (IsFirm (world_after start past)) ((world_after start past).directories p).safe ((world_after start past).directories p).pending x (λ o z. z.1) h)))

as_had : (start : World) (past : List Event) (p : Place) (x : List ℕ) (w : WorldMap) → world_after start past ≡ w → HadAll start past p x w → HadAll start past p x (world_after start past)
as_had start past p x w e h = subst (λ (z : WorldMap). HadAll start past p x z) (sym e) h

pub had_all : (start : World) (p : Place) (x : List ℕ) {past : List Event} → IsStart start → IsLegal start past → AreCareful past → HasNoneOfTheirs start past → is_committed p x ≡ true → HadAll start past p x (world_after start past)
had_all start p x st begins careful none c = as_had start [] p x (shown start) (world_start start) (had_now start [] p x (shown start) (world_start start) (nothing_pending start st p) (go (((shown start).directories p).safe x) refl))
  where
    go : (u : Option ℕ) → ((shown start).directories p).safe x ≡ u → IsFirm (shown start) u
    go None e = tt
    go (Some f) e = (all_known start st p x f e, all_safe start st f)
had_all start p x st (answers r s a {past = past} l lv fits) careful none c = let nx : IsNext (world_after start past) r s a Made = answered a lv fits in let none_b = none_before start r s a Made past none in
    as_had start (Act r s a Made ∷ past) p x _ (world_next start r s a Made past nx) (had_act start past r s a Made p x c careful.0 nx (inv start st l careful.1 none_b) (had_all start p x st l careful.1 none_b c))
had_all start p x st (fails r s m {past = past} l lv may) careful none c = let nx : IsNext (world_after start past) r s Failed m = failed m lv may in let none_b = none_before start r s Failed m past none in
    as_had start (Act r s Failed m ∷ past) p x _ (world_next start r s Failed m past nx) (had_act start past r s Failed m p x c careful.0 nx (inv start st l careful.1 none_b) (had_all start p x st l careful.1 none_b c))
had_all start p x st (is_dead r s {past = past} l d) careful none c = let nx : IsNext (world_after start past) r s Failed Before = refused d in let none_b = none_before start r s Failed Before past none in
    as_had start (Act r s Failed Before ∷ past) p x _ (world_next start r s Failed Before past nx) (had_act start past r s Failed Before p x c careful.0 nx (inv start st l careful.1 none_b) (had_all start p x st l careful.1 none_b c))
had_all start p x st (delivers path piece {past = past} l) careful none c = as_had start (Deliver path piece ∷ past) p x _ (world_deliver start path piece past)
    (at_more (IsHad start past p x (world_after start past)) (IsHad start (Deliver path piece ∷ past) p x (after_delivery (world_after start past) path piece)) ((world_after start past).directories p).safe ((world_after start past).directories p).pending x
    (λ o z. later o z) (had_all start p x st l careful none c))
  where
    later : (o : Option ℕ) → IsHad start past p x (world_after start past) o → IsHad start (Deliver path piece ∷ past) p x (after_delivery (world_after start past) path piece) o
    later None z = (on tt tt z.0, tt)
    later (Some f) z = (on tt tt z.0, z.1)
had_all start p x st (crashes v {past = past} l image) careful none c = as_had start (Crash v ∷ past) p x (shown v) (world_crash start v past)
    (had_now start (Crash v ∷ past) p x (shown v) (world_crash start v past) (image.directories p).nothing_pending (crash_firm start past v _ p x image (had_all start p x st l careful none c)))
had_all start p x st (crashes_within v r s {past = past} l lv image) careful none c = let none_b = none_before start r s Failed Before (Crash v ∷ past) none in let nx : IsNext (world_after start past) r s Failed Made = failed Made lv (may_made s) in
    let over = within_ended r v past (made (world_after start past) r s).ended image.ended in
    let firm = crash_firm start (Act r s Failed Made ∷ past) v _ p x (image_within start past v r s _ image)
    (as_had start (Act r s Failed Made ∷ past) p x _ (world_next start r s Failed Made past nx) (had_act start past r s Failed Made p x c (careful_back r s v past careful.0) nx (inv start st l careful.1 none_b) (had_all start p x st l careful.1 none_b c))) in
    let same = world_next start r s Failed Before (Crash v ∷ past) (refused (ended_by start v past r over)) in
    as_had start (Act r s Failed Before ∷ (Crash v ∷ past)) p x _ same
    (had_now start (Act r s Failed Before ∷ (Crash v ∷ past)) p x _ same (ap (λ z. (z.directories p).pending) (world_crash start v past) ∙ (image.directories p).nothing_pending) (back firm))
  where
    back : IsFirm (shown v) (((shown v).directories p).safe x) → IsFirm (left (world_after start (Crash v ∷ past)) r s Failed Before) (((world_after start (Crash v ∷ past)).directories p).safe x)
    back firm = firm_left (world_after start (Crash v ∷ past)) r s Failed Before (((world_after start (Crash v ∷ past)).directories p).safe x) (subst (λ (z : WorldMap). IsFirm z ((z.directories p).safe x)) (sym (world_crash start v past)) firm)
had_all start p x st (stops r {past = past} l) careful none c = as_had start (End r ∷ past) p x _ (world_end start r past)
    (at_more (IsHad start past p x (world_after start past)) (IsHad start (End r ∷ past) p x (after_end (world_after start past) r)) ((world_after start past).directories p).safe ((world_after start past).directories p).pending x
    (λ o z. later o z) (had_all start p x st l careful none c))
  where
    later : (o : Option ℕ) → IsHad start past p x (world_after start past) o → IsHad start (End r ∷ past) p x (after_end (world_after start past) r) o
    later None z = (on tt tt z.0, tt)
    later (Some f) z = (on tt tt z.0, z.1)

pub crash_law : (start : World) (past : List Event) (p : Place) (x : List ℕ) (v : WorldMap) (over : ℕ → Bool) → IsStart start → IsLegal start past → AreCareful past → HasNoneOfTheirs start past → is_committed p x ≡ true
    → IsCrashImage (world_after start past) v over → HadText start p x (text_at v p x) past
crash_law start past p x v over st l careful none c image =
    subst (λ (t : List ℕ). HadText start p x t past) (sym same) kept.0
  where
    kept : IsHad start past p x (world_after start past) (kept_lead ((world_after start past).directories p).safe ((world_after start past).directories p).pending (image.directories p).keep x)
    kept = kept_moment (IsHad start past p x (world_after start past)) ((world_after start past).directories p).safe ((world_after start past).directories p).pending (image.directories p).keep x (image.directories p).closed
        (had_all start p x st l careful none c)

    leads : now_in (v.directories p) x ≡ (v.directories p).safe x
    leads = rw (image.directories p).nothing_pending refl

    same : text_at v p x ≡ text_of (world_after start past) (kept_lead ((world_after start past).directories p).safe ((world_after start past).directories p).pending (image.directories p).keep x)
    same = ap (text_of v) (leads ∙ (image.directories p).slots x) ∙ text_image (world_after start past) v over (kept_lead ((world_after start past).directories p).safe ((world_after start past).directories p).pending (image.directories p).keep x) image kept.1
