-- A commit that was synced stands until another.
use Rattle.std.proofs.Common.{◌≡◌, ℕ, Bool, true, ◌⊎◌, inl, inr, List, ◌∷◌, Some, refl, sym, ◌∙◌, ap, subst, arith}
use Rattle.mh_base.specs.Entries.{kind_of}
use Rattle.folder_files.specs.CrashImage.{IsCrashImage}
use Rattle.folder_files.specs.Deeds.{WasDone}
use Rattle.folder_files.specs.Directory.{now_in, IsUntouched}
use Rattle.folder_files.specs.Histories.{world_after, own, IsLegal, begins, answers, fails, is_dead, delivers, crashes, crashes_within, stops, AreCareful}
use Rattle.folder_files.specs.Named.{is_committed, is_temp_of}
use Rattle.folder_files.specs.Steps.{made, directory_after}
use Rattle.folder_files.specs.Worlds.{WorldMap, shown, IsStart}
use Rattle.folder_files.specs.declared.event.After.{After}
use Rattle.folder_files.specs.declared.event.After.TheVariants.{Before, Made}
use Rattle.folder_files.specs.declared.event.Event.{Event}
use Rattle.folder_files.specs.declared.event.Event.TheVariants.{Act, Crash}
use Rattle.folder_files.specs.declared.place.Place.{Place}
use Rattle.folder_files.specs.declared.step.Answer.{Answer}
use Rattle.folder_files.specs.declared.step.Answer.TheVariants.{Done, Failed}
use Rattle.folder_files.specs.declared.step.Step.{Step}
use Rattle.folder_files.specs.declared.step.Step.TheVariants as step
use Rattle.folder_files.specs.declared.world.World.{World}
use Rattle.folder_files.proofs.Sameness.{place_is}
use Rattle.step_plans.specs.Commits.{TriesCommit, text_of, text_at, IsCommitted, IsSettled, HasTextFirmly, now, on}
use Rattle.step_plans.specs.Moments.{live}
use Rattle.step_plans.specs.Starts.{HasNoneOfTheirs}
use Rattle.step_plans.proofs.Closing.{untouched_kept}
use Rattle.folder_files.proofs.Changes.{untouched_lead, now_below}
use Rattle.folder_files.proofs.Effects.{IsNext, answered, failed, refused, left, left_directory, left_grows, left_keeps, next_fits, fits_as, world_crash, world_deliver, world_end, world_next}
use Rattle.step_plans.proofs.Inv.{Inv, IsSafeAs}
use Rattle.step_plans.proofs.Discipline.{Cares, committed_lock, careful_rename}
use Rattle.step_plans.proofs.Crashes.{ended_by, tries_cut}
use Rattle.step_plans.proofs.Law.{inv, none_before, may_made, careful_back, image_within, within_ended}
use Rattle.step_plans.proofs.Committing.{Spares, spares_now, spares_settled, commit_of, left_spares, commit_leads}

-- the name leads to a safe file of this text
record CommittedAt (w : WorldMap) (p : Place) (x text : List ℕ) : Type 0 where
  pub file : ℕ
  pub leads : now_in (w.directories p) x ≡ Some file
  pub is : IsSafeAs w file text

-- and no pending change touches it
record SettledAt (w : WorldMap) (p : Place) (x text : List ℕ) : Type 0 where
  pub file : ℕ
  pub leads : (w.directories p).safe x ≡ Some file
  pub untouched : IsUntouched x (w.directories p).pending
  pub is : IsSafeAs w file text

safe_left : (w : WorldMap) (r : ℕ) (s : Step) (a : Answer) (m : After) (f : ℕ) (b : List ℕ) → IsSafeAs w f b → IsSafeAs (left w r s a m) f b
safe_left w r s a m f b z = record { there = (let l = left_grows w s m in let t = z.there in omega arith); safe = (left_keeps w s m f z.there).1 z.safe; bytes = (left_keeps w s m f z.there).0 ∙ z.bytes }

safe_image : (w v : WorldMap) (over : ℕ → Bool) (f : ℕ) (b : List ℕ) → IsCrashImage w v over → IsSafeAs w f b → IsSafeAs v f b
safe_image w v over f b image z = record { there = rw image.next_file z.there; safe = image.all_safe f z.there; bytes = image.kept_bytes f z.safe ∙ z.bytes }

committed_case : {start : World} {p : Place} {x text : List ℕ} {o : ℕ} {s : Step} {a : Answer} {m : After} {past : List Event} → IsCommitted start p x text (Act o s a m ∷ past)
    → ((t : List ℕ) × (s ≡ step.Rename p t x) × (a ≡ Done) × (is_temp_of o (kind_of t) ≡ true) × WasDone (step.Create p t text) (own o past)) ⊎ ((TriesCommit start p x (Act o s a m) past → ⊥) × IsCommitted start p x text past)
committed_case (now {temp = t} temp wrote) = inl (t, refl, refl, temp, wrote)
committed_case (on nc n h) = inr (n, h)

settled_case : {start : World} {p : Place} {x text : List ℕ} {o : ℕ} {s : Step} {a : Answer} {m : After} {past : List Event} → IsSettled start p x text (Act o s a m ∷ past)
    → ((s ≡ step.SyncFolder p) × (a ≡ Done) × IsCommitted start p x text past) ⊎ ((TriesCommit start p x (Act o s a m) past → ⊥) × IsSettled start p x text past)
settled_case (now h) = inl (refl, refl, h)
settled_case (on n h) = inr (n, h)

module _ (start : World) (past : List Event) (o : ℕ) (s : Step) (a : Answer) (m : After) (p : Place) (x text : List ℕ) (c : is_committed p x ≡ true) (careful : Cares o (own o past) s) (nx : IsNext (world_after start past) o s a m) (i : Inv start past) where
  abbrev w : WorldMap
  w = world_after start past

  abbrev v : WorldMap
  v = left (world_after start past) o s a m

  spares : (TriesCommit start p x (Act o s a m) past → ⊥) → Spares x (w.directories p) (v.directories p)
  spares n = elim (left_spares w o (own o past) s a m p x c careful nx) [ inl z ↦ z | inr z ↦ absurd (n (z.0.0, z.0.3.0, z.0.1, (past, live z.1, z.0.3.1))) ]

  just : (t : List ℕ) → s ≡ step.Rename p t x → a ≡ Done → is_temp_of o (kind_of t) ≡ true → WasDone (step.Create p t text) (own o past) → CommittedAt v p x text
  just t es ea temp wrote =
      let f3 = next_fits w o s a m nx (λ k. cc (k, ea)) in
      let z = commit_leads w p t x o temp c (fits_as w o s (step.Rename p t x) a Done es ea f3.1) in
      let may = commit_of o (own o past) p t x c (careful_rename o (own o past) p t x (subst (λ (k : Step). Cares o (own o past) k) es careful (committed_lock p x c))).1 in
      record {
        file = z.0;
        leads = subst (λ (k : After). now_in (left_directory w s k p) x ≡ Some z.0) (sym f3.2) (subst (λ (k : Step). now_in (directory_after w k p) x ≡ Some z.0) (sym es) z.2);
        is = safe_left w o s a m z.0 text (record { there = now_below w.next_file (w.directories p) (i.below p) t z.0 z.1; safe = i.ready o p t z.0 (committed_lock p x c) temp f3.0 may.1.1 z.1; bytes = i.temps o p t z.0 text (committed_lock p x c) temp f3.0 wrote z.1 });
      }

  on_committed : (TriesCommit start p x (Act o s a m) past → ⊥) → CommittedAt w p x text → CommittedAt v p x text
  on_committed n k = record { file = k.file; leads = spares_now x (w.directories p) (spares n) ∙ k.leads; is = safe_left w o s a m k.file text k.is }

  on_settled : (TriesCommit start p x (Act o s a m) past → ⊥) → SettledAt w p x text → SettledAt v p x text
  on_settled n k = let z = spares_settled x k.file (w.directories p) (spares n) k.leads k.untouched in record { file = k.file; leads = z.0; untouched = z.1; is = safe_left w o s a m k.file text k.is }

  settle : s ≡ step.SyncFolder p → a ≡ Done → CommittedAt w p x text → SettledAt v p x text
  settle es ea k = let f3 = next_fits w o s a m nx (λ e. cc (e, ea)) in
      subst (λ (z : After). SettledAt (left w o s a z) p x text) (sym f3.2) (subst (λ (z : Step). SettledAt (left w o z a Made) p x text) (sym es) here)
    where
      here : SettledAt (left w o (step.SyncFolder p) a Made) p x text
      here = record { file = k.file; leads = rw (place_is p) k.leads; untouched = rw (place_is p) tt; is = safe_left w o (step.SyncFolder p) a Made k.file text k.is }

committed_so : (start : World) (p : Place) (x text : List ℕ) → is_committed p x ≡ true → {past : List Event} → IsStart start → IsLegal start past → AreCareful past → HasNoneOfTheirs start past → IsCommitted start p x text past → CommittedAt (world_after start past) p x text
committed_so start p x text c st begins careful none h = elim h [ ]
committed_so start p x text c st (answers o s a {past = past} l alive fits) careful none h = let nx : IsNext (world_after start past) o s a Made = answered a alive fits in let none_b = none_before start o s a Made past none in
    subst (λ (z : WorldMap). CommittedAt z p x text) (sym (world_next start o s a Made past nx)) (elim (committed_case h) [
      | inl y ↦ just start past o s a Made p x text c careful.0 nx (inv start st l careful.1 none_b) y.0 y.1 y.2 y.3 y.4
      | inr y ↦ on_committed start past o s a Made p x text c careful.0 nx (inv start st l careful.1 none_b) y.0 (committed_so start p x text c st l careful.1 none_b y.1)
    ])
committed_so start p x text c st (fails o s m {past = past} l alive may) careful none h = let nx : IsNext (world_after start past) o s Failed m = failed m alive may in let none_b = none_before start o s Failed m past none in
    subst (λ (z : WorldMap). CommittedAt z p x text) (sym (world_next start o s Failed m past nx)) (elim (committed_case h) [
      | inl y ↦ absurd (cc (y.2))
      | inr y ↦ on_committed start past o s Failed m p x text c careful.0 nx (inv start st l careful.1 none_b) y.0 (committed_so start p x text c st l careful.1 none_b y.1)
    ])
committed_so start p x text c st (is_dead o s {past = past} l d) careful none h = let nx : IsNext (world_after start past) o s Failed Before = refused d in let none_b = none_before start o s Failed Before past none in
    subst (λ (z : WorldMap). CommittedAt z p x text) (sym (world_next start o s Failed Before past nx)) (elim (committed_case h) [
      | inl y ↦ absurd (cc (y.2))
      | inr y ↦ on_committed start past o s Failed Before p x text c careful.0 nx (inv start st l careful.1 none_b) y.0 (committed_so start p x text c st l careful.1 none_b y.1)
    ])
committed_so start p x text c st (delivers path piece {past = past} l) careful none (on nc n h) = subst (λ (z : WorldMap). CommittedAt z p x text) (sym (world_deliver start path piece past))
    (let k = committed_so start p x text c st l careful none h in record { file = k.file; leads = k.leads; is = record { there = k.is.there; safe = k.is.safe; bytes = k.is.bytes } })
committed_so start p x text c st (crashes v {past = past} l image) careful none (on nc n h) = absurd nc
committed_so start p x text c st (crashes_within v o s {past = past} l alive image) careful none h = absurd (elim (committed_case h) [ inl y ↦ cc (y.2) | inr y ↦ no_crash y.1 ])
  where
    no_crash : IsCommitted start p x text (Crash v ∷ past) → ⊥
    no_crash (on nc n z) = nc
committed_so start p x text c st (stops o {past = past} l) careful none (on nc n h) = subst (λ (z : WorldMap). CommittedAt z p x text) (sym (world_end start o past))
    (let k = committed_so start p x text c st l careful none h in record { file = k.file; leads = k.leads; is = record { there = k.is.there; safe = k.is.safe; bytes = k.is.bytes } })

settled_image : (w v : WorldMap) (over : ℕ → Bool) (p : Place) (x text : List ℕ) → IsCrashImage w v over → SettledAt w p x text → SettledAt v p x text
settled_image w v over p x text image k = record {
  file = k.file;
  leads = (image.directories p).slots x ∙ (untouched_kept (w.directories p).safe (w.directories p).pending (image.directories p).keep x k.untouched ∙ k.leads);
  untouched = rw (image.directories p).nothing_pending tt;
  is = safe_image w v over k.file text image k.is;
}

settled_so : (start : World) (p : Place) (x text : List ℕ) → is_committed p x ≡ true → {past : List Event} → IsStart start → IsLegal start past → AreCareful past → HasNoneOfTheirs start past → IsSettled start p x text past → SettledAt (world_after start past) p x text
settled_so start p x text c st begins careful none h = elim h [ ]
settled_so start p x text c st (answers o s a {past = past} l alive fits) careful none h = let nx : IsNext (world_after start past) o s a Made = answered a alive fits in let none_b = none_before start o s a Made past none in
    subst (λ (z : WorldMap). SettledAt z p x text) (sym (world_next start o s a Made past nx)) (elim (settled_case h) [
      | inl y ↦ settle start past o s a Made p x text c careful.0 nx (inv start st l careful.1 none_b) y.0 y.1 (committed_so start p x text c st l careful.1 none_b y.2)
      | inr y ↦ on_settled start past o s a Made p x text c careful.0 nx (inv start st l careful.1 none_b) y.0 (settled_so start p x text c st l careful.1 none_b y.1)
    ])
settled_so start p x text c st (fails o s m {past = past} l alive may) careful none h = let nx : IsNext (world_after start past) o s Failed m = failed m alive may in let none_b = none_before start o s Failed m past none in
    subst (λ (z : WorldMap). SettledAt z p x text) (sym (world_next start o s Failed m past nx)) (elim (settled_case h) [
      | inl y ↦ absurd (cc (y.1))
      | inr y ↦ on_settled start past o s Failed m p x text c careful.0 nx (inv start st l careful.1 none_b) y.0 (settled_so start p x text c st l careful.1 none_b y.1)
    ])
settled_so start p x text c st (is_dead o s {past = past} l d) careful none h = let nx : IsNext (world_after start past) o s Failed Before = refused d in let none_b = none_before start o s Failed Before past none in
    subst (λ (z : WorldMap). SettledAt z p x text) (sym (world_next start o s Failed Before past nx)) (elim (settled_case h) [
      | inl y ↦ absurd (cc (y.1))
      | inr y ↦ on_settled start past o s Failed Before p x text c careful.0 nx (inv start st l careful.1 none_b) y.0 (settled_so start p x text c st l careful.1 none_b y.1)
    ])
settled_so start p x text c st (delivers path piece {past = past} l) careful none (on n h) = subst (λ (z : WorldMap). SettledAt z p x text) (sym (world_deliver start path piece past))
    (let k = settled_so start p x text c st l careful none h in record { file = k.file; leads = k.leads; untouched = k.untouched; is = record { there = k.is.there; safe = k.is.safe; bytes = k.is.bytes } })
settled_so start p x text c st (crashes v {past = past} l image) careful none (on n h) = subst (λ (z : WorldMap). SettledAt z p x text) (sym (world_crash start v past))
    (settled_image (world_after start past) (shown v) _ p x text image (settled_so start p x text c st l careful none h))
settled_so start p x text c st (crashes_within v o s {past = past} l alive image) careful none h = let none_b = none_before start o s Failed Before (Crash v ∷ past) none in
    subst (λ (z : WorldMap). SettledAt z p x text) (sym (world_next start o s Failed Before (Crash v ∷ past) (refused (ended_by start v past o (within_ended o v past (made (world_after start past) o s).ended image.ended)))))
    (elim (settled_case h) [
      | inl y ↦ absurd (cc (y.1))
      | inr y ↦ stands (subst (λ (z : WorldMap). SettledAt z p x text) (sym (world_crash start v past)) (settled_image (world_after start (Act o s Failed Made ∷ past)) (shown v) _ p x text (image_within start past v o s _ image)
          (subst (λ (z : WorldMap). SettledAt z p x text) (sym (world_next start o s Failed Made past (failed Made alive (may_made s))))
          (on_settled start past o s Failed Made p x text c (careful_back o s v past careful.0) (failed Made alive (may_made s)) (inv start st l careful.1 none_b)
          (λ z. y.0 (z.0, z.1, z.2, tries_cut start o p z.0 z.1 v past alive (within_ended o v past (made (world_after start past) o s).ended image.ended) z.3)) (settled_so start p x text c st l careful.1 none_b (back y.1))))))
    ])
  where
    back : IsSettled start p x text (Crash v ∷ past) → IsSettled start p x text past
    back (on n z) = z

    stands : SettledAt (world_after start (Crash v ∷ past)) p x text → SettledAt (left (world_after start (Crash v ∷ past)) o s Failed Before) p x text
    stands k = record { file = k.file; leads = k.leads; untouched = k.untouched; is = record { there = k.is.there; safe = k.is.safe; bytes = k.is.bytes } }
settled_so start p x text c st (stops o {past = past} l) careful none (on n h) = subst (λ (z : WorldMap). SettledAt z p x text) (sym (world_end start o past))
    (let k = settled_so start p x text c st l careful none h in record { file = k.file; leads = k.leads; untouched = k.untouched; is = record { there = k.is.there; safe = k.is.safe; bytes = k.is.bytes } })

settled_text : (w : WorldMap) (p : Place) (x text : List ℕ) → SettledAt w p x text → text_at w p x ≡ text
settled_text w p x text k = ap (text_of w) (untouched_lead (w.directories p).safe (w.directories p).pending x k.untouched ∙ k.leads) ∙ k.is.bytes

pub committed_law : (start : World) (past : List Event) (p : Place) (x text : List ℕ) → IsStart start → IsLegal start past → AreCareful past → HasNoneOfTheirs start past → is_committed p x ≡ true → IsCommitted start p x text past
    → text_at (world_after start past) p x ≡ text
committed_law start past p x text st l careful none c h = let k = committed_so start p x text c st l careful none h in ap (text_of (world_after start past)) k.leads ∙ k.is.bytes

pub settled_law : (start : World) (past : List Event) (p : Place) (x text : List ℕ) → IsStart start → IsLegal start past → AreCareful past → HasNoneOfTheirs start past → is_committed p x ≡ true → IsSettled start p x text past
    → HasTextFirmly (world_after start past) p x text
settled_law start past p x text st l careful none c h = let k = settled_so start p x text c st l careful none h in record {
  now = settled_text (world_after start past) p x text k;
  later = λ v over image. settled_text v p x text (settled_image (world_after start past) v over p x text image k);
}
