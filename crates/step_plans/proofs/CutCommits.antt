-- What a commit leaves that was answered Failed, or within which a crash came.
use Rattle.std.proofs.Common.{◌≡◌, ℕ, true, ◌⊎◌, inl, inr, List, ◌∷◌, Option, Some, None, refl, sym, ◌∙◌, ap, subst}
use Rattle.folder_files.specs.Deeds.{WasDone}
use Rattle.folder_files.specs.Directory.{now_in}
use Rattle.mh_base.specs.Entries.{kind_of}
use Rattle.folder_files.specs.Histories.{IsLive, world_after, own, has_acted, IsLegal, answers, fails, is_dead, crashes, crashes_within, AreCareful}
use Rattle.folder_files.specs.Named.{is_committed, is_temp_of}
use Rattle.folder_files.specs.Steps.{made, name_answer}
use Rattle.folder_files.specs.Worlds.{WorldMap, shown, IsStart}
use Rattle.folder_files.specs.declared.event.After.{After}
use Rattle.folder_files.specs.declared.event.After.TheVariants.{Before, Made, Torn}
use Rattle.folder_files.specs.declared.event.Event.{Event}
use Rattle.folder_files.specs.declared.event.Event.TheVariants.{Act, Crash}
use Rattle.folder_files.specs.declared.place.Place.{Place}
use Rattle.folder_files.specs.declared.step.Answer.{Answer}
use Rattle.folder_files.specs.declared.step.Answer.TheVariants.{Done, Failed}
use Rattle.folder_files.specs.declared.step.Step.{Step}
use Rattle.folder_files.specs.declared.step.Step.TheVariants as step
use Rattle.folder_files.specs.declared.world.World.{World}
use Rattle.step_plans.specs.Commits.{text_of, text_at, HadText, now, on}
use Rattle.step_plans.specs.Starts.{HasNoneOfTheirs}
use Rattle.folder_files.proofs.Effects.{IsNext, answered, failed, refused, left, left_directory, world_crash, world_next}
use Rattle.step_plans.proofs.Inv.{Inv}
use Rattle.step_plans.proofs.Crashes.{ended_by}
use Rattle.step_plans.proofs.Law.{inv, none_before, may_made, careful_back, image_within, within_ended}
use Rattle.step_plans.proofs.Discipline.{Cares, committed_lock, careful_rename}
use Rattle.step_plans.proofs.Committing.{Spares, stays, left_spares, commit_of, commit_leads, text_spared}
use Rattle.step_plans.proofs.Crashing.{crash_law}

module _ (start : World) (past : List Event) (o : ℕ) (s : Step) (a : Answer) (m : After) (p : Place) (x : List ℕ) (c : is_committed p x ≡ true) (careful : Cares o (own o past) s) (nx : IsNext (world_after start past) o s a m) (i : Inv start past) where
  abbrev w : WorldMap
  w = world_after start past

  same_text : Spares x (w.directories p) (left_directory w s m p) → text_at (world_after start (Act o s a m ∷ past)) p x ≡ text_at w p x
  same_text z = ap (λ k. text_at k p x) (world_next start o s a m past nx) ∙ text_spared w o s a m p x (i.below p) z

  its_temp : (t : List ℕ) → s ≡ step.Rename p t x → is_temp_of o (kind_of t) ≡ true
  its_temp t es = (commit_of o (own o past) p t x c (careful_rename o (own o past) p t x (subst (λ (z : Step). Cares o (own o past) z) es careful (committed_lock p x c))).1).1.0

  -- the text of a commit that took effect
  commit_text : (t text : List ℕ) → s ≡ step.Rename p t x → m ≡ Made → IsLive o w → WasDone (step.Create p t text) (own o past) → Done ≡ name_answer (now_in (w.directories p) t)
      → text_at (world_after start (Act o s a m ∷ past)) p x ≡ text
  commit_text t text es em lv wrote fits = ap (λ k. text_at k p x) (world_next start o s a m past nx)
      ∙ subst (λ (z : After). text_at (left w o s a z) p x ≡ text) (sym em) (subst (λ (z : Step). text_at (left w o z a Made) p x ≡ text) (sym es) here)
    where
      here : text_at (left w o (step.Rename p t x) a Made) p x ≡ text
      here = let temp = its_temp t es in let z = commit_leads w p t x o temp c fits in
          ap (text_of (left w o (step.Rename p t x) a Made)) z.2 ∙ i.temps o p t z.0 text (committed_lock p x c) temp lv wrote z.1

pub some_answer : (u : Option ℕ) (f : ℕ) → u ≡ Some f → Done ≡ name_answer u
some_answer u f e = rw e refl

never_failed : (u : Option ℕ) → Failed ≡ name_answer u → ⊥
never_failed None e = cc (e)
never_failed (Some f) e = cc (e)

-- the text that was there, or the commit's own
abbrev LeavesEither : World → List Event → ℕ → Place → List ℕ → List ℕ → List ℕ → After → Type 0
LeavesEither start past o p t x text m = (text_at (world_after start (Act o (step.Rename p t x) Failed m ∷ past)) p x ≡ text_at (world_after start past) p x) ⊎ (text_at (world_after start (Act o (step.Rename p t x) Failed m ∷ past)) p x ≡ text)

failed_next : (start : World) (past : List Event) (o : ℕ) (p : Place) (t x text : List ℕ) {m : After} → is_committed p x ≡ true → Cares o (own o past) (step.Rename p t x) → IsNext (world_after start past) o (step.Rename p t x) Failed m → Inv start past
    → WasDone (step.Create p t text) (own o past) → LeavesEither start past o p t x text m
failed_next start past o p t x text c careful (answered _ lv fits) i wrote = absurd (never_failed (now_in ((world_after start past).directories p) t) fits)
failed_next start past o p t x text c careful (failed Before lv ml) i wrote = inl (same_text start past o (step.Rename p t x) Failed Before p x c careful (failed Before lv ml) i stays)
failed_next start past o p t x text c careful (failed Made lv ml) i wrote = elim (left_spares (world_after start past) o (own o past) (step.Rename p t x) Failed Made p x c careful (failed Made lv ml)) [
  | inl z ↦ inl (same_text start past o (step.Rename p t x) Failed Made p x c careful (failed Made lv ml) i z)
  | inr z ↦ inr (took z.0.0 (same z.0.0 z.0.1) z.0.3.0 z.0.3.1)
]
  where
    same : (u : List ℕ) → step.Rename p t x ≡ step.Rename p u x → u ≡ t
    same u e = cc (e)

    took : (u : List ℕ) → u ≡ t → (f : ℕ) → now_in ((world_after start past).directories p) u ≡ Some f → text_at (world_after start (Act o (step.Rename p t x) Failed Made ∷ past)) p x ≡ text
    took u e f leads = commit_text start past o (step.Rename p t x) Failed Made p x c careful (failed Made lv ml) i t text refl refl lv wrote
        (some_answer (now_in ((world_after start past).directories p) t) f (subst (λ (y : List ℕ). now_in ((world_after start past).directories p) y ≡ Some f) e leads))
failed_next start past o p t x text c careful (failed (Torn b) lv ml) i wrote = absurd ml
failed_next start past o p t x text c careful (refused d) i wrote = inl (same_text start past o (step.Rename p t x) Failed Before p x c careful (refused d) i stays)

same_before : (start : World) (past : List Event) (o : ℕ) (s : Step) (p : Place) (x : List ℕ) → IsNext (world_after start past) o s Failed Before → text_at (world_after start (Act o s Failed Before ∷ past)) p x ≡ text_at (world_after start past) p x
same_before start past o s p x nx = ap (λ z. text_at z p x) (world_next start o s Failed Before past nx)

pub failed_law : (start : World) (past : List Event) (o : ℕ) (p : Place) (t x text : List ℕ) (m : After) → IsStart start → IsLegal start (Act o (step.Rename p t x) Failed m ∷ past) → AreCareful (Act o (step.Rename p t x) Failed m ∷ past)
    → HasNoneOfTheirs start (Act o (step.Rename p t x) Failed m ∷ past) → is_committed p x ≡ true → WasDone (step.Create p t text) (own o past) → LeavesEither start past o p t x text m
failed_law start past o p t x text _ st (answers _ _ _ l lv fits) careful fresh c wrote = absurd (never_failed (now_in ((world_after start past).directories p) t) fits)
failed_law start past o p t x text _ st (fails _ _ m l lv ml) careful fresh c wrote =
    failed_next start past o p t x text c careful.0 (failed m lv ml) (inv start st l careful.1 (none_before start o (step.Rename p t x) Failed m past fresh)) wrote
failed_law start past o p t x text _ st (is_dead _ _ l d) careful fresh c wrote = inl (same_before start past o (step.Rename p t x) p x (refused d))
failed_law start _ o p t x text _ st (crashes_within v _ _ {past = past} l lv image) careful fresh c wrote =
    inl (same_before start (Crash v ∷ past) o (step.Rename p t x) p x (refused (ended_by start v past o (within_ended o v past (made (world_after start past) o (step.Rename p t x)).ended image.ended))))

-- after a crash one that the name had since the last sync
crashed_at : (start : World) (past : List Event) (v : World) (p : Place) (x : List ℕ) → IsStart start → IsLegal start (Crash v ∷ past) → AreCareful past → HasNoneOfTheirs start past → is_committed p x ≡ true → HadText start p x (text_at (shown v) p x) past
crashed_at start past v p x st (crashes _ l image) careful fresh c = crash_law start past p x (shown v) (has_acted past) st l careful fresh c image

module _ (start : World) (past : List Event) (v : World) (o : ℕ) (p : Place) (t x text : List ℕ) where
  abbrev after : WorldMap
  after = world_after start (Act o (step.Rename p t x) Failed Before ∷ (Crash v ∷ past))

  as_shown : IsNext (world_after start (Crash v ∷ past)) o (step.Rename p t x) Failed Before → text_at after p x ≡ text_at (shown v) p x
  as_shown nx = same_before start (Crash v ∷ past) o (step.Rename p t x) p x nx ∙ ap (λ z. text_at z p x) (world_crash start v past)

  had_as : IsNext (world_after start (Crash v ∷ past)) o (step.Rename p t x) Failed Before → HadText start p x (text_at (shown v) p x) past → HadText start p x (text_at after p x) past
  had_as nx h = subst (λ (z : List ℕ). HadText start p x z past) (sym (as_shown nx)) h

  made_or : {u : List ℕ} → LeavesEither start past o p t x text Made → HadText start p x u (Act o (step.Rename p t x) Failed Made ∷ past) → HadText start p x u past ⊎ (u ≡ text)
  made_or {u = u} either (now z) = elim (either) [ inl e ↦ inl (now (sym e ∙ z)) | inr e ↦ inr (sym z ∙ e) ]
  made_or either (on n k h) = inl h

pub crashed_law : (start : World) (past : List Event) (v : World) (o : ℕ) (p : Place) (t x text : List ℕ) → IsStart start → IsLegal start (Act o (step.Rename p t x) Failed Before ∷ (Crash v ∷ past)) → AreCareful (Act o (step.Rename p t x) Failed Before ∷ (Crash v ∷ past))
    → HasNoneOfTheirs start (Act o (step.Rename p t x) Failed Before ∷ (Crash v ∷ past)) → is_committed p x ≡ true → WasDone (step.Create p t text) (own o past)
    → HadText start p x (text_at (world_after start (Act o (step.Rename p t x) Failed Before ∷ (Crash v ∷ past))) p x) past ⊎ (text_at (world_after start (Act o (step.Rename p t x) Failed Before ∷ (Crash v ∷ past))) p x ≡ text)
crashed_law start past v o p t x text st (fails _ _ _ l lv ml) careful fresh c wrote =
    inl (had_as start past v o p t x text (failed Before lv ml) (crashed_at start past v p x st l careful.1 (none_before start o (step.Rename p t x) Failed Before (Crash v ∷ past) fresh) c))
crashed_law start past v o p t x text st (is_dead _ _ l d) careful fresh c wrote =
    inl (had_as start past v o p t x text (refused d) (crashed_at start past v p x st l careful.1 (none_before start o (step.Rename p t x) Failed Before (Crash v ∷ past) fresh) c))
crashed_law start past v o p t x text st (crashes_within _ _ _ l lv image) careful fresh c wrote =
    let fresh_b = none_before start o (step.Rename p t x) Failed Before (Crash v ∷ past) fresh in
    let careful_b = careful_back o (step.Rename p t x) v past careful.0 in
    let either = failed_next start past o p t x text c careful_b (failed Made lv (may_made (step.Rename p t x))) (inv start st l careful.1 fresh_b) wrote in
    let h = crash_law start (Act o (step.Rename p t x) Failed Made ∷ past) p x (shown v) _ st (fails o (step.Rename p t x) Made l lv (may_made (step.Rename p t x))) (careful_b, careful.1) fresh c (image_within start past v o (step.Rename p t x) _ image) in
    let nx : IsNext (world_after start (Crash v ∷ past)) o (step.Rename p t x) Failed Before = refused (ended_by start v past o (within_ended o v past (made (world_after start past) o (step.Rename p t x)).ended image.ended)) in
    elim (made_or start past v o p t x text either h) [
      | inl z ↦ inl (had_as start past v o p t x text nx z)
      | inr z ↦ inr (as_shown start past v o p t x text nx ∙ z)
    ]
