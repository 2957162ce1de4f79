-- What an act does to the text of a committed name.
use Rattle.std.proofs.Common.{◌≡◌, ℕ, Bool, true, false, ◌&&◌, ◌⊎◌, inl, inr, List, ◌∷◌, bytes_eq, refl, sym, ◌∙◌, ap, subst}
use Rattle.mh_base.specs.Entries.{kind_of}
use Rattle.folder_files.specs.Deeds.{WasDone, HasFailed}
use Rattle.folder_files.specs.Directory.{now_in}
use Rattle.folder_files.specs.Histories.{world_after, own, IsLive}
use Rattle.folder_files.specs.Named.{is_committed, is_temp_of}
use Rattle.folder_files.specs.Places.{same_place}
use Rattle.folder_files.specs.Steps.{name_answer}
use Rattle.folder_files.specs.Worlds.{WorldMap}
use Rattle.folder_files.specs.declared.event.After.{After}
use Rattle.folder_files.specs.declared.event.After.TheVariants.{Before, Made, Torn}
use Rattle.folder_files.specs.declared.event.Event.{Event}
use Rattle.folder_files.specs.declared.event.Event.TheVariants.{Act}
use Rattle.folder_files.specs.declared.place.Place.{Place}
use Rattle.folder_files.specs.declared.step.Answer.{Answer}
use Rattle.folder_files.specs.declared.step.Answer.TheVariants.{Done, Failed}
use Rattle.folder_files.specs.declared.step.Step.{Step}
use Rattle.folder_files.specs.declared.step.Step.TheVariants as step
use Rattle.folder_files.specs.declared.world.World.{World}
use Rattle.step_plans.specs.Commits.{text_of, text_at, IsNoSync}
use Rattle.folder_files.proofs.Sameness.{place_same, place_is}
use Rattle.folder_files.proofs.Names.{both, bytes_true, bytes_self}
use Rattle.folder_files.proofs.Effects.{IsNext, answered, failed, refused, left, left_directory, fits_as, world_next}
use Rattle.step_plans.proofs.Inv.{Inv}
use Rattle.step_plans.proofs.Discipline.{Cares, committed_lock, careful_rename}
use Rattle.step_plans.proofs.Committing.{Spares, stays, commit_of, left_spares, torn_commit, commit_leads, text_spared}
use Rattle.step_plans.proofs.Crashing.{sync_case}
use Rattle.step_plans.proofs.CutCommits.{some_answer}
use Rattle.commit_fold.specs.Counting.{is_done, commits, done_in}

-- what the tests tell
pub commits_tell : (p : Place) (x : List ℕ) (s : Step) → commits p x s ≡ true → (t : List ℕ) × (s ≡ step.Rename p t x)
commits_tell p x (step.Rename q a b) e = let z = both (same_place q p) (bytes_eq b x) e in (a, λ i. step.Rename (place_same q p z.0 i) a (bytes_true b x z.1 i))
commits_tell p x s e = absurd (cc (e))

done_tells : (a : Answer) → is_done a ≡ true → a ≡ Done
done_tells Done e = refl
done_tells a e = absurd (cc (e))

pub commits_so : (p : Place) (t x : List ℕ) (s : Step) → s ≡ step.Rename p t x → commits p x s ≡ true
commits_so p t x s e = rw (e, place_is p, bytes_self x) refl

-- a commit of the name that a live run tries writes what its change may make of the text
abbrev pub Writes : (ℕ → ℕ → List ℕ → List ℕ → Type 0) → World → Place → List ℕ → ℕ → Step → List Event → Type 0
Writes may start p x o s past = (t : List ℕ) → s ≡ step.Rename p t x → IsLive o (world_after start past)
    → (text : List ℕ) × WasDone (step.Create p t text) (own o past) × may o (done_in p x (own o past)) (text_at (world_after start past) p x) text

-- an act is no commit that took effect and no sync of the directory; or such a sync; or such a commit
pub data ActCase (may : ℕ → ℕ → List ℕ → List ℕ → Type 0) (start : World) (p : Place) (x : List ℕ) (past : List Event) (o : ℕ) (s : Step) (a : Answer) (m : After) : Type 0 where
  plain : (commits p x s && is_done a) ≡ false → IsNoSync p (Act o s a m) → (s ≡ step.SyncFolder p → a ≡ Done → ⊥) → text_at (world_after start (Act o s a m ∷ past)) p x ≡ text_at (world_after start past) p x → ActCase may start p x past o s a m
  syncs : s ≡ step.SyncFolder p → m ≡ Made → IsLive o (world_after start past) → text_at (world_after start (Act o s a m ∷ past)) p x ≡ text_at (world_after start past) p x → ActCase may start p x past o s a m
  takes : (t : List ℕ) → s ≡ step.Rename p t x → (a ≡ Done) ⊎ ((a ≡ Failed) × (m ≡ Made)) → IsLive o (world_after start past) → (HasFailed (own o past) → ⊥)
      → may o (done_in p x (own o past)) (text_at (world_after start past) p x) (text_at (world_after start (Act o s a m ∷ past)) p x) → ActCase may start p x past o s a m

module _ (start : World) (past : List Event) (o : ℕ) (s : Step) (a : Answer) (m : After) (p : Place) (x : List ℕ) (c : is_committed p x ≡ true) (careful : Cares o (own o past) s) (nx : IsNext (world_after start past) o s a m) (i : Inv start past) where
  abbrev w : WorldMap
  w = world_after start past

  pub same_text : Spares x (w.directories p) (left_directory w s m p) → text_at (world_after start (Act o s a m ∷ past)) p x ≡ text_at w p x
  same_text z = ap (λ k. text_at k p x) (world_next start o s a m past nx) ∙ text_spared w o s a m p x (i.below p) z

  may_commit : (t : List ℕ) → s ≡ step.Rename p t x → (HasFailed (own o past) → ⊥) × (is_temp_of o (kind_of t) ≡ true)
  may_commit t es =
      let k = careful_rename o (own o past) p t x (subst (λ (z : Step). Cares o (own o past) z) es careful (committed_lock p x c)) in
      (k.0, (commit_of o (own o past) p t x c k.1).1.0)

  -- the text of a commit that took effect
  pub commit_text : (t text : List ℕ) → s ≡ step.Rename p t x → m ≡ Made → IsLive o w → WasDone (step.Create p t text) (own o past) → Done ≡ name_answer (now_in (w.directories p) t)
      → text_at (world_after start (Act o s a m ∷ past)) p x ≡ text
  commit_text t text es em lv wrote fits = ap (λ k. text_at k p x) (world_next start o s a m past nx)
      ∙ subst (λ (z : After). text_at (left w o s a z) p x ≡ text) (sym em) (subst (λ (z : Step). text_at (left w o z a Made) p x ≡ text) (sym es) here)
    where
      here : text_at (left w o (step.Rename p t x) a Made) p x ≡ text
      here = let temp = (may_commit t es).1 in let z = commit_leads w p t x o temp c fits in
          ap (text_of (left w o (step.Rename p t x) a Made)) z.2 ∙ i.temps o p t z.0 text (committed_lock p x c) temp lv wrote z.1

  module _ (may : ℕ → ℕ → List ℕ → List ℕ → Type 0) (replaces : Writes may start p x o s past) where
    took : (t : List ℕ) → s ≡ step.Rename p t x → (a ≡ Done) ⊎ ((a ≡ Failed) × (m ≡ Made)) → m ≡ Made → IsLive o w → Done ≡ name_answer (now_in (w.directories p) t) → ActCase may start p x past o s a m
    took t es answer em lv fits =
        let k = replaces t es lv in
        takes t es answer lv (may_commit t es).0 (subst (λ (z : List ℕ). may o (done_in p x (own o past)) (text_at w p x) z) (sym (commit_text t k.0 es em lv k.1 fits)) k.2)

    spared : Spares x (w.directories p) (left_directory w s m p) → (commits p x s && is_done a) ≡ false → (a ≡ Done → m ≡ Made) → (m ≡ Made → IsLive o w) → ActCase may start p x past o s a m
    spared z count made live = elim (sync_case p o s a m) [
      | inl k ↦ syncs k.0 k.1 (live k.1) (same_text z)
      | inr k ↦ plain count k (λ es ea. k es (made ea)) (same_text z)
    ]

uncounted : (p : Place) (x : List ℕ) (s : Step) → (commits p x s && is_done Failed) ≡ false
uncounted p x s = go (commits p x s)
  where
    go : (v : Bool) → (v && false) ≡ false
    go true = refl
    go false = refl

pub act_case : (may : ℕ → ℕ → List ℕ → List ℕ → Type 0) (start : World) (past : List Event) (o : ℕ) (s : Step) {a : Answer} {m : After} (p : Place) (x : List ℕ) → is_committed p x ≡ true → Cares o (own o past) s → IsNext (world_after start past) o s a m → Inv start past
    → Writes may start p x o s past
    → ActCase may start p x past o s a m
act_case may start past o s p x c careful (answered a lv fits) i replaces = go (commits p x s) refl (is_done a) refl
  where
    nx : IsNext (world_after start past) o s a Made
    nx = answered a lv fits

    other : (commits p x s && is_done a) ≡ false → ActCase may start p x past o s a Made
    other count = elim (left_spares (world_after start past) o (own o past) s a Made p x c careful nx) [
      | inl z ↦ spared start past o s a Made p x c careful nx i may replaces z count (λ e. refl) (λ e. lv)
      | inr z ↦ took start past o s a Made p x c careful nx i may replaces z.0.0 z.0.1
          (inl (fits_as (world_after start past) o s (step.Rename p z.0.0 x) a a z.0.1 refl fits ∙ sym (some_answer (now_in ((world_after start past).directories p) z.0.0) z.0.3.0 z.0.3.1))) refl lv
          (some_answer (now_in ((world_after start past).directories p) z.0.0) z.0.3.0 z.0.3.1)
    ]

    go : (u : Bool) → commits p x s ≡ u → (v : Bool) → is_done a ≡ v → ActCase may start p x past o s a Made
    go true e true k = let z = commits_tell p x s e in
        took start past o s a Made p x c careful nx i may replaces z.0 z.1 (inl (done_tells a k)) refl lv (sym (done_tells a k) ∙ fits_as (world_after start past) o s (step.Rename p z.0 x) a a z.1 refl fits)
    go true e false k = other (rw (e, k) refl)
    go false e v k = other (rw e refl)
act_case may start past o s p x c careful (failed Before lv ml) i replaces =
    spared start past o s Failed Before p x c careful (failed Before lv ml) i may replaces stays (uncounted p x s) (λ e. absurd (cc (e))) (λ e. lv)
act_case may start past o s p x c careful (failed Made lv ml) i replaces = elim (left_spares (world_after start past) o (own o past) s Failed Made p x c careful (failed Made lv ml)) [
  | inl z ↦ spared start past o s Failed Made p x c careful (failed Made lv ml) i may replaces z (uncounted p x s) (λ e. refl) (λ e. lv)
  | inr z ↦ took start past o s Failed Made p x c careful (failed Made lv ml) i may replaces z.0.0 z.0.1 (inr (refl, refl)) refl lv (some_answer (now_in ((world_after start past).directories p) z.0.0) z.0.3.0 z.0.3.1)
]
act_case may start past o s p x c careful (failed (Torn b) lv ml) i replaces =
    spared start past o s Failed (Torn b) p x c careful (failed (Torn b) lv ml) i may replaces (torn_commit (world_after start past) o (own o past) s b p x c careful ml) (uncounted p x s) (λ e. absurd (cc (e))) (λ e. lv)
act_case may start past o s p x c careful (refused d) i replaces =
    spared start past o s Failed Before p x c careful (refused d) i may replaces stays (uncounted p x s) (λ e. absurd (cc (e))) (λ e. absurd (cc (e)))
