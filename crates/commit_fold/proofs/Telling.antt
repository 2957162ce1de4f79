-- The text of a committed name is the fold of the commits that count.
use Rattle.std.proofs.Common.{◌≡◌, ◌++◌, ◌&&◌, ℕ, true, false, ◌⊎◌, inl, inr, List, [], ◌∷◌, refl, sym, ◌∙◌, ap, subst}
use Rattle.folder_files.specs.Deeds.{Deed, did, Once, HasFailed, WasDone, now, on}
use Rattle.folder_files.specs.Histories.{world_after, own, has_acted, IsLive, IsLegal, begins, answers, fails, is_dead, delivers, crashes, crashes_within, stops, AreCareful}
use Rattle.folder_files.specs.Named.{is_committed}
use Rattle.folder_files.specs.Steps.{made}
use Rattle.folder_files.specs.Worlds.{WorldMap, shown, IsStart}
use Rattle.folder_files.specs.declared.event.After.{After}
use Rattle.folder_files.specs.declared.event.After.TheVariants.{Before, Made}
use Rattle.folder_files.specs.declared.event.Event.{Event}
use Rattle.folder_files.specs.declared.event.Event.TheVariants.{Act, Deliver, Crash, End}
use Rattle.folder_files.specs.declared.place.Place.{Place}
use Rattle.folder_files.specs.declared.step.Answer.{Answer}
use Rattle.folder_files.specs.declared.step.Answer.TheVariants.{Done, Failed}
use Rattle.folder_files.specs.declared.step.Step.{Step}
use Rattle.folder_files.specs.declared.step.Step.TheVariants as step
use Rattle.folder_files.specs.declared.world.World.{World}
use Rattle.step_plans.specs.Commits.{text_at, IsNoSync, HadText, now, on}
use Rattle.step_plans.specs.Moments.{IsNoCrash, live, cut}
use Rattle.step_plans.specs.Starts.{HasNoneOfTheirs}
use Rattle.folder_files.proofs.Effects.{IsNext, answered, failed, refused, world_crash, world_deliver, world_next}
use Rattle.step_plans.proofs.Past.{own_deliver, own_crash, own_end, own_start}
use Rattle.step_plans.proofs.Crashes.{ended_by}
use Rattle.step_plans.proofs.Law.{inv, none_before, may_made, careful_back, image_within, within_ended}
use Rattle.step_plans.proofs.Told.{lives_before}
use Rattle.step_plans.proofs.Drops.{own_split}
use Rattle.step_plans.proofs.Locks.{gone_crash, gone_within, live_end}
use Rattle.step_plans.proofs.Bases.{stays_law}
use Rattle.step_plans.proofs.Crashing.{crash_law}
use Rattle.commit_fold.specs.Counting.{Commit, commit, Counts, begins, done, failed, syncs, crash, within, on, IsDoneCommit, is_done, commits, done_in}
use Rattle.commit_fold.specs.Folding.{Replaces, AreReplacing, Makes, none, more, Tells, IsFold}
use Rattle.commit_fold.proofs.Turning.{Turns, turns_start, turns_stay, turns_cut, turns_plain, turns_sync, turns_commit}
use Rattle.commit_fold.proofs.Cases.{ActCase, Writes, plain, syncs, takes, act_case, commits_so}

had_case : {start : World} {p : Place} {x text : List ℕ} {e : Event} {past : List Event} → HadText start p x text (e ∷ past)
    → (text_at (world_after start (e ∷ past)) p x ≡ text) ⊎ (IsNoSync p e × IsNoCrash e × HadText start p x text past)
had_case (now z) = inl z
had_case (on n c h) = inr (n, c, h)

had_start : {start : World} {p : Place} {x text : List ℕ} → HadText start p x text [] → text_at (world_after start []) p x ≡ text
had_start (now z) = z

no_deeds : (ds : List Deed) → (Once (λ d older. Unit {0}) ds → ⊥) → ds ≡ []
no_deeds [] n = refl
no_deeds (d ∷ ds) n = absurd (n (now tt))

none_older : (newer older : List Commit) → ◌≡◌ {A = List Commit} [] (newer ++ older) → older ≡ []
none_older [] older e = sym e
none_older (c ∷ newer) older e = absurd (cc (e))

own_act : (r o : ℕ) (s : Step) (m n : After) (v : World) (past : List Event) → own r (Act o s Failed m ∷ (Crash v ∷ past)) ≡ own r (Act o s Failed n ∷ past)
unfolding own
own_act r o s m n v past = refl

-- some of the loose ones are cut off
abbrev pub IsCutAs : (ℕ → ℕ → List ℕ → List ℕ → Type 0) → List ℕ → List Commit → List Commit → List ℕ → Type 0
IsCutAs may old loose firm text = (newer : List Commit) × (older : List Commit) × (loose ≡ newer ++ older) × Makes may old (older ++ firm) text

pub record Told (may : ℕ → ℕ → List ℕ → List ℕ → Type 0) (start : World) (p : Place) (x : List ℕ) (past : List Event) : Type 0 where
  pub loose : List Commit
  pub firm : List Commit
  pub counts : Counts start p x (Tells start p x (Makes may (text_at (world_after start []) p x))) loose firm past
  pub present : Makes may (text_at (world_after start []) p x) (loose ++ firm) (text_at (world_after start past) p x)
  pub had : (text : List ℕ) → HadText start p x text past → IsCutAs may (text_at (world_after start []) p x) loose firm text
  pub turns : Turns p x (λ r. own r past) (λ r. IsLive r (world_after start past)) loose firm

now_only : {may : ℕ → ℕ → List ℕ → List ℕ → Type 0} {old text : List ℕ} {loose firm : List Commit} {u : List ℕ} → Makes may old (loose ++ firm) u → u ≡ text → IsCutAs may old loose firm text
now_only {may = may} {old = old} {loose = loose} {firm = firm} m e = ([], loose, refl, subst (λ (z : List ℕ). Makes may old (loose ++ firm) z) e m)

module _ (may : ℕ → ℕ → List ℕ → List ℕ → Type 0) (start : World) (p : Place) (x : List ℕ) where
  abbrev old : List ℕ
  old = text_at (world_after start []) p x

  abbrev Says : List Commit → List Commit → List Event → Type 0
  Says = Tells start p x (Makes may old)

  -- what is known of these commits at a moment tells so
  abbrev Telling : List Event → Type 0
  Telling past = (loose firm : List Commit) → Makes may old (loose ++ firm) (text_at (world_after start past) p x) → ((text : List ℕ) → HadText start p x text past → IsCutAs may old loose firm text)
      → Turns p x (λ r. own r past) (λ r. IsLive r (world_after start past)) loose firm → Says loose firm past

  telling : is_committed p x ≡ true → IsStart start → (past : List Event) → IsLegal start past → AreCareful past → HasNoneOfTheirs start past → Telling past
  telling c st past l careful fresh loose firm present had turns = record {
    now = present;
    later = λ v acted image. had (text_at v p x) (crash_law start past p x v acted st l careful fresh c image);
    front = turns.front;
    whole = turns.whole;
  }

  -- an event that changes nothing of this
  quiet : (e : Event) (past : List Event) → Told may start p x past → Telling (e ∷ past) → (IsDoneCommit p x e → ⊥) → IsNoSync p e → IsNoCrash e → text_at (world_after start (e ∷ past)) p x ≡ text_at (world_after start past) p x
      → ((loose firm : List Commit) → Turns p x (λ r. own r past) (λ r. IsLive r (world_after start past)) loose firm → Turns p x (λ r. own r (e ∷ past)) (λ r. IsLive r (world_after start (e ∷ past))) loose firm)
      → Told may start p x (e ∷ past)
  quiet e past k tell nd ns nc same turns = record {
    loose = k.loose;
    firm = k.firm;
    counts = on nd ns nc k.counts (tell k.loose k.firm present had (turns k.loose k.firm k.turns));
    present = present;
    had = had;
    turns = turns k.loose k.firm k.turns;
  }
    where
      present : Makes may old (k.loose ++ k.firm) (text_at (world_after start (e ∷ past)) p x)
      present = subst (λ (z : List ℕ). Makes may old (k.loose ++ k.firm) z) (sym same) k.present

      had : (text : List ℕ) → HadText start p x text (e ∷ past) → IsCutAs may old k.loose k.firm text
      had text h = elim (had_case h) [
        | inl z ↦ now_only k.present (sym same ∙ z)
        | inr z ↦ k.had text z.2
      ]

  module _ (past : List Event) (o : ℕ) (s : Step) (a : Answer) (m : After) (nx : IsNext (world_after start past) o s a m) (k : Told may start p x past) (tell : Telling (Act o s a m ∷ past)) where
    mine : own o (Act o s a m ∷ past) ≡ did s a ∷ own o past
    mine = elim (own_split o o s a m past) [ inl z ↦ z.1 | inr z ↦ absurd (z.0 refl) ]

    others : (r : ℕ) → (o ≡ r → ⊥) → own r (Act o s a m ∷ past) ≡ own r past
    others r n = elim (own_split r o s a m past) [ inl z ↦ absurd (n z.0) | inr z ↦ z.1 ]

    back : (r : ℕ) → IsLive r (world_after start (Act o s a m ∷ past)) → IsLive r (world_after start past)
    back r lv = lives_before start r o s a m past nx lv

    no_done : (commits p x s && is_done a) ≡ false → (t : List ℕ) × (s ≡ step.Rename p t x) × (a ≡ Done) → ⊥
    no_done count z = let e : (commits p x s && is_done a) ≡ true = rw (commits_so p z.0 x s z.1, z.2) refl in cc (count, e)

    by_plain : (commits p x s && is_done a) ≡ false → IsNoSync p (Act o s a m) → (s ≡ step.SyncFolder p → a ≡ Done → ⊥) → text_at (world_after start (Act o s a m ∷ past)) p x ≡ text_at (world_after start past) p x → Told may start p x (Act o s a m ∷ past)
    by_plain count ns unsynced same = quiet (Act o s a m) past k tell (no_done count) ns tt same
        (λ loose firm t. turns_plain p x (λ r. own r past) (λ r. own r (Act o s a m ∷ past)) (λ r. IsLive r (world_after start past)) (λ r. IsLive r (world_after start (Act o s a m ∷ past))) loose firm o s a mine others back t count unsynced)

    by_sync : s ≡ step.SyncFolder p → m ≡ Made → IsLive o (world_after start past) → text_at (world_after start (Act o s a m ∷ past)) p x ≡ text_at (world_after start past) p x → Told may start p x (Act o s a m ∷ past)
    by_sync es em alive same = record { loose = []; firm = k.loose ++ k.firm; counts = counts; present = present; had = had; turns = turns }
      where
        uncounted : (commits p x s && is_done a) ≡ false
        uncounted = rw es refl

        present : Makes may old (k.loose ++ k.firm) (text_at (world_after start (Act o s a m ∷ past)) p x)
        present = subst (λ (z : List ℕ). Makes may old (k.loose ++ k.firm) z) (sym same) k.present

        had : (text : List ℕ) → HadText start p x text (Act o s a m ∷ past) → IsCutAs may old [] (k.loose ++ k.firm) text
        had text h = elim (had_case h) [
          | inl z ↦ ([], [], refl, subst (λ (y : List ℕ). Makes may old (k.loose ++ k.firm) y) (sym same ∙ z) k.present)
          | inr z ↦ absurd (z.0 es em)
        ]

        turns : Turns p x (λ r. own r (Act o s a m ∷ past)) (λ r. IsLive r (world_after start (Act o s a m ∷ past))) [] (k.loose ++ k.firm)
        turns = turns_sync p x (λ r. own r past) (λ r. own r (Act o s a m ∷ past)) (λ r. IsLive r (world_after start past)) (λ r. IsLive r (world_after start (Act o s a m ∷ past))) k.loose k.firm o s a mine others back k.turns uncounted alive

        as_sync : {z : Step} {n : After} → z ≡ step.SyncFolder p → n ≡ Made → Says [] (k.loose ++ k.firm) (Act o z a n ∷ past) → Counts start p x Says [] (k.loose ++ k.firm) (Act o z a n ∷ past)
        as_sync {z = z} {n = n} ez en = subst (λ (y : Step). Says [] (k.loose ++ k.firm) (Act o y a n ∷ past) → Counts start p x Says [] (k.loose ++ k.firm) (Act o y a n ∷ past)) (sym ez)
            (subst (λ (y : After). Says [] (k.loose ++ k.firm) (Act o (step.SyncFolder p) a y ∷ past) → Counts start p x Says [] (k.loose ++ k.firm) (Act o (step.SyncFolder p) a y ∷ past)) (sym en) (λ says. syncs k.counts says))

        counts : Counts start p x Says [] (k.loose ++ k.firm) (Act o s a m ∷ past)
        counts = as_sync es em (tell [] (k.loose ++ k.firm) present had turns)

    abbrev this : Commit
    this = commit o (done_in p x (own o past))

    by_commit : (t : List ℕ) → s ≡ step.Rename p t x → (a ≡ Done) ⊎ ((a ≡ Failed) × (m ≡ Made)) → IsLive o (world_after start past) → (HasFailed (own o past) → ⊥)
        → may o (done_in p x (own o past)) (text_at (world_after start past) p x) (text_at (world_after start (Act o s a m ∷ past)) p x) → Told may start p x (Act o s a m ∷ past)
    by_commit t es answer alive clean change = record { loose = this ∷ k.loose; firm = k.firm; counts = counts; present = more k.present change; had = had; turns = turns }
      where
        had : (text : List ℕ) → HadText start p x text (Act o s a m ∷ past) → IsCutAs may old (this ∷ k.loose) k.firm text
        had text h = elim (had_case h) [
          | inl z ↦ now_only {loose = this ∷ k.loose} {firm = k.firm} (more k.present change) z
          | inr z ↦ (let y = k.had text z.2 in (this ∷ y.0, y.1, ap (λ l. this ∷ l) y.2, y.3))
        ]

        turns : Turns p x (λ r. own r (Act o s a m ∷ past)) (λ r. IsLive r (world_after start (Act o s a m ∷ past))) (this ∷ k.loose) k.firm
        turns = turns_commit p x (λ r. own r past) (λ r. own r (Act o s a m ∷ past)) (λ r. IsLive r (world_after start past)) (λ r. IsLive r (world_after start (Act o s a m ∷ past))) k.loose k.firm o s a mine others back k.turns (commits_so p t x s es) alive clean
            (elim (answer) [ inl e ↦ inl e | inr e ↦ inr e.0 ])

        as_done : {z : Step} {b : Answer} → z ≡ step.Rename p t x → b ≡ Done → Says (this ∷ k.loose) k.firm (Act o z b m ∷ past) → Counts start p x Says (this ∷ k.loose) k.firm (Act o z b m ∷ past)
        as_done {z = z} {b = b} ez eb = subst (λ (y : Step). Says (this ∷ k.loose) k.firm (Act o y b m ∷ past) → Counts start p x Says (this ∷ k.loose) k.firm (Act o y b m ∷ past)) (sym ez)
            (subst (λ (y : Answer). Says (this ∷ k.loose) k.firm (Act o (step.Rename p t x) y m ∷ past) → Counts start p x Says (this ∷ k.loose) k.firm (Act o (step.Rename p t x) y m ∷ past)) (sym eb) (λ says. done k.counts says))

        as_failed : {z : Step} {b : Answer} {n : After} → z ≡ step.Rename p t x → b ≡ Failed → n ≡ Made → Says (this ∷ k.loose) k.firm (Act o z b n ∷ past) → Counts start p x Says (this ∷ k.loose) k.firm (Act o z b n ∷ past)
        as_failed {z = z} {b = b} {n = n} ez eb en = subst (λ (y : Step). Says (this ∷ k.loose) k.firm (Act o y b n ∷ past) → Counts start p x Says (this ∷ k.loose) k.firm (Act o y b n ∷ past)) (sym ez)
            (subst (λ (y : Answer). Says (this ∷ k.loose) k.firm (Act o (step.Rename p t x) y n ∷ past) → Counts start p x Says (this ∷ k.loose) k.firm (Act o (step.Rename p t x) y n ∷ past)) (sym eb)
            (subst (λ (y : After). Says (this ∷ k.loose) k.firm (Act o (step.Rename p t x) Failed y ∷ past) → Counts start p x Says (this ∷ k.loose) k.firm (Act o (step.Rename p t x) Failed y ∷ past)) (sym en) (λ says. failed alive k.counts says)))

        counts : Counts start p x Says (this ∷ k.loose) k.firm (Act o s a m ∷ past)
        counts = elim (answer) [
          | inl e ↦ as_done es e (tell (this ∷ k.loose) k.firm (more k.present change) had turns)
          | inr e ↦ as_failed es e.0 e.1 (tell (this ∷ k.loose) k.firm (more k.present change) had turns)
        ]

    grown : ActCase may start p x past o s a m → Told may start p x (Act o s a m ∷ past)
    grown (plain count ns unsynced same) = by_plain count ns unsynced same
    grown (syncs es em alive same) = by_sync es em alive same
    grown (takes t es answer alive clean change) = by_commit t es answer alive clean change

  -- what a crash leaves
  cut_told : (past after : List Event) (k : Told may start p x past) (newer older : List Commit) → Telling after → k.loose ≡ newer ++ older → (Says [] (older ++ k.firm) after → Counts start p x Says [] (older ++ k.firm) after)
      → Makes may old (older ++ k.firm) (text_at (world_after start after) p x) → ((text : List ℕ) → HadText start p x text after → text_at (world_after start after) p x ≡ text)
      → ((r : ℕ) → own r after ≡ own r past) → ((r : ℕ) → IsLive r (world_after start after) → own r after ≡ []) → Told may start p x after
  cut_told past after k newer older tell e counts makes only deeds fresh = record {
    loose = [];
    firm = older ++ k.firm;
    counts = counts (tell [] (older ++ k.firm) makes had turns);
    present = makes;
    had = had;
    turns = turns;
  }
    where
      had : (text : List ℕ) → HadText start p x text after → IsCutAs may old [] (older ++ k.firm) text
      had text h = ([], [], refl, subst (λ (z : List ℕ). Makes may old (older ++ k.firm) z) (only text h) makes)

      turns : Turns p x (λ r. own r after) (λ r. IsLive r (world_after start after)) [] (older ++ k.firm)
      turns = turns_stay p x (λ r. own r past) (λ r. own r after) (λ r. IsLive r (world_after start after)) (λ r. IsLive r (world_after start after)) [] (older ++ k.firm) deeds (λ r lv. lv)
          (turns_cut p x (λ r. own r past) (λ r. IsLive r (world_after start past)) (λ r. IsLive r (world_after start after)) k.loose k.firm newer older e (λ r lv. sym (deeds r) ∙ fresh r lv) k.turns)

  same_dead : (o : ℕ) (s : Step) (past : List Event) → IsNext (world_after start past) o s Failed Before → text_at (world_after start (Act o s Failed Before ∷ past)) p x ≡ text_at (world_after start past) p x
  same_dead o s past nx = ap (λ z. text_at z p x) (world_next start o s Failed Before past nx)

  module _ (c : is_committed p x ≡ true) (st : IsStart start) where
    writes : (o : ℕ) (s : Step) (past : List Event) → Replaces may start p x o s past → Writes may start p x o s past
    writes o s past h t es lv = h t es past (live lv)

    writes_within : (o : ℕ) (s : Step) (v : World) (past : List Event) → (shown v).ended o ≡ true → Replaces may start p x o s (Crash v ∷ past) → Writes may start p x o s past
    writes_within o s v past over h t es lv =
        subst (λ (ds : List Deed). (text : List ℕ) × WasDone (step.Create p t text) ds × may o (done_in p x ds) (text_at (world_after start past) p x) text) (own_crash o v past) (h t es past (cut over lv))

    told_so : {past : List Event} → IsLegal start past → AreCareful past → HasNoneOfTheirs start past → AreReplacing may start p x past → Told may start p x past
    told_so begins careful fresh replaces = record { loose = []; firm = []; counts = begins (telling c st [] begins tt fresh [] [] none had turns); present = none; had = had; turns = turns }
      where
        had : (text : List ℕ) → HadText start p x text [] → IsCutAs may old [] [] text
        had text h = ([], [], refl, subst (λ (z : List ℕ). Makes may old [] z) (had_start h) none)

        turns : Turns p x (λ r. own r []) (λ r. IsLive r (world_after start [])) [] []
        turns = turns_start p x (λ r. own r []) (λ r. IsLive r (world_after start [])) (λ r. own_start r)
    told_so (answers o s a {past = past} l lv fits) careful fresh replaces = let fresh_b = none_before start o s a Made past fresh in
        grown past o s a Made (answered a lv fits) (told_so l careful.1 fresh_b replaces.1) (telling c st (Act o s a Made ∷ past) (answers o s a l lv fits) careful fresh)
        (act_case may start past o s p x c careful.0 (answered a lv fits) (inv start st l careful.1 fresh_b) (writes o s past replaces.0))
    told_so (fails o s m {past = past} l lv ml) careful fresh replaces = let fresh_b = none_before start o s Failed m past fresh in
        grown past o s Failed m (failed m lv ml) (told_so l careful.1 fresh_b replaces.1) (telling c st (Act o s Failed m ∷ past) (fails o s m l lv ml) careful fresh)
        (act_case may start past o s p x c careful.0 (failed m lv ml) (inv start st l careful.1 fresh_b) (writes o s past replaces.0))
    told_so (is_dead o s {past = past} l d) careful fresh replaces = let fresh_b = none_before start o s Failed Before past fresh in
        grown past o s Failed Before (refused d) (told_so l careful.1 fresh_b replaces.1) (telling c st (Act o s Failed Before ∷ past) (is_dead o s l d) careful fresh)
        (act_case may start past o s p x c careful.0 (refused d) (inv start st l careful.1 fresh_b) (writes o s past replaces.0))
    told_so (delivers path piece {past = past} l) careful fresh replaces =
        quiet (Deliver path piece) past (told_so l careful fresh replaces) (telling c st (Deliver path piece ∷ past) (delivers path piece l) careful fresh) (λ z. z) tt tt (stays_law start past (Deliver path piece) p x st (delivers path piece l) careful fresh c (λ z. z) tt)
        (λ loose firm t. turns_stay p x (λ r. own r past) (λ r. own r (Deliver path piece ∷ past)) (λ r. IsLive r (world_after start past)) (λ r. IsLive r (world_after start (Deliver path piece ∷ past))) loose firm (λ r. own_deliver r path piece past)
        (λ r lv. subst (λ (y : WorldMap). y.ended r ≡ false) (world_deliver start path piece past) lv) t)
    told_so (crashes v {past = past} l image) careful fresh replaces =
        let k = told_so l careful fresh replaces in
        let y = k.had (text_at (shown v) p x) (crash_law start past p x (shown v) (has_acted past) st l careful fresh c image) in
        cut_told past (Crash v ∷ past) k y.0 y.1 (telling c st (Crash v ∷ past) (crashes v l image) careful fresh) y.2 (λ says. crash y.0 y.1 k.counts y.2 says)
        (subst (λ (z : WorldMap). Makes may old (y.1 ++ k.firm) (text_at z p x)) (sym (world_crash start v past)) y.3)
        (λ text h. elim (had_case h) [ inl z ↦ z | inr z ↦ absurd z.1 ]) (λ r. own_crash r v past)
        (λ r lv. own_crash r v past ∙ no_deeds (own r past) (λ w. gone_crash start r v past image.ended w lv))
    told_so (crashes_within v o s {past = past} l lv image) careful fresh replaces =
        let fresh_b = none_before start o s Failed Before (Crash v ∷ past) fresh in
        let nx : IsNext (world_after start past) o s Failed Made = failed Made lv (may_made s) in
        let within_replaces = writes_within o s v past (within_ended o v past (made (world_after start past) o s).ended image.ended) replaces.0 in
        let careful_b = careful_back o s v past careful.0 in
        let made_l : IsLegal start (Act o s Failed Made ∷ past) = fails o s Made l lv (may_made s) in
        let k = grown past o s Failed Made nx (told_so l careful.1 fresh_b replaces.1) (telling c st (Act o s Failed Made ∷ past) made_l (careful_b, careful.1) fresh)
        (act_case may start past o s p x c careful_b nx (inv start st l careful.1 fresh_b) within_replaces) in
        let y = k.had (text_at (shown v) p x) (crash_law start (Act o s Failed Made ∷ past) p x (shown v) _ st made_l (careful_b, careful.1) fresh c (image_within start past v o s _ image)) in
        let same = same_dead o s (Crash v ∷ past) (refused (ended_by start v past o (within_ended o v past (made (world_after start past) o s).ended image.ended))) in
        cut_told (Act o s Failed Made ∷ past) (Act o s Failed Before ∷ (Crash v ∷ past)) k y.0 y.1 (telling c st (Act o s Failed Before ∷ (Crash v ∷ past)) (crashes_within v o s l lv image) careful fresh) y.2
        (λ says. within y.0 y.1 k.counts y.2 says)
        (subst (λ (z : List ℕ). Makes may old (y.1 ++ k.firm) z) (sym (same ∙ ap (λ z. text_at z p x) (world_crash start v past))) y.3)
        (λ text h. elim (had_case h) [ inl z ↦ z | inr z ↦ elim (had_case z.2) [ inl u ↦ same ∙ u | inr u ↦ absurd u.1 ] ])
        (λ r. own_act r o s Before Made v past)
        (λ r alive. no_deeds (own r (Act o s Failed Before ∷ (Crash v ∷ past))) (λ w. gone_within start r o s v past image.ended w alive))
    told_so (stops o {past = past} l) careful fresh replaces =
        quiet (End o) past (told_so l careful fresh replaces) (telling c st (End o ∷ past) (stops o l) careful fresh) (λ z. z) tt tt (stays_law start past (End o) p x st (stops o l) careful fresh c (λ z. z) tt)
        (λ loose firm t. turns_stay p x (λ r. own r past) (λ r. own r (End o ∷ past)) (λ r. IsLive r (world_after start past)) (λ r. IsLive r (world_after start (End o ∷ past))) loose firm (λ r. own_end r o past)
        (λ r lv. (live_end start r o past lv).1) t)

-- where each commit replaces as its change says
pub fold_so : (may : ℕ → ℕ → List ℕ → List ℕ → Type 0) (start : World) (past : List Event) (p : Place) (x : List ℕ) → IsStart start → IsLegal start past → AreCareful past → HasNoneOfTheirs start past
    → is_committed p x ≡ true → AreReplacing may start p x past → IsFold start p x (Makes may (text_at (world_after start []) p x)) past
fold_so may start past p x st l careful fresh c replaces =
    let k = told_so may start p x c st l careful fresh replaces in
    record { loose = k.loose; firm = k.firm; counts = k.counts; tells = telling may start p x c st past l careful fresh k.loose k.firm k.present k.had k.turns }
