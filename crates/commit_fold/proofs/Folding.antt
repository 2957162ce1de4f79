-- The laws: commits that are made of their bases, and what the texts say.
use Rattle.std.proofs.Common.{◌≡◌, ℕ, Bool, true, List, [], ◌∷◌, refl, sym, ◌∙◌, ap, subst}
use Rattle.folder_files.specs.Deeds.{Deed, HasFailed}
use Rattle.folder_files.specs.Histories.{world_after, own, IsLegal, begins, answers, fails, is_dead, delivers, crashes, crashes_within, stops, AreCareful, AreHonest, AreOrderly}
use Rattle.folder_files.specs.Named.{is_committed}
use Rattle.folder_files.specs.Worlds.{IsStart}
use Rattle.folder_files.specs.declared.event.After.{After}
use Rattle.folder_files.specs.declared.event.After.TheVariants.{Before, Made}
use Rattle.folder_files.specs.declared.event.Event.{Event}
use Rattle.folder_files.specs.declared.event.Event.TheVariants.{Act, Deliver, Crash, End}
use Rattle.folder_files.specs.declared.place.Place.{Place}
use Rattle.folder_files.specs.declared.step.Answer.{Answer}
use Rattle.folder_files.specs.declared.step.Answer.TheVariants.{Failed}
use Rattle.folder_files.specs.declared.step.Step.{Step}
use Rattle.folder_files.specs.declared.step.Step.TheVariants as step
use Rattle.folder_files.specs.declared.world.World.{World}
use Rattle.step_plans.specs.Commits.{text_at, IsBase}
use Rattle.step_plans.specs.Moments.{IsTriedAt}
use Rattle.step_plans.specs.Starts.{HasNoneOfTheirs}
use Rattle.step_plans.proofs.Discipline.{committed_lock, careful_rename}
use Rattle.step_plans.proofs.Law.{none_before}
use Rattle.step_plans.proofs.Tried.{tried, careful_then, none_then}
use Rattle.step_plans.proofs.Locks.{honest_before}
use Rattle.step_plans.proofs.Bases.{base_is, honest_then, orderly_then}
use Rattle.commit_fold.specs.Counting.{Commit, Counts, begins, done, failed, syncs, crash, within, on, done_in}
use Rattle.commit_fold.specs.Folding.{Changes, AreChanges, Replaces, AreReplacing, OwnAreReplacing, Makes, none, more, by, marking, fold, Tells, IsFold}
use Rattle.commit_fold.proofs.Telling.{fold_so}

-- whatever base a run has is the text that its commit replaces
pub base_text : (start : World) (past : List Event) (r : ℕ) (p : Place) (t x : List ℕ) (a : Answer) (m : After) → IsStart start → IsLegal start (Act r (step.Rename p t x) a m ∷ past) → AreCareful (Act r (step.Rename p t x) a m ∷ past)
    → HasNoneOfTheirs start (Act r (step.Rename p t x) a m ∷ past) → AreHonest start (Act r (step.Rename p t x) a m ∷ past) → AreOrderly (Act r (step.Rename p t x) a m ∷ past) → is_committed p x ≡ true
    → (moment : List Event) → IsTriedAt start r moment past → (text : List ℕ) → IsBase r p x text (own r past) → text_at (world_after start moment) p x ≡ text
base_text start past r p t x a m st l careful fresh honest orderly c moment tr text base =
    let k = tried start r (step.Rename p t x) l tr in
    let may = careful_rename r (own r past) p t x (careful.0 (committed_lock p x c)) in
    base_is start r p x st k.legal (careful_then tr careful.1) (none_then tr (none_before start r (step.Rename p t x) a m past fresh)) (honest_then tr (honest_before start (Act r (step.Rename p t x) a m) past honest)) (orderly_then tr orderly.1) c
    k.lives (subst (λ (ds : List Deed). HasFailed ds → ⊥) k.deeds may.0) text (subst (λ (ds : List Deed). IsBase r p x text ds) k.deeds base)

module _ (may : ℕ → ℕ → List ℕ → List ℕ → Type 0) (start : World) (p : Place) (x : List ℕ) (c : is_committed p x ≡ true) (st : IsStart start) where
  replaces : (past : List Event) (o : ℕ) (s : Step) (a : Answer) (m : After) → IsLegal start (Act o s a m ∷ past) → AreCareful (Act o s a m ∷ past) → HasNoneOfTheirs start (Act o s a m ∷ past)
      → AreHonest start (Act o s a m ∷ past) → AreOrderly (Act o s a m ∷ past) → Changes may p x o (own o past) s → Replaces may start p x o s past
  replaces past o s a m l careful fresh honest orderly changes t es moment tr =
      let k = changes t es in
      let same = base_text start past o p t x a m st (subst (λ z. IsLegal start (Act o z a m ∷ past)) es l) (subst (λ z. AreCareful (Act o z a m ∷ past)) es careful) (subst (λ z. HasNoneOfTheirs start (Act o z a m ∷ past)) es fresh)
      (subst (λ z. AreHonest start (Act o z a m ∷ past)) es honest) (subst (λ z. AreOrderly (Act o z a m ∷ past)) es orderly) c moment tr k.0 k.2 in
      (k.1, k.3, subst (λ (z : List ℕ). may o (done_in p x (own o past)) z k.1) (sym same) k.4)

  -- commits that are made of their bases replace as their changes say
  are_replacing : {past : List Event} → IsLegal start past → AreCareful past → HasNoneOfTheirs start past → AreHonest start past → AreOrderly past → AreChanges may p x past → AreReplacing may start p x past
  are_replacing begins careful fresh honest orderly changes = tt
  are_replacing (answers o s a {past = past} l lv fits) careful fresh honest orderly changes = (
    replaces past o s a Made (answers o s a l lv fits) careful fresh honest orderly changes.0,
    are_replacing l careful.1 (none_before start o s a Made past fresh) (honest_before start (Act o s a Made) past honest) orderly.1 changes.1,
  )
  are_replacing (fails o s m {past = past} l lv ml) careful fresh honest orderly changes = (
    replaces past o s Failed m (fails o s m l lv ml) careful fresh honest orderly changes.0,
    are_replacing l careful.1 (none_before start o s Failed m past fresh) (honest_before start (Act o s Failed m) past honest) orderly.1 changes.1,
  )
  are_replacing (is_dead o s {past = past} l d) careful fresh honest orderly changes = (
    replaces past o s Failed Before (is_dead o s l d) careful fresh honest orderly changes.0,
    are_replacing l careful.1 (none_before start o s Failed Before past fresh) (honest_before start (Act o s Failed Before) past honest) orderly.1 changes.1,
  )
  are_replacing (delivers path piece l) careful fresh honest orderly changes = are_replacing l careful fresh honest orderly changes
  are_replacing (crashes v l image) careful fresh honest orderly changes = are_replacing l careful fresh honest orderly changes
  are_replacing (crashes_within v o s {past = past} l lv image) careful fresh honest orderly changes = (
    replaces (Crash v ∷ past) o s Failed Before (crashes_within v o s l lv image) careful fresh honest orderly changes.0,
    are_replacing l careful.1 (none_before start o s Failed Before (Crash v ∷ past) fresh) (honest_before start (Act o s Failed Before) (Crash v ∷ past) honest) orderly.1 changes.1,
  )
  are_replacing (stops o l) careful fresh honest orderly changes = are_replacing l careful fresh honest orderly changes

counts_map : {start : World} {p : Place} {x : List ℕ} {H K : List Commit → List Commit → List Event → Type 0} → ((l f : List Commit) (moment : List Event) → H l f moment → K l f moment)
    → {loose firm : List Commit} {past : List Event} → Counts start p x H loose firm past → Counts start p x K loose firm past
counts_map g (begins h) = begins (g _ _ _ h)
counts_map g (done k h) = done (counts_map g k) (g _ _ _ h)
counts_map g (failed lv k h) = failed lv (counts_map g k) (g _ _ _ h)
counts_map g (syncs k h) = syncs (counts_map g k) (g _ _ _ h)
counts_map g (crash newer older k e h) = crash newer older (counts_map g k) e (g _ _ _ h)
counts_map g (within newer older k e h) = within newer older (counts_map g k) e (g _ _ _ h)
counts_map g (on nd ns nc k h) = on nd ns nc (counts_map g k) (g _ _ _ h)

tells_map : {start : World} {p : Place} {x : List ℕ} {M N : List Commit → List ℕ → Type 0} → ((cs : List Commit) (text : List ℕ) → M cs text → N cs text) → (l f : List Commit) (moment : List Event) → Tells start p x M l f moment → Tells start p x N l f moment
tells_map g l f moment k = record { now = g _ _ k.now; later = λ v acted image. (let y = k.later v acted image in (y.0, y.1, y.2, g _ _ y.3)); front = k.front; whole = k.whole }

pub fold_map : {start : World} {p : Place} {x : List ℕ} {M N : List Commit → List ℕ → Type 0} → ((cs : List Commit) (text : List ℕ) → M cs text → N cs text) → {past : List Event} → IsFold start p x M past → IsFold start p x N past
fold_map g {past = past} k = record { loose = k.loose; firm = k.firm; counts = counts_map (tells_map g) k.counts; tells = tells_map g k.loose k.firm past k.tells }

-- what a text says, where each change makes of that one outcome
pub folded : {V : Type 0} (see : List ℕ → V) (mark : ℕ → ℕ → V → V) (old : List ℕ) {cs : List Commit} {text : List ℕ} → Makes (λ r k a b. see b ≡ mark r k (see a)) old cs text → see text ≡ fold mark cs (see old)
folded see mark old none = refl
folded see mark old (more {c = c} m e) = e ∙ ap (mark c.run c.turn) (folded see mark old m)

-- where a change may have several outcomes: for a command's own clause, which speaks of one pledge
pub fold_of_changes : (may : ℕ → ℕ → List ℕ → List ℕ → Type 0) (start : World) (past : List Event) (p : Place) (x : List ℕ) → IsStart start → IsLegal start past → AreCareful past → HasNoneOfTheirs start past → AreHonest start past → AreOrderly past
    → is_committed p x ≡ true → AreChanges may p x past → IsFold start p x (Makes may (text_at (world_after start []) p x)) past
fold_of_changes may start past p x st l careful fresh honest orderly c changes = fold_so may start past p x st l careful fresh c (are_replacing may start p x c st l careful fresh honest orderly changes)

pub fold_of_commits : (start : World) (past : List Event) (p : Place) (x : List ℕ) (change : ℕ → ℕ → List ℕ → List ℕ) → IsStart start → IsLegal start past → AreCareful past → HasNoneOfTheirs start past → AreHonest start past → AreOrderly past
    → is_committed p x ≡ true → AreChanges (by change) p x past → IsFold start p x (λ commits text. text ≡ fold change commits (text_at (world_after start []) p x)) past
fold_of_commits start past p x change st l careful fresh honest orderly c changes =
    fold_map (λ cs text m. folded (λ z. z) change (text_at (world_after start []) p x) m) (fold_of_changes (by change) start past p x st l careful fresh honest orderly c changes)

pub fold_of_marks : (start : World) (past : List Event) (p : Place) (x : List ℕ) (says : List ℕ → List ℕ → ℕ → Bool) (mark : ℕ → ℕ → (List ℕ → ℕ → Bool) → List ℕ → ℕ → Bool) → IsStart start → IsLegal start past → AreCareful past → HasNoneOfTheirs start past
    → AreHonest start past → AreOrderly past → is_committed p x ≡ true → AreChanges (marking says mark) p x past → IsFold start p x (λ commits text. says text ≡ fold mark commits (says (text_at (world_after start []) p x))) past
fold_of_marks start past p x says mark st l careful fresh honest orderly c changes =
    fold_map (λ cs text m. folded says mark (text_at (world_after start []) p x) m) (fold_of_changes (marking says mark) start past p x st l careful fresh honest orderly c changes)

-- what each run promises of its own commits holds of all
pub of_each_run : (may : ℕ → ℕ → List ℕ → List ℕ → Type 0) (start : World) (p : Place) (x : List ℕ) (past : List Event) → ((r : ℕ) → OwnAreReplacing may r start p x past) → AreReplacing may start p x past
of_each_run may start p x [] h = tt
of_each_run may start p x (Act o s a m ∷ past) h = ((h o).0 refl, of_each_run may start p x past (λ r. (h r).1))
of_each_run may start p x (Deliver path piece ∷ past) h = of_each_run may start p x past h
of_each_run may start p x (Crash v ∷ past) h = of_each_run may start p x past h
of_each_run may start p x (End o ∷ past) h = of_each_run may start p x past h

pub fold_of_replacing : (start : World) (past : List Event) (p : Place) (x : List ℕ) (says : List ℕ → List ℕ → ℕ → Bool) (mark : ℕ → ℕ → (List ℕ → ℕ → Bool) → List ℕ → ℕ → Bool) → IsStart start → IsLegal start past → AreCareful past → HasNoneOfTheirs start past
    → is_committed p x ≡ true → ((r : ℕ) → OwnAreReplacing (marking says mark) r start p x past) → IsFold start p x (λ commits text. says text ≡ fold mark commits (says (text_at (world_after start []) p x))) past
fold_of_replacing start past p x says mark st l careful fresh c replacing =
    fold_map (λ cs text m. folded says mark (text_at (world_after start []) p x) m) (fold_so (marking says mark) start past p x st l careful fresh c (of_each_run (marking says mark) start p x past replacing))
