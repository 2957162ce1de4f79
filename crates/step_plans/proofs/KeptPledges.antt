-- A call whose plan keeps a command's rules, in the story: its own steps, and what they promise of the mail where the
-- others are careful.
use Rattle.std.proofs.Common.{◌≡◌, ◌≢◌, ◌==◌, ◌++◌, ◌∷◌, [], ℕ, ◌+◌, Bool, true, false, List, map, length, refl, sym, ◌∙◌, ap, subst, arith, append_assoc, append-nil, length-append}
use Rattle.std.proofs.lemmas.List.{reverse-append}
use Rattle.folder_files.specs.Careful.{IsCareful, IsLook, looks, changes}
use Rattle.folder_files.specs.Commands.{Manner}
use Rattle.folder_files.specs.Deeds.{Deed as Deed_, did}
use Rattle.folder_files.specs.Histories.{own, past_of, has_acted, IsLegal, begins, answers, fails, is_dead, delivers, crashes, crashes_within, stops, IsLockable, Changes, IsOnMail, IsOrderly, AreCareful, AreOrderly}
use Rattle.folder_files.specs.Story.{Mine, Theirs, IsOther, AreOthers, event_of, places}
use Rattle.folder_files.specs.declared.event.Event.{Event}
use Rattle.folder_files.specs.declared.event.Event.TheVariants.{Act, Deliver, Crash, End}
use Rattle.folder_files.specs.declared.place.Place.{Place}
use Rattle.folder_files.specs.declared.step.Step.{Step}
use Rattle.folder_files.specs.declared.step.Step.TheVariants as step
use Rattle.folder_files.specs.declared.event.After.{After}
use Rattle.folder_files.specs.declared.step.Answer.{Answer}
use Rattle.folder_files.specs.declared.world.World.{World}
use Rattle.file_plans.specs.Follows.{Turn, Filed, Spoke, Took, filed_in, deeds_in}
use Rattle.file_plans.specs.Rules.{AreKept}
use Rattle.file_plans.specs.Runs.{Deed, Did, Said, Heard}
use Rattle.file_plans.specs.StaysCareful.{IsOwnStep, only_looks, careful, HoldOwnSteps}
use Rattle.file_plans.proofs.Acting.{acts, acts_append, deed_other, own_mine}
use Rattle.folder_files.proofs.Names.{num_same as num_is, num_apart, or_false}
use Rattle.step_plans.proofs.Taken.{taken}
use Rattle.step_plans.specs.Pledges.{Pledge, MayAsk}
use Rattle.step_plans.proofs.Ruling.{rules_of}
use Rattle.step_plans.specs.Safety.{AtSteps, CommitsItsBases, OthersAreCareful, OthersAreOrderly, StepsAsPledged, TakesNone, TakesNoNumber}

-- one more event at the end
past_more : (before : List Event) (e : Event) → past_of (before ++ e ∷ []) ≡ e ∷ past_of before
past_more before e = reverse-append before (e ∷ [])

own_theirs : (run : ℕ) (e : Event) (past : List Event) → IsOther run e → own run (e ∷ past) ≡ own run past
unfolding own
own_theirs run e past o = rw (deed_other run e o) refl

module _ (w : Pledge) where
  -- the plan's deeds so far are the run's in the story
  abbrev pub Meet : List Event → List Deed → Type 0
  Meet before past = own w.run (past_of before) ≡ acts past

  meet_mine : (before : List Event) (past : List Deed) (s : Step) (a : _) (f : _) → Meet before past → Meet (before ++ Act w.run s a f ∷ []) (past ++ Did s a ∷ [])
  meet_mine before past s a f e = ap (own w.run) (past_more before (Act w.run s a f)) ∙ (own_mine w.run s a f (past_of before) ∙ (ap (λ o. did s a ∷ o) e ∙ sym (acts_append [] past (Did s a ∷ []))))

  meet_theirs : (before : List Event) (past : List Deed) (e : Event) → IsOther w.run e → Meet before past → Meet (before ++ e ∷ []) past
  meet_theirs before past e o q = ap (own w.run) (past_more before e) ∙ (own_theirs w.run e (past_of before) o ∙ q)

  meet_said : (before : List Event) (past : List Deed) (piece : List ℕ) → Meet before past → Meet before (past ++ Said piece ∷ [])
  meet_said before past piece e = e ∙ sym (acts_append [] past (Said piece ∷ []))

  meet_heard : (before : List Event) (past : List Deed) (piece : List ℕ) → Meet before past → Meet before (past ++ Heard piece ∷ [])
  meet_heard before past piece e = e ∙ sym (acts_append [] past (Heard piece ∷ []))

  -- at each place of the call stands an own step
  pub hold_steps : (ts : List Turn) (past : List Deed) (before history : List Event) (n : ℕ) → history ≡ before ++ map (event_of w.run) (filed_in ts) → length before ≡ n → Meet before past → AreOthers w.run (filed_in ts)
      → AreKept (rules_of w) past (deeds_in ts) → HoldOwnSteps w.run w.manner history (places n (filed_in ts))
  hold_steps [] past before history n e l m o k = tt
  hold_steps (Filed (Mine s a f) ∷ ts) past before history n e l m o k = (
    record { before = before; step = s; answer = a; after = f; later = map (event_of w.run) (filed_in ts); parts = e; stands = l; is_own = rw m (k.0.is_own) },
    hold_steps ts (past ++ Did s a ∷ []) (before ++ Act w.run s a f ∷ []) history (n + 1) (e ∙ sym (append_assoc before (Act w.run s a f ∷ []) (map (event_of w.run) (filed_in ts)))) (let p = length-append before (Act w.run s a f ∷ []) in omega arith)
        (meet_mine before past s a f m) o k.1,
  )
  hold_steps (Filed (Theirs x) ∷ ts) past before history n e l m o k =
      hold_steps ts past (before ++ x ∷ []) history (n + 1) (e ∙ sym (append_assoc before (x ∷ []) (map (event_of w.run) (filed_in ts)))) (let p = length-append before (x ∷ []) in omega arith) (meet_theirs before past x o.0 m) o.1 k
  hold_steps (Spoke piece ∷ ts) past before history n e l m o k = hold_steps ts (past ++ Said piece ∷ []) before history n e l (meet_said before past piece m) o k.1
  hold_steps (Took piece ∷ ts) past before history n e l m o k = hold_steps ts (past ++ Heard piece ∷ []) before history n e l (meet_heard before past piece m) o k.1

  -- each own step in the story was one that the command may ask for
  abbrev pub OwnMay : List Event → Type 0
  OwnMay past = AtSteps (λ r. r ≡ w.run) (λ r own s. MayAsk w own s) past

  may_theirs : (e : Event) (past : List Event) → IsOther w.run e → OwnMay past → OwnMay (e ∷ past)
  may_theirs (Act r s a m) past o f = ((λ is. absurd (o is)), f)
  may_theirs (Deliver path piece) past o f = f
  may_theirs (Crash v) past o f = f
  may_theirs (End r) past o f = f

  pub meet_steps : (ts : List Turn) (past : List Deed) (before : List Event) → Meet before past → AreOthers w.run (filed_in ts) → AreKept (rules_of w) past (deeds_in ts) → OwnMay (past_of before)
      → OwnMay (past_of (before ++ map (event_of w.run) (filed_in ts)))
  meet_steps [] past before m o k f = rw append-nil f
  meet_steps (Filed (Mine s a x) ∷ ts) past before m o k f =
      subst (λ z. OwnMay (past_of z)) (append_assoc before (Act w.run s a x ∷ []) (map (event_of w.run) (filed_in ts)))
      (meet_steps ts (past ++ Did s a ∷ []) (before ++ Act w.run s a x ∷ []) (meet_mine before past s a x m) o k.1 (subst OwnMay (sym (past_more before (Act w.run s a x))) ((λ is. rw m k.0), f)))
  meet_steps (Filed (Theirs e) ∷ ts) past before m o k f =
      subst (λ z. OwnMay (past_of z)) (append_assoc before (e ∷ []) (map (event_of w.run) (filed_in ts)))
      (meet_steps ts past (before ++ e ∷ []) (meet_theirs before past e o.0 m) o.1 k (subst OwnMay (sym (past_more before e)) (may_theirs e (past_of before) o.0 f)))
  meet_steps (Spoke piece ∷ ts) past before m o k f = meet_steps ts (past ++ Said piece ∷ []) before (meet_said before past piece m) o k.1 f
  meet_steps (Took piece ∷ ts) past before m o k f = meet_steps ts (past ++ Heard piece ∷ []) before (meet_heard before past piece m) o k.1 f

-- a run that made no step
pub unused_own : (run : ℕ) (past : List Event) → has_acted past run ≡ false → own run past ≡ []
unfolding own
unused_own run [] e = refl
unused_own run (Act r s a m ∷ past) e = let parts = or_false (r == run) (has_acted past run) e in rw parts.0 (unused_own run past parts.1)
unused_own run (Deliver path piece ∷ past) e = unused_own run past e
unused_own run (Crash v ∷ past) e = unused_own run past e
unused_own run (End r ∷ past) e = unused_own run past e

pub unused_may : (w : Pledge) (past : List Event) → has_acted past w.run ≡ false → OwnMay w past
unused_may w [] e = tt
unused_may w (Act r s a m ∷ past) e = let parts = or_false (r == w.run) (has_acted past w.run) e in ((λ is. absurd (num_apart r w.run parts.0 is)), unused_may w past parts.1)
unused_may w (Deliver path piece ∷ past) e = unused_may w past e
unused_may w (Crash v ∷ past) e = unused_may w past e
unused_may w (End r ∷ past) e = unused_may w past e

-- what an own step of a command is
own_is_careful : (run : ℕ) (m : Manner) (own : List Deed_) (s : Step) → IsOwnStep run m own s → IsCareful run own s
own_is_careful run m own s (only_looks l) = looks l
own_is_careful run m own s (careful f kind k makes orderly) = changes f kind k

pub look_changes : (p : Place) (s : Step) → IsLook s → Changes p s → ⊥
look_changes p (step.List q) l c = c
look_changes p (step.Read q n limit) l c = c
look_changes p (step.MakeFolder q) l c = l
look_changes p (step.Create q n b) l c = l
look_changes p (step.SyncFile q n) l c = c
look_changes p (step.SyncFolder q) l c = c
look_changes p (step.Link q a b) l c = l
look_changes p (step.Rename q a b) l c = l
look_changes p (step.Unlink q a) l c = l
look_changes p (step.Lock q) l c = c
look_changes p (step.Unlock q) l c = c
look_changes p (step.ReadFile f limit) l c = c
look_changes p (step.ReadDrop f from most) l c = c
look_changes p (step.CutDrop f length_) l c = l

own_is_orderly : (run : ℕ) (m : Manner) (own : List Deed_) (s : Step) → IsOwnStep run m own s → IsOrderly own s
own_is_orderly run m own s (only_looks l) = λ p lockable c. absurd (look_changes p s l c)
own_is_orderly run m own s (careful f kind k makes orderly) = orderly

-- own steps, and those of others, are all
pub by_whom : (r run : ℕ) (P : Type 0) → (r ≡ run → P) → (r ≢ run → P) → P
by_whom r run P mine theirs = go (r == run) refl
  where
    go : (b : Bool) → (r == run) ≡ b → P
    go true e = mine (num_is r run e)
    go false e = theirs (num_apart r run e)

pub all_careful : (w : Pledge) (past : List Event) → OthersAreCareful w.run past → OwnMay w past → AreCareful past
all_careful w [] o f = tt
all_careful w (Act r s a m ∷ past) o f = (
  by_whom r w.run (IsOnMail s → IsCareful r (own r past) s) (λ is mail. subst (λ z. IsCareful z (own r past) s) (sym is) (own_is_careful w.run w.manner (own r past) s ((f.0 is).is_own))) (λ other. o.0 other),
  all_careful w past o.1 f.1,
)
all_careful w (Deliver path piece ∷ past) o f = all_careful w past o f
all_careful w (Crash v ∷ past) o f = all_careful w past o f
all_careful w (End r ∷ past) o f = all_careful w past o f

pub all_orderly : (w : Pledge) (past : List Event) → OthersAreOrderly w.run past → OwnMay w past → AreOrderly past
all_orderly w [] o f = tt
all_orderly w (Act r s a m ∷ past) o f = (by_whom r w.run (IsOrderly (own r past) s) (λ is. own_is_orderly w.run w.manner (own r past) s ((f.0 is).is_own)) (λ other. o.0 other), all_orderly w past o.1 f.1)
all_orderly w (Deliver path piece ∷ past) o f = all_orderly w past o f
all_orderly w (Crash v ∷ past) o f = all_orderly w past o f
all_orderly w (End r ∷ past) o f = all_orderly w past o f

pub steps_pledged : (w : Pledge) (past : List Event) → OwnMay w past → StepsAsPledged w past
steps_pledged w [] f = tt
steps_pledged w (Act r s a m ∷ past) f = ((λ is. (f.0 is).steps), steps_pledged w past f.1)
steps_pledged w (Deliver path piece ∷ past) f = steps_pledged w past f
steps_pledged w (Crash v ∷ past) f = steps_pledged w past f
steps_pledged w (End r ∷ past) f = steps_pledged w past f

pub commits_by_bases : (w : Pledge) (past : List Event) → OwnMay w past → CommitsItsBases w past
commits_by_bases w [] f = tt
commits_by_bases w (Act r s a m ∷ past) f = ((λ is. (f.0 is).marks), commits_by_bases w past f.1)
commits_by_bases w (Deliver path piece ∷ past) f = commits_by_bases w past f
commits_by_bases w (Crash v ∷ past) f = commits_by_bases w past f
commits_by_bases w (End r ∷ past) f = commits_by_bases w past f

-- a step that changes a folder or a mail directory is on mail
change_on_mail : (p : Place) (s : Step) → IsLockable p → Changes p s → IsOnMail s
change_on_mail p (step.Create q n b) l c = subst IsLockable c l
change_on_mail p (step.Link q a b) l c = subst IsLockable c l
change_on_mail p (step.Rename q a b) l c = subst IsLockable c l
change_on_mail p (step.Unlink q a) l c = subst IsLockable c l
change_on_mail p (step.List q) l c = absurd c
change_on_mail p (step.Read q n limit) l c = absurd c
change_on_mail p (step.MakeFolder q) l c = absurd c
change_on_mail p (step.SyncFile q n) l c = absurd c
change_on_mail p (step.SyncFolder q) l c = absurd c
change_on_mail p (step.Lock q) l c = absurd c
change_on_mail p (step.Unlock q) l c = absurd c
change_on_mail p (step.ReadFile f limit) l c = absurd c
change_on_mail p (step.ReadDrop f from most) l c = absurd c
change_on_mail p (step.CutDrop f length_) l c = absurd c

-- no step takes a number
takes_one : (start : World) (past : List Event) (r : ℕ) (s : Step) (a : Answer) (m : After) → IsLegal start (Act r s a m ∷ past) → (IsOnMail s → IsCareful r (own r past) s) → TakesNone start (Act r s a m) past
takes_one start past r s a m l c = λ p lockable n f g. taken start past r s a m l p (λ change. c (change_on_mail p s lockable change)) n f g

pub takes_none : (start : World) (past : List Event) → IsLegal start past → AreCareful past → TakesNoNumber start past
takes_none start _ begins c = tt
takes_none start _ (answers r s a {past = past} l live fits) c = (takes_one start past r s a _ (answers r s a l live fits) c.0, takes_none start past l c.1)
takes_none start _ (fails r s m {past = past} l live may) c = (takes_one start past r s _ m (fails r s m l live may) c.0, takes_none start past l c.1)
takes_none start _ (is_dead r s {past = past} l dead) c = (takes_one start past r s _ _ (is_dead r s l dead) c.0, takes_none start past l c.1)
takes_none start _ (delivers path piece {past = past} l) c = takes_none start past l c
takes_none start _ (crashes v {past = past} l image) c = takes_none start past l c
takes_none start _ (crashes_within v r s {past = past} l live image) c = (takes_one start _ r s _ _ (crashes_within v r s l live image) c.0, takes_none start past l c.1)
takes_none start _ (stops r {past = past} l) c = takes_none start past l c
