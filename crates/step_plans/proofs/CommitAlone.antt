-- A call that commits the context and runs alone: the context has its new text, and nothing else of the mailbox
-- changes.
use Rattle.std.proofs.Common.{◌≡◌, inl, inr, ◌<◌, ◌^◌, ℕ, ◌+◌, true, false, List, [], length, Option, None, Some, Result, Ok, Err, refl, sym, ◌∙◌, ap, subst}
use Rattle.folder_files.specs.Histories.{own, past_of}
use Rattle.folder_files.specs.Story.{Story, Moment, Grows, GrowsBy}
use Rattle.folder_files.specs.Worlds.{WorldMap}
use Rattle.folder_files.specs.declared.place.Place.{Place}
use Rattle.folder_files.specs.declared.place.Place.TheVariants.{Mail}
use Rattle.file_plans.specs.Alone.{world_at, first_of}
use Rattle.file_plans.specs.Contents.{contents_of, mailbox_in}
use Rattle.file_plans.specs.Follows.{State, Follows, filed_in, deeds_in}
use Rattle.file_plans.specs.Mailboxes.{mailbox_of}
use Rattle.file_plans.specs.Plan.{Hand}
use Rattle.file_plans.specs.Runs.{Returned, FilesFailed, Deed, Runs, exit_of}
use Rattle.file_plans.specs.Sightings.{AreMade, events_since, Made, IsFailed}
use Rattle.file_plans.specs.Views.{first_view}
use Rattle.file_plans.proofs.Acting.{acts, acts_made}
use Rattle.file_plans.proofs.Beside.{lone_changes}
use Rattle.file_plans.proofs.Both.{alone_gave}
use Rattle.file_plans.proofs.Contents.{mailbox_is}
use Rattle.file_plans.proofs.Existing.{puts_in}
use Rattle.file_plans.proofs.Failing.{failed_made, run_failed}
use Rattle.file_plans.proofs.Keeping.{run_keeps}
use Rattle.step_plans.specs.declared.change.ChangeEntry.{ChangeEntry}
use Rattle.step_plans.specs.declared.fault.PlanFault.{PlanFault}
use Rattle.step_plans.specs.declared.fault.PlanFault.TheVariants as fault
use Rattle.step_plans.specs.ContextCommit.{commit_context}
use Rattle.step_plans.specs.ContextCommitted.{ShowsEnd, CommitIsCaused, CommitsAlone, CommitsAloneIfTold}
use Rattle.step_plans.specs.PlanFaults.{plan_cause}
use Rattle.step_plans.proofs.Coming.{anything}
use Rattle.step_plans.proofs.Committed.{CommitEnds, commit_gives, shows_committed}
use Rattle.step_plans.proofs.Ending.{CommitEndsAs, commit_ends}

context_at : (w : WorldMap) (path : List ℕ) → (mailbox_in (contents_of w)).context (Mail path) ≡ (mailbox_of w).context (Mail path)
context_at w path = ap (λ m. m.context (Mail path)) (sym (mailbox_is w))

pub commit_alone : (run : ℕ) → run < 2 ^ 128 → (path : List ℕ) (cs : List ChangeEntry) (old new : Story) (log : List Moment) (h j : Hand) (ds : List Deed)
    → Grows run old new log → (Made IsFailed (own run (past_of (events_since old new))) → ⊥) → own run (past_of (events_since old new)) ≡ acts ds
    → Runs (commit_context run (Mail path) cs) h ds j (Returned (Ok tt)) → CommitsAlone run path cs h old new
unfolding mailbox_of mailbox_in
commit_alone run few path cs old new log h j ds g never own_is runs = λ added asked st possible alone knows.
    let first = world_at new (first_of (length old.history) added) in
    let last = world_at new (first_of (length old.history) added + length added) in
    let c = contents_of first in
    let r = alone_gave (λ p x. false) run old new added (commit_context run (Mail path) cs) h j ds (Returned (Ok tt)) [] (CommitEnds true (puts_in ds) c (Mail path) cs h)
    (lone_changes run old new log added g asked st possible alone never) own_is runs
    (commit_gives true (puts_in ds) run few (Mail path) cs (first_view c (puts_in ds) (λ p x. false)) c h [] ((λ e. refl), refl) (λ e es k. knows es k)) in
    elim (r.gave.returned (Ok tt) refl) [
      | inl s ↦ inl (s.settled_so, mailbox_is last ∙ (ap mailbox_in (sym r.contents) ∙ (ap mailbox_in (s.is.0 refl) ∙ sym (mailbox_is first))))
      | inr m ↦ inr (m.0, (mailbox_is last ∙ ap mailbox_in (sym r.contents)) ∙ (ap mailbox_in (m.1.is.0 refl) ∙ shows_committed c path cs))
    ]

-- each of its ends has its cause
not_memory : {R : Type 0} (r : R) → Returned r ≡ FilesFailed → ⊥
not_memory r e = cc

module _ (run : ℕ) (p : Place) (cs : List ChangeEntry) (x y : State) where
  shown_at : (result : Result Unit PlanFault) (f : Follows run plan_cause (commit_context run p cs) x y result) → exit_of plan_cause result ≡ Returned result → CommitEndsAs run p cs x.hand (deeds_in f.went.log) y.hand result
  shown_at result f is =
      (run_keeps anything [] x.hand (commit_context run p cs) (deeds_in f.went.log) y.hand (Returned result) (CommitEndsAs run p cs x.hand) (commit_ends run p cs x.hand [] (λ m. m) (λ z. elim z [ ]))
      (subst (λ e. Runs (commit_context run p cs) x.hand (deeds_in f.went.log) y.hand e) is f.went.runs)).gave

  ends_so : (e : PlanFault) (f : Follows run plan_cause (commit_context run p cs) x y (Err e)) → ShowsEnd run p cs x y (acts (deeds_in f.went.log)) e
  ends_so fault.Faulted f = (f.went.files_cause refl, failed_made (deeds_in f.went.log) (run_failed (commit_context run p cs) x.hand (deeds_in f.went.log) y.hand FilesFailed f.went.runs refl))
  ends_so (fault.Locked q) f = let s = shown_at (Err (fault.Locked q)) f refl in (s.1, s.0)
  ends_so (fault.Meddled q n) f = let s = shown_at (Err (fault.Meddled q n)) f refl in (s.1, s.0)
  ends_so fault.Full f = (shown_at (Err fault.Full) f refl).1
  ends_so (fault.Absent q) f = (shown_at (Err (fault.Absent q)) f refl).1
  ends_so (fault.TooLarge l) f = let s = shown_at (Err (fault.TooLarge l)) f refl in (s.1, s.0)
  ends_so fault.Memory f = tt

  pub commit_caused : (result : Result Unit PlanFault) → Follows run plan_cause (commit_context run p cs) x y result → CommitIsCaused run p cs x y result
  commit_caused (Ok tt) f =
      record {
        own = acts (deeds_in f.went.log);
        made = acts_made run x.files.story y.files.story f.went.log f.went.grows;
        done = λ e. (shown_at (Ok tt) f refl).0;
        shown = λ e is. absurd (cc (is));
      }
  commit_caused (Err e) f =
      record {
        own = acts (deeds_in f.went.log);
        made = acts_made run x.files.story y.files.story f.went.log f.went.grows;
        done = λ is. absurd (cc (is));
        shown = λ k is. let same : e ≡ k = cc in subst (ShowsEnd run p cs x y (acts (deeds_in f.went.log))) same (ends_so e f);
      }

pub commits_alone : (run : ℕ) → run < 2 ^ 128 → (path : List ℕ) (cs : List ChangeEntry) (x y : State) (result : Result Unit PlanFault) → Follows run plan_cause (commit_context run (Mail path) cs) x y result → result ≡ Ok tt
    → CommitsAloneIfTold run path cs x.hand x.files.story y.files.story
commits_alone run few path cs x y (Err e) f is = absurd (cc (is))
commits_alone run few path cs x y (Ok tt) f is = by_story x.files.story y.files.story f.went.grows (acts_made run x.files.story y.files.story f.went.log f.went.grows)
  where
    by_story : (old new : Option Story) → GrowsBy run old new (filed_in f.went.log) → AreMade run old new (acts (deeds_in f.went.log)) → CommitsAloneIfTold run path cs x.hand old new
    by_story None None grows made = tt
    by_story None (Some new) grows made = absurd grows
    by_story (Some old) None grows made = absurd grows
    by_story (Some old) (Some new) grows made =
        commit_alone run few path cs old new (filed_in f.went.log) x.hand y.hand (deeds_in f.went.log) grows (λ failed. (shown_at run (Mail path) cs x y (Ok tt) f refl).0 (rw (← made) at failed)) (sym made) f.went.runs
