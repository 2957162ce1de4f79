-- A call that commits sequences and runs alone: the folder and the context have their new texts, and nothing else of the mailbox changes.
use Rattle.std.proofs.Common.{◌≡◌, ◌⊎◌, inl, inr, ℕ, ◌+◌, true, false, List, [], length, Option, None, Some, Result, Ok, Err, refl, sym, ◌∙◌, ap, subst}
use Rattle.mh_sequences.specs.Printing.{private_entries, text_of}
use Rattle.mh_sequences.specs.Reading.{suffix}
use Rattle.mh_sequences.specs.Sequences.{Marked}
use Rattle.folder_files.specs.Histories.{own, past_of}
use Rattle.folder_files.specs.Story.{Story, Moment, Grows, GrowsBy}
use Rattle.folder_files.specs.declared.place.Place.{Place}
use Rattle.folder_files.specs.declared.place.Place.TheVariants.{Mail, Folder}
use Rattle.file_plans.specs.Alone.{world_at, first_of}
use Rattle.file_plans.specs.Contents.{Contents, contents_of, mailbox_in, filled}
use Rattle.file_plans.specs.Follows.{State, Follows, filed_in, deeds_in}
use Rattle.file_plans.specs.MailboxChanges.{with_context_text}
use Rattle.file_plans.specs.Mailboxes.{Mailbox, mailbox_of}
use Rattle.file_plans.specs.Plan.{Hand}
use Rattle.file_plans.specs.Runs.{Returned, Deed, Runs}
use Rattle.file_plans.specs.Sightings.{AreMade, events_since, Made, IsFailed}
use Rattle.file_plans.specs.Views.{View, first_view}
use Rattle.file_plans.proofs.Acting.{acts, acts_made}
use Rattle.file_plans.proofs.Beside.{lone_changes}
use Rattle.file_plans.proofs.Both.{alone_gave}
use Rattle.file_plans.proofs.Contents.{mailbox_is}
use Rattle.file_plans.proofs.Existing.{puts_in}
use Rattle.file_plans.proofs.Failing.{made_failed}
use Rattle.step_plans.specs.ContextCommit.{context_name}
use Rattle.step_plans.specs.ContextCommitted.{IsContextCommitted}
use Rattle.step_plans.specs.ContextPledge.{text_by}
use Rattle.step_plans.specs.Hands.{used}
use Rattle.step_plans.specs.PlanFaults.{plan_cause}
use Rattle.step_plans.specs.declared.change.ChangeEntry.{ChangeEntry}
use Rattle.step_plans.specs.declared.fault.PlanFault.{PlanFault}
use Rattle.step_plans.proofs.Committed.{CommitEnds, shows_committed}
use Rattle.sequence_commits.specs.CommittedAlone.{CommitsAlone, CommitsAloneIfTold}
use Rattle.sequence_commits.specs.Committing.{changed_sequences}
use Rattle.sequence_commits.specs.PrivateChanges.{private_changes}
use Rattle.mh_profile.specs.Reading.{entries_seen}
use Rattle.sequence_commits.specs.SequencesChanged.{with_sequences_text}
use Rattle.sequence_commits.specs.Telling.{same_told}
use Rattle.sequence_commits.proofs.NeverFailed.{changed_clean}
use Rattle.sequence_commits.proofs.SequencesGiven.{Unchanged, ToldEnds, with_sequences, context_kept, changed_gives}
use Rattle.sequence_commits.proofs.SequencesShown.{shows_sequences}

-- what the contents at the end show, where the context's turn was taken
pub shown : (c : Contents) (path at name text : List ℕ) (cs : List ChangeEntry) (ns : List ℕ) (h j : Hand) (z : View) (left : List ℕ) (after : Mailbox)
    → after ≡ mailbox_in z.contents → CommitEnds true ns (with_sequences c (Folder at name) text) (Mail path) cs (used h) z j left (Ok tt)
    → IsContextCommitted (with_sequences_text (mailbox_in c) (Folder at name) text) after path cs h
unfolding mailbox_in
shown c path at name text cs ns h j z left after is ends =
    elim ends [
      | inl s ↦ inl (s.settled_so, is ∙ (ap mailbox_in (s.is.0 refl) ∙ shows_sequences c at name text))
      | inr m ↦ inr (m.0, is ∙ (ap mailbox_in (m.1.is.0 refl) ∙ (shows_committed (with_sequences c (Folder at name) text) path cs ∙ (λ i. with_context_text (shows_sequences c at name text i) (Mail path) (read i)))))
    ]
  where
    read : text_by cs (filled ((with_sequences c (Folder at name) text).texts (Mail path) context_name)) ≡ text_by cs (filled (c.texts (Mail path) context_name))
    read = ap (λ o. text_by cs (filled o)) (context_kept c (Folder at name) (Mail path) text)

commit_alone : (run : ℕ) (path at name folder : List ℕ) (a b : Marked) (old new : Story) (log : List Moment) (h j : Hand) (ds : List Deed)
    → Grows run old new log → (Made IsFailed (own run (past_of (events_since old new))) → ⊥) → own run (past_of (events_since old new)) ≡ acts ds
    → Runs (changed_sequences run (Folder at name) (Mail path) folder a b) h ds j (Returned (Ok tt)) → CommitsAlone run (Folder at name) path folder a b h old new
unfolding mailbox_of mailbox_in
commit_alone run path at name folder a b old new log h j ds g never own_is runs = λ added asked st possible alone few knows ready.
    let first = world_at new (first_of (length old.history) added) in
    let last = world_at new (first_of (length old.history) added + length added) in
    let c = contents_of first in
    let r = alone_gave (λ p x. false) run old new added (changed_sequences run (Folder at name) (Mail path) folder a b) h j ds (Returned (Ok tt)) []
    (λ z k left q. ((same_told folder a b ≡ true) × Unchanged true (puts_in ds) c h z k q) ⊎ ((same_told folder a b ≡ false) × ToldEnds true (puts_in ds) c (Folder at name) (Mail path) (suffix folder) (text_of b) (private_entries (suffix folder) b.users) h z k left q))
    (lone_changes run old new log added g asked st possible alone never) own_is runs
    (changed_gives true (puts_in ds) run few (Folder at name) (Mail path) folder a b (first_view c (puts_in ds) (λ p x. false)) c h [] ((λ e. refl), refl) (λ e es k. knows es k) (λ low e. (ready.there, ready.free low))) in
    elim (r.gave.returned (Ok tt) refl) [
      | inl s ↦ inl (s.0, mailbox_is last ∙ (ap mailbox_in (sym r.contents) ∙ (ap mailbox_in (s.1.left.is.0 refl) ∙ sym (mailbox_is first))))
      | inr s ↦ inr (s.0, subst (λ m. IsContextCommitted (with_sequences_text m (Folder at name) (text_of b)) (mailbox_of last) path (private_changes folder b.users (entries_seen h.context)) h) (sym (mailbox_is first)) (shown c path at name (text_of b) (private_changes folder b.users (entries_seen h.context)) (puts_in ds) h j r.view r.gave.left (mailbox_of last) (mailbox_is last ∙ ap mailbox_in (sym r.contents)) s.1.1))
    ]

pub commits_alone : (run : ℕ) (path at name folder : List ℕ) (a b : Marked) (x y : State) (result : Result Unit PlanFault) → Follows run plan_cause (changed_sequences run (Folder at name) (Mail path) folder a b) x y result → result ≡ Ok tt
    → CommitsAloneIfTold run (Folder at name) path folder a b x.hand x.files.story y.files.story
commits_alone run path at name folder a b x y (Err e) f is = absurd (cc (is))
commits_alone run path at name folder a b x y (Ok tt) f is = by_story x.files.story y.files.story f.went.grows (acts_made run x.files.story y.files.story f.went.log f.went.grows)
  where
    by_story : (old new : Option Story) → GrowsBy run old new (filed_in f.went.log) → AreMade run old new (acts (deeds_in f.went.log)) → CommitsAloneIfTold run (Folder at name) path folder a b x.hand old new
    by_story None None grows made = tt
    by_story None (Some new) grows made = absurd grows
    by_story (Some old) None grows made = absurd grows
    by_story (Some old) (Some new) grows made =
        commit_alone run path at name folder a b old new (filed_in f.went.log) x.hand y.hand (deeds_in f.went.log) grows
        (λ failed. changed_clean run (Folder at name) (Mail path) folder a b x.hand (deeds_in f.went.log) y.hand (Ok tt) f.went.runs (made_failed (deeds_in f.went.log) (rw (← made) at failed))) (sym made) f.went.runs

-- the same at a place that is a folder
pub commits_alone_at : (run : ℕ) (p : Place) (path folder : List ℕ) (a b : Marked) (x y : State) (result : Result Unit PlanFault) → Follows run plan_cause (changed_sequences run p (Mail path) folder a b) x y result → result ≡ Ok tt
    → (at name : List ℕ) → p ≡ Folder at name → CommitsAloneIfTold run p path folder a b x.hand x.files.story y.files.story
commits_alone_at run p path folder a b x y result f is at name e =
    subst (λ q. CommitsAloneIfTold run q path folder a b x.hand x.files.story y.files.story) (sym e)
    (commits_alone run path at name folder a b x y result (subst (λ q. Follows run plan_cause (changed_sequences run q (Mail path) folder a b) x y result) e f) is)
