-- Putting back alone: each held message goes where it goes alone, and nothing else of the mailbox changes.
use Rattle.std.proofs.Common.{◌≡◌, ◌<◌, ◌^◌, ℕ, ◌+◌, true, Bool, false, List, [], length, Option, None, Some, Result, Ok, Err, refl, sym, ◌∙◌, ap, subst}
use Rattle.std.specs.Prelude.{is_some, if◌then◌else◌}
use Rattle.mh_base.specs.Entries.{entry_text}
use Rattle.folder_files.specs.Histories.{own, past_of}
use Rattle.folder_files.specs.Places.{is_folder}
use Rattle.folder_files.specs.Story.{Story, Moment, Grows, GrowsBy}
use Rattle.folder_files.specs.declared.place.Place.{Place}
use Rattle.folder_files.specs.declared.place.Place.TheVariants.{Home, Work, Mail, Folder}
use Rattle.file_plans.specs.Alone.{world_at, first_of}
use Rattle.file_plans.specs.Contents.{Contents, contents_of, folder_at, mailbox_in}
use Rattle.file_plans.specs.Follows.{State, Follows, filed_in, deeds_in}
use Rattle.file_plans.specs.Mailboxes.{Folder as FolderOf, mailbox_of}
use Rattle.file_plans.specs.Plan.{Hand}
use Rattle.file_plans.specs.Runs.{Returned, Deed, Runs}
use Rattle.file_plans.specs.Sightings.{AreMade, events_since, has_number, Made, IsFailed}
use Rattle.file_plans.specs.Views.{first_view}
use Rattle.file_plans.proofs.Acting.{acts, acts_made}
use Rattle.file_plans.proofs.Beside.{lone_changes}
use Rattle.file_plans.proofs.Both.{alone_gave}
use Rattle.file_plans.proofs.Contents.{mailbox_is}
use Rattle.file_plans.proofs.Existing.{puts_in}
use Rattle.file_plans.proofs.Failing.{made_failed}
use Rattle.step_plans.specs.PlanFaults.{plan_cause}
use Rattle.step_plans.specs.declared.fault.PlanFault.{PlanFault}
use Rattle.held_messages.specs.HeldPairs.{held_pairs, settled, with_folder_changed}
use Rattle.held_messages.specs.Highest.{highest}
use Rattle.held_messages.specs.Settle.{Settled, put_back}
use Rattle.held_messages.specs.SettledAlone.{IsPutBack, SettlesAlone, SettlesInStory, SettlesIfUnfaulted}
use Rattle.held_messages.proofs.ListedPairs.{are_apart, are_pairs, pairs_listed, pairs_ordered}
use Rattle.held_messages.proofs.Restored.{IsRestored, Restores, put_back_gives}
use Rattle.held_messages.proofs.Shown.{shows_settled}
use Rattle.held_messages.proofs.Telling.{folder_holds, folder_top}
use Rattle.held_messages.proofs.Tops.{list_told}

abbrev folder_shown : Contents → Place → Bool → Option FolderOf
folder_shown c p b = if b then Some (folder_at c p) else None

there_shown : (c : Contents) (p : Place) (b : Bool) → b ≡ true → folder_shown c p b ≡ Some (folder_at c p)
there_shown c p true e = refl
there_shown c p false e = cc (e)

put_back_alone : (own_run : ℕ) (path name : List ℕ) (old new : Story) (log : List Moment) (h j : Hand) (ds : List Deed) (s : Settled)
    → Grows own_run old new log → (Made IsFailed (own own_run (past_of (events_since old new))) → ⊥) → own own_run (past_of (events_since old new)) ≡ acts ds
    → Runs (put_back own_run (Folder path name)) h ds j (Returned (Ok s)) → SettlesAlone own_run (Folder path name) s old new
unfolding mailbox_in entry_text
put_back_alone own_run path name old new log h j ds s g never own_is runs = λ added asked st possible alone.
    let p = Folder path name in
    let first = world_at new (first_of (length old.history) added) in
    let last = world_at new (first_of (length old.history) added + length added) in
    let c = contents_of first in
    let r = alone_gave (λ q x. false) own_run old new added (put_back own_run p) h j ds (Returned (Ok s)) [] (Restores true own_run p c (puts_in ds))
    (lone_changes own_run old new log added g asked st possible alone never) own_is runs
    (put_back_gives true own_run p (puts_in ds) c (first_view c (puts_in ds) (λ q x. false)) (refl, refl) (λ x. refl) (λ x e. refl) h []) in
    let done : IsRestored true own_run p c (puts_in ds) s r.view = r.gave.returned (Ok s) refl in
    let pairs = are_pairs s.names (held_pairs own_run s.names) (pairs_listed own_run s.names) in
    record {
      folder = folder_at c p;
      there = ap (λ m. m.folders p) (mailbox_is first) ∙ there_shown c p (c.there p) (done.there refl);
      names = λ n. sym (list_told c p s.names (done.listing refl) n);
      pairs = held_pairs own_run s.names;
      held = folder_holds own_run c p s.names done.holds;
      highest = highest s.names;
      top = folder_top c p s.names (done.listing refl);
      homes = done.homes refl;
      mailbox =
          mailbox_is last
          ∙ (ap mailbox_in (sym r.contents)
          ∙ (ap mailbox_in done.contents
          ∙ (shows_settled path name (held_pairs own_run s.names) pairs (are_apart (held_pairs own_run s.names) pairs (pairs_ordered own_run s.names)) s.ends done.ends_so c
          ∙ ap (λ m. with_folder_changed m p (λ f. settled f (held_pairs own_run s.names) s.ends)) (sym (mailbox_is first)))));
    }

at_folder : (p : Place) → is_folder p ≡ true → (F : Place → Type 0) → ((path name : List ℕ) → F (Folder path name)) → F p
at_folder Home e F f = cc (e)
at_folder Work e F f = cc (e)
at_folder (Mail path) e F f = cc (e)
at_folder (Folder path name) e F f = f path name

pub settles_alone : (own_run : ℕ) (p : Place) (x y : State) (s : Settled) → Follows own_run plan_cause (put_back own_run p) x y (Ok s) → SettlesIfUnfaulted own_run p s x.files y.files
settles_alone own_run p x y s f is unfaulted = at_folder p is (λ q. Follows own_run plan_cause (put_back own_run q) x y (Ok s) → SettlesInStory own_run q s x.files.story y.files.story) by_name f
  where
    by_name : (path name : List ℕ) → Follows own_run plan_cause (put_back own_run (Folder path name)) x y (Ok s) → SettlesInStory own_run (Folder path name) s x.files.story y.files.story
    by_name path name f = by_story x.files.story y.files.story f.went.grows (acts_made own_run x.files.story y.files.story f.went.log f.went.grows)
      where
        by_story : (old new : Option Story) → GrowsBy own_run old new (filed_in f.went.log) → AreMade own_run old new (acts (deeds_in f.went.log)) → SettlesInStory own_run (Folder path name) s old new
        by_story None None grows made = tt
        by_story None (Some new) grows made = absurd grows
        by_story (Some old) None grows made = absurd grows
        by_story (Some old) (Some new) grows made =
            put_back_alone own_run path name old new (filed_in f.went.log) x.hand y.hand (deeds_in f.went.log) s grows
            (λ failed. unfaulted (f.went.failed_cause (made_failed (deeds_in f.went.log) (rw (← made) at failed)))) (sym made) f.went.runs
